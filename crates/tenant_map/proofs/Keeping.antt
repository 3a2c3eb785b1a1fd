-- What follows from what is kept of each document.
use Rattle.std.proofs.Common.{◌≡◌, ◌≤◌, ◌<◌, ◌+◌, ◌*◌, ℕ, List, [], ◌∷◌, length, Bool, true, false, ◌&&◌, nat_le, IsTrue, Option, Some, None, Bor, IfSome, refl, sym, arith, length-append}
use Rattle.std.proofs.lemmas.Bool.Decides.{nat_tests}
use Rattle.std.specs.Option.{option_copied}
use Rattle.std.specs.List.{AllByRecursion, list_all}
use Rattle.std.proofs.lemmas.List.Sums.{sum_by-cons}
use Rattle.std.specs.Map.{lookup, keys_of, values_of}
use Rattle.std.specs.declared.vec.Vec.{Vec}
use Rattle.std.specs.declared.alloc.Global.{Global}
use Rattle.json_tape.specs.Document.{Doc, tree_of}
use Rattle.json_tape.specs.Tree.{Tree}
use Rattle.json_tape.specs.Verdict.{text_limit, IsAccepted}
use Rattle.json_text.specs.declared.tape.TextFault.TheVariants.{TooLong}
use Rattle.store_names.specs.Names.{is_document_name, is_name_byte}
use Rattle.tenant_map.specs.Kept.{AreKept, texts}
use Rattle.tenant_map.specs.Maps.{Documents, bytes_of}
use Rattle.tenant_map.specs.Listings.{name_field, names_listed}
use Rattle.tenant_map.proofs.Seen.{lookup_holds}

-- an accepted text is within the limit
pub short_text : (text : List ℕ) (t : Tree) → IsAccepted text t → length text ≤ text_limit
short_text text t a = let h : text_limit < length text → ⊥ = a.1 TooLong in omega arith

IsShort : Doc → Type 0
IsShort d = length d.text ≤ text_limit

shorts : (es : List (Vec ℕ Global × Doc)) → AreKept es → AllByRecursion (λ e. IsShort e.1) es
unfolding IsShort
shorts [] a = tt
shorts (e ∷ es) a = (short_text e.1.text (tree_of e.1) a.0.accepted, shorts es a.1)

pub short_at : (test : Vec ℕ Global → Bool) (es : List (Vec ℕ Global × Doc)) (d : Doc) → AreKept es → lookup test es ≡ Some d → length d.text ≤ text_limit
unfolding IsShort
short_at test es d a h = lookup_holds IsShort test es d (shorts es a) h

pub short_if : (test : Vec ℕ Global → Bool) (es : List (Vec ℕ Global × Doc)) → AreKept es → (r : Option Doc) → r ≡ lookup test es → IfSome r (λ d. length d.text ≤ text_limit)
short_if test es a None h = tt
short_if test es a (Some d) h = short_at test es d a (sym h)

pub short_lent : (test : Vec ℕ Global → Bool) (es : List (Vec ℕ Global × Doc)) → AreKept es → (r : Option (Bor Doc)) → option_copied r ≡ lookup test es → IfSome r (λ d. length d.now.text ≤ text_limit)
short_lent test es a None h = tt
short_lent test es a (Some d) h = short_at test es d.now a (sym h)

short_by : (n : ℕ) (a b c : Bool) → nat_le 1 n ≡ a → nat_le n 128 ≡ b → IsTrue (a && b && c) → n ≤ 128
short_by n true true c p q h = grind (arith, nat_tests)
short_by n true false c p q h = absurd (cc)
short_by n false b c p q h = absurd (cc)

pub short_name : (name : List ℕ) → IsTrue (is_document_name name) → length name ≤ 128
short_name name h = short_by (length name) _ _ (list_all is_name_byte name) refl refl h

pub bytes-cons : (d : List ℕ × List ℕ) (ds : Documents) → bytes_of (d ∷ ds) ≡ length d.1 + bytes_of ds
bytes-cons d ds = sum_by-cons length d.1 (values_of ds)

-- each name takes at most 129 bytes
pub listed_short : (es : List (Vec ℕ Global × Doc)) → AreKept es → length (names_listed (keys_of (texts es))) ≤ 129 * length es
listed_short [] a = omega arith
listed_short (e ∷ es) a =
    let h = listed_short es a.1 in let s = a.0.short in
    omega (arith, length-append (name_field e.0.items) (names_listed (keys_of (texts es))))
