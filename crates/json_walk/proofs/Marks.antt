-- Where each word that was read is within the limits of numbers, each number of the tape is.
use Rattle.json_text.proofs.Names.{◌≡◌, ℕ, zero, suc, ◌+◌, ◌-◌, ◌<◌, List, [], ◌∷◌, ◌++◌, length, take, drop, get_or, Option, Some, None, Bool, true}
use Rattle.json_text.proofs.Names.{false, cond, refl, sym, ap, ◌∙◌, subst, arith, drop_more, Tree, IsText, Stands, bytes_at, IsBadNumber}
use Rattle.json_text.proofs.Names.{AreWithinLimits, class, IsToken, sign, text, word, is_atom, Taken, Token, Word, State, takes_value}
use Rattle.json_text.proofs.Names.{put_leaf, put_open, change_at, step, start, kind_of_shape, closed, Ok, not, ◌||◌, or_parts}
use Rattle.json_walk.proofs.Names.{IsWithinLimits, Marked, Kind, Extent, Entry, Shape, Level, Root, Inside, Want, Open}
use Rattle.std.proofs.lemmas.Option.{cond_some}
use Rattle.json_text.specs.declared.tape.Kind.TheVariants as kinds
use Rattle.json_walk.proofs.ShortNumbers.{number_at}
use Rattle.json_text.proofs.Complete.{atom_by_class}

-- the kind of the entry at a place
abbrev kind_at : List Entry → ℕ → Option Kind
kind_at [] n = None
kind_at (e ∷ es) zero = Some e.kind
kind_at (e ∷ es) (suc n) = kind_at es n

-- an open container's entry has its kind
abbrev IsOpen : List Entry → Level → ℕ → Type 0
IsOpen es Root n = Unit {0}
IsOpen es (Inside shape) n = kind_at es n ≡ Some (kind_of_shape shape)

abbrev AreOpen : List Entry → List Open → Type 0
AreOpen es [] = Unit {0}
AreOpen es (o ∷ os) = IsOpen es o.level o.entry × AreOpen es os

kind_more : (es : List Entry) (e : Entry) (n : ℕ) (k : Kind) → kind_at es n ≡ Some k → kind_at (es ++ e ∷ []) n ≡ Some k
kind_more [] e n k h = absurd (cc)
kind_more (x ∷ es) e zero k h = h
kind_more (x ∷ es) e (suc n) k h = kind_more es e n k h

kind_last : (es : List Entry) (e : Entry) → kind_at (es ++ e ∷ []) (length es) ≡ Some e.kind
kind_last [] e = refl
kind_last (x ∷ es) e = kind_last es e

open_more : (es : List Entry) (e : Entry) (os : List Open) → AreOpen es os → AreOpen (es ++ e ∷ []) os
open_more es e [] h = tt
open_more es e (o ∷ os) h = grind (arith, open_more es e os h.1, kind_more)

module _ (p children after : ℕ) where
  kind_closed : (es : List Entry) (i n : ℕ) → kind_at (change_at es i (closed p children after)) n ≡ kind_at es n
  kind_closed (e ∷ es) (suc i) (suc n) = kind_closed es i n
  kind_closed _ _ _ = refl

  open_closed : (es : List Entry) (i : ℕ) (os : List Open) → AreOpen es os → AreOpen (change_at es i (closed p children after)) os
  open_closed es i [] h = tt
  open_closed es i (o ∷ os) h = grind (arith, open_closed es i os h.1, kind_closed)

  good_closed : (bytes : List ℕ) (es : List Entry) (i : ℕ) → (kind_at es i ≡ Some kinds.Number → ⊥) → AreWithinLimits bytes es → AreWithinLimits bytes (change_at es i (closed p children after))
  good_closed bytes [] i n h = tt
  good_closed bytes (e ∷ es) zero n h = ((λ k. absurd (n (ap Some k))), h.1)
  good_closed bytes (e ∷ es) (suc i) n h = (h.0, good_closed bytes es i n h.1)

good_more : (bytes : List ℕ) (es : List Entry) (e : Entry) → AreWithinLimits bytes es → (e.kind ≡ kinds.Number → IsWithinLimits (bytes_at bytes e.source)) → AreWithinLimits bytes (es ++ e ∷ [])
good_more bytes [] e h g = (g, tt)
good_more bytes (x ∷ es) e h g = (h.0, good_more bytes es e h.1 g)

-- what a reader keeps with its mark
pub record Kept (bytes : List ℕ) (exceeds : Bool) (s : State) : Type 0 where
  pub opened : AreOpen s.entries s.opens
  pub good : exceeds ≡ false → AreWithinLimits bytes s.entries

pub kept_start : (bytes : List ℕ) → Kept bytes false start
kept_start bytes = record { opened = (tt, tt); good = (λ e. tt) }

no_number : (shape : Shape) → kind_of_shape shape ≡ kinds.Number → ⊥
no_number shape e = grind arith

module _ (bytes : List ℕ) (exceeds : Bool) where
  leaf_kept : (x : Extent) (kind : Kind) (es : List Entry) (os : List Open) (w : Want) (name : Option Extent) (d : ℕ) (s' : State) → put_leaf x kind es os w name d ≡ Some s' → AreOpen es os → (exceeds ≡ false → AreWithinLimits bytes es) → (exceeds ≡ false → kind ≡ kinds.Number → IsWithinLimits (bytes_at bytes x)) → Kept bytes exceeds s'
  leaf_kept x kind es os w name d s' e o h g = grind (arith, cond_some, open_more, good_more)

  open_kept : (shape : Shape) (p : ℕ) (es : List Entry) (os : List Open) (w : Want) (name : Option Extent) (d : ℕ) (s' : State) → put_open shape p es os w name d ≡ Some s' → AreOpen es os → (exceeds ≡ false → AreWithinLimits bytes es) → Kept bytes exceeds s'
  open_kept shape p es [] w name d s' e o h = absurd (cc)
  open_kept shape p es (t ∷ os) w name d s' e o h = let k = cond_some (takes_value w) _ s' e in
      subst (Kept bytes exceeds) k.1 (record { opened = (kind_last es _, open_more es _ (t ∷ os) o); good = (λ m. good_more bytes es _ (h m) (λ n. absurd (no_number shape n))) })

  colon_kept : (b : Bool) (s s' : State) → cond b (Some s) None ≡ Some s' → Kept bytes exceeds s → Kept bytes exceeds s'
  colon_kept b s s' e k = subst (Kept bytes exceeds) (cond_some b s s' e).1 k

  -- what is asked of a word
  abbrev WordFits : Token → Type 0
  WordFits (Word x kind) = exceeds ≡ false → IsWithinLimits (bytes_at bytes x)
  WordFits _ = Unit {0}

  step_kept : (tok : Token) (s s' : State) → step tok s ≡ Some s' → Kept bytes exceeds s → WordFits tok → Kept bytes exceeds s'
  step_kept tok s s' e k f = search (arith, open_kept, colon_kept, leaf_kept, cond_some, open_closed, good_closed)

module _ (bytes : List ℕ) (exceeds : Bool) where
  word_fits : {p : ℕ} {vs rest : List ℕ} {tok : Token} → IsToken p vs tok rest → (b : ℕ) (cs : List ℕ) → b ∷ cs ≡ vs ++ rest → (exceeds ≡ false → is_atom b ≡ true → IsWithinLimits (take (length vs) (drop p bytes))) → WordFits bytes exceeds tok
  word_fits (sign {p = p} {b = b'} {tok = tok} h) b cs e f = grind arith
  word_fits (text cs' h) b cs e f = tt
  word_fits (word {b = b'} {vs = vs} at over k) b cs e f = λ m. f m (atom_by_class b (let g : b ≡ b' = cc in ap class g ∙ at.0))

-- a word leaves the mark as it is only where it is within the limits
pub unmarked : (old : Bool) → old ≡ (old || not true)
unmarked old = grind arith

pub word_marked : (bytes bs : List ℕ) (i : ℕ) (old keeps new : Bool) → bs ≡ take (length bs) (drop i bytes) → (keeps ≡ true → IsWithinLimits bs) → new ≡ (old || not keeps) → Marked bytes i old (Ok (i + length bs)) new
word_marked bytes bs i old keeps new e h m = grind (arith, or_parts)

pub kept_token : (bytes : List ℕ) (i j : ℕ) (old new : Bool) (s s' : State) → i < length bytes → Taken bytes i j s s' → (new ≡ false → (old ≡ false) × (is_atom (get_or bytes i 0) ≡ true → IsWithinLimits (take (j - i) (drop i bytes)))) → Kept bytes old s → Kept bytes new s'
kept_token bytes i j old new s s' h t m k = let weaker : Kept bytes new s = record { opened = k.opened; good = (λ e. k.good (m e).0) } in
    let long : j - i ≡ length t.vs = (let d = t.end in omega arith) in step_kept bytes new t.tok s s' t.steps weaker
    (word_fits bytes new t.is_token (get_or bytes i 0) (drop (i + 1) bytes) (sym (drop_more bytes i 0 h) ∙ t.stands) (λ e n. subst (λ n. IsWithinLimits (take n (drop i bytes))) long ((m e).1 n)))

-- ---- No number of such a tape breaks the limit

good_at : (bytes : List ℕ) (es : List Entry) (i : ℕ) (d : Entry) → AreWithinLimits bytes es → i < length es → (get_or es i d).kind ≡ kinds.Number → IsWithinLimits (bytes_at bytes (get_or es i d).source)
good_at bytes [] i d h l k = absurd (omega arith)
good_at bytes (e ∷ es) zero d h l k = h.0 k
good_at bytes (e ∷ es) (suc i) d h l k = good_at bytes es i d h.1 (omega arith) k

pub none_beyond : (bytes : List ℕ) (tape : List Entry) (t : Tree) → IsText bytes t → Stands tape t → AreWithinLimits bytes tape → (i : ℕ) (d : Entry) → i < length tape → IsBadNumber bytes (get_or tape i d) → ⊥
none_beyond bytes tape t h e s i d l b = b.1 (number_at bytes tape t h e i d l b, good_at bytes tape i d s l b.0)
