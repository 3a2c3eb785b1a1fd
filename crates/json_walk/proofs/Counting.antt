-- Places and source bytes, over the text and over the tree.
use Rattle.json_text.proofs.Names.{◌≡◌, ◌≢◌, ℕ, zero, suc, ◌+◌, ◌-◌, ◌<◌, ◌≤◌, inl, inr, Bool, true, false, not, ◌&&◌, ◌||◌, cond, List, [], ◌∷◌}
use Rattle.json_text.proofs.Names.{◌++◌, length, drop, refl, sym, ap, subst, ◌∙◌, arith, append_assoc, length-append, nat_tests, cases_lt, append-nil}
use Rattle.json_text.proofs.Names.{Source, Spelt, Plain, Short, Unit4, Name, Scalar, Null, True, False, Num, Str, Tree, Arr, Obj, Elements, NoElement}
use Rattle.json_text.proofs.Names.{Element, Members, NoMember, Member, then_element, then_member, AreBlanks, IsHexDigit, IsShort, IsChar, AreChars}
use Rattle.json_text.proofs.Names.{IsString, at, IsScalarText, IsValue, IsElements, IsMembers, IsMember, IsText, scalar, no_array, array, no_object}
use Rattle.json_text.proofs.Names.{object, one_element, next_element, one_member, next_member, member, Atom, class, AreAtoms, NoAtomFirst, text, word}
use Rattle.json_text.proofs.Names.{IsWord, turn}
use Rattle.json_walk.proofs.Names.{op_byte, blank_byte, byte, is_inside, places, IsSeam, is_plain_atom, Kind, Between}
use Rattle.std.proofs.Common.{filter, ◌==◌}
use Rattle.std.specs.List.{range_with_len}
use Rattle.byte_masks.specs.Classes.{control_byte}
use Rattle.structural_index.specs.Places.{run_before, quotes_before, is_atom, after_atom, is_place, is_wrong, is_lone, places_from}
use Rattle.structural_index.proofs.Skips.{past_blank}
use Rattle.structural_index.proofs.Seams as seams
use Rattle.json_text.specs.declared.tape.Kind.TheVariants as kinds
use Rattle.json_walk.specs.Counting.{is_source_byte, source_bytes_before, source_bytes, source_bytes_of_elements, source_bytes_of_members, tokens, tokens_of_elements, tokens_of_members}
use Rattle.json_text.specs.declared.modes.Turn.TheVariants.{Go}
use Rattle.json_text.proofs.Strings.{ArePlain, plain_bytes}
use Rattle.json_text.proofs.Chars.{number_atoms}
use Rattle.json_text.proofs.Names.{false≢true, HasLone, Leaf, HasPart, element, value, IsElementOf, first_element, later_element, IsValueOf, first_value, later_value}
use Rattle.json_text.specs.Parts.{itself, IsNameOf, first_name, later_name}
use Rattle.json_text.specs.Verdict.{SpellsLone}
use Rattle.structural_index.proofs.JudgedEscapes.{free_behind, free_paired}
use Rattle.json_walk.proofs.LoneStrings.{lone_string}
use Rattle.json_walk.proofs.Bridge.{Each, each_append, uncons, drop_past, stands, string_ends, string_right, right_behind, word_no_slash, token_place, blank_from, length_within, atoms_each}
use Rattle.json_text.proofs.Complete.{no_atom-blanks}
use Rattle.json_text.proofs.Repeats.{or_right}
use Rattle.std.proofs.Math.Bool.{and-false}
use Rattle.json_text.proofs.Follows.{regroup3, regroup_more}

pub source_suc : (bytes : List ℕ) (i : ℕ) → source_bytes_before bytes (suc i) ≡ cond (is_source_byte bytes i) (suc (source_bytes_before bytes i)) (source_bytes_before bytes i)
unfolding source_bytes_before
source_suc bytes i = refl

-- what is read from byte i to before byte j: so many places, so many source bytes, and something holds if a surrogate is lone
pub record Crossed (Q : Type 0) (bytes : List ℕ) (i j : ℕ) (rest : List ℕ) (n w : ℕ) : Type 0 where
  pub within : j ≤ length bytes
  pub seam : IsSeam bytes j
  pub count : length (places_from bytes i) ≡ n + length (places_from bytes j)
  pub weight : source_bytes_before bytes j ≡ source_bytes_before bytes i + w
  pub left : drop j bytes ≡ rest
  pub clean : (k : ℕ) → i ≤ k → k < j → (is_inside bytes k && control_byte (byte bytes k)) ≡ false
  pub right : (k : ℕ) → i < k → k ≤ j → is_wrong bytes k ≡ false
  pub lone : (k : ℕ) → i < k → k ≤ j → is_lone bytes k ≡ true → Q

clean_outside : (bytes : List ℕ) (k : ℕ) → is_inside bytes k ≡ false → (is_inside bytes k && control_byte (byte bytes k)) ≡ false
clean_outside bytes k h = ap (λ x. x && control_byte (byte bytes k)) h

-- behind bytes that are no backslashes nothing is escaped
right_along : (bytes : List ℕ) (i j : ℕ) → ((k : ℕ) → i ≤ k → k < j → (byte bytes k == 92) ≡ false) → (k : ℕ) → i < k → k ≤ j → is_wrong bytes k ≡ false
right_along bytes i j h zero a b = absurd (omega arith)
right_along bytes i j h (suc k) a b = right_behind bytes k (h k (omega arith) (omega arith))

-- one byte that is none
one_free : (bytes : List ℕ) (i : ℕ) → (byte bytes i == 92) ≡ false → (k : ℕ) → i ≤ k → k < suc i → (byte bytes k == 92) ≡ false
one_free bytes i h k a b = let f : k ≡ i = omega arith in ap (λ x. byte bytes x == 92) f ∙ h

right_one : (bytes : List ℕ) (i : ℕ) → (byte bytes i == 92) ≡ false → (k : ℕ) → i < k → k ≤ suc i → is_wrong bytes k ≡ false
right_one bytes i h = right_along bytes i (suc i) (one_free bytes i h)

-- nor is a surrogate lone there
lone_along : (Q : Type 0) (bytes : List ℕ) (i j : ℕ) → ((k : ℕ) → i ≤ k → k < j → (byte bytes k == 92) ≡ false) → (k : ℕ) → i < k → k ≤ j → is_lone bytes k ≡ true → Q
lone_along Q bytes i j h zero a b l = absurd (omega arith)
lone_along Q bytes i j h (suc k) a b l = absurd (false≢true (sym (free_paired bytes (suc k) (free_behind bytes k (h k (omega arith) (omega arith)))) ∙ l))

blank_no_slash : (b : ℕ) → blank_byte b ≡ true → (b == 92) ≡ false
blank_no_slash b h = grind (arith, nat_tests)

op_no_slash : (b : ℕ) → op_byte b ≡ true → (b == 92) ≡ false
op_no_slash b h = grind (arith, nat_tests)

clean_byte : (a b : Bool) → b ≡ false → (a && b) ≡ false
clean_byte a b h = grind arith

pub cross_blanks : (Q : Type 0) (bytes : List ℕ) (i : ℕ) (s rest : List ℕ) → i ≤ length bytes → IsSeam bytes i → drop i bytes ≡ s ++ rest → AreBlanks s → (j : ℕ) × Crossed Q bytes i j rest 0 0
cross_blanks Q bytes i [] rest l m e h = (i, record { within = l; seam = m; count = omega arith; weight = omega arith; left = e; clean = λ k p q. absurd (omega arith); right = λ k p q. absurd (omega arith); lone = λ k p q. absurd (omega arith) })
cross_blanks Q bytes i (b ∷ s) rest l m e h = let u = uncons bytes i b (s ++ rest) e in let within = u.within in
    let blank = ap blank_byte u.here ∙ blank_from b h.0 in let p = seams.seam_blank bytes i m blank in
    let x = cross_blanks Q bytes (suc i) s rest (omega arith) p.1 u.left h.1 in
    let none : is_source_byte bytes i ≡ false = ap (λ t. t || not (blank_byte (byte bytes i) || op_byte (byte bytes i))) m.outside ∙ ap (λ t. not (t || op_byte (byte bytes i))) blank in
    let same : source_bytes_before bytes (suc i) ≡ source_bytes_before bytes i = source_suc bytes i ∙ ap (λ t. cond t (suc (source_bytes_before bytes i)) (source_bytes_before bytes i)) none in
    (x.0, record { within = x.1.within; seam = x.1.seam; count = ap length (past_blank bytes i within p.0) ∙ x.1.count; weight = x.1.weight ∙ ap (λ n. n + 0) same; left = x.1.left; clean = λ k p q. elim (cases_lt i k) [ inl y ↦ x.1.clean k y q | inr y ↦ (let f : k ≡ i = omega arith in clean_outside bytes k (ap (is_inside bytes) f ∙ m.outside)) ]; right = λ k p q. elim (cases_lt (suc i) k) [ inl y ↦ x.1.right k y q | inr y ↦ right_one bytes i (blank_no_slash (byte bytes i) blank) k p y ]; lone = λ k p q. elim (cases_lt (suc i) k) [ inl y ↦ x.1.lone k y q | inr y ↦ lone_along Q bytes i (suc i) (one_free bytes i (blank_no_slash (byte bytes i) blank)) k p y ] })

-- n source bytes from i on
source_run : (bytes : List ℕ) (i n : ℕ) → ((k : ℕ) → i ≤ k → k < i + n → is_source_byte bytes k ≡ true) → source_bytes_before bytes (i + n) ≡ source_bytes_before bytes i + n
source_run bytes i zero h = let e : i + 0 ≡ i = omega arith in let f : source_bytes_before bytes i ≡ source_bytes_before bytes i + 0 = omega arith in ap (source_bytes_before bytes) e ∙ f
source_run bytes i (suc n) h = grind (arith, source_run bytes i n (λ k a b. h k a (omega arith)), source_suc bytes (i + n))

-- a token without weight
pub cross_sign : (Q : Type 0) (bytes : List ℕ) (i b : ℕ) (rest : List ℕ) → IsSeam bytes i → drop i bytes ≡ b ∷ rest → op_byte b ≡ true → Crossed Q bytes i (suc i) rest 1 0
cross_sign Q bytes i b rest m e o =
    let u = uncons bytes i b rest e in let within = u.within in let op = ap op_byte u.here ∙ o in let q = seams.passes_sign bytes i m within op in
    let count : length (places_from bytes i) ≡ suc (length (places_from bytes (suc i))) = ap length q.one in
    let none : is_source_byte bytes i ≡ false = ap (λ t. t || not (blank_byte (byte bytes i) || op_byte (byte bytes i))) m.outside ∙ ap (λ t. not (blank_byte (byte bytes i) || t)) op ∙ or_true (blank_byte (byte bytes i)) in
    let same : source_bytes_before bytes (suc i) ≡ source_bytes_before bytes i = source_suc bytes i ∙ ap (λ t. cond t (suc (source_bytes_before bytes i)) (source_bytes_before bytes i)) none in
    record { within = omega arith; seam = q.seam; count = omega arith; weight = omega arith; left = u.left; clean = λ k p r. (let f : k ≡ i = omega arith in clean_outside bytes k (ap (is_inside bytes) f ∙ m.outside)); right = right_one bytes i (op_no_slash (byte bytes i) op); lone = lone_along Q bytes i (suc i) (one_free bytes i (op_no_slash (byte bytes i) op)) }
  where
    or_true : (a : Bool) → not (a || true) ≡ false
    or_true a = grind arith

source_inside : (bytes : List ℕ) (k : ℕ) → is_inside bytes k ≡ true → is_source_byte bytes k ≡ true
source_inside bytes k h = ap (λ t. t || not (blank_byte (byte bytes k) || op_byte (byte bytes k))) h

-- no byte of a string is a control character
high_turn : (b : ℕ) → turn Between b ≡ Go Between → control_byte b ≡ false
high_turn b h = grind (arith, nat_tests)

plain_clean : (bs : List ℕ) → ArePlain bs → Each (λ b. control_byte b ≡ false) bs
plain_clean [] h = tt
plain_clean (b ∷ bs) h = (high_turn b h.0, plain_clean bs h.1)

short_clean : (l : ℕ) → IsShort l → control_byte l ≡ false
short_clean l h = grind (arith, nat_tests)

hex_clean : (b n : ℕ) → IsHexDigit b n → control_byte b ≡ false
hex_clean b n h = grind (arith, nat_tests)

char_clean : (c : Spelt) (one : List ℕ) → IsChar one c → Each (λ b. control_byte b ≡ false) one
char_clean (Plain c) one (s, h, n, m, is) = plain_clean one (subst ArePlain (sym is) (plain_bytes c h n m))
char_clean (Short l) one (h, is) = subst (Each (λ b. control_byte b ≡ false)) (sym is) (refl, (short_clean l h, tt))
char_clean (Unit4 u) one (a, b, c, d, x, y, z, w, ha, hb, hc, hd, eu, is) =
    subst (Each (λ b. control_byte b ≡ false)) (sym is) (refl, (refl, (hex_clean a x ha, (hex_clean b y hb, (hex_clean c z hc, (hex_clean d w hd, tt))))))

chars_clean : (cs : List Spelt) (inside : List ℕ) → AreChars inside cs → Each (λ b. control_byte b ≡ false) inside
chars_clean [] inside h = subst (Each (λ b. control_byte b ≡ false)) (sym h) tt
chars_clean (c ∷ cs) inside (one, others, h, hs, is) = grind (arith, chars_clean cs others hs, each_append, char_clean)

string_clean : (vs : List ℕ) (cs : List Spelt) → IsString vs cs → Each (λ b. control_byte b ≡ false) vs
string_clean vs cs h = grind (arith, each_append, chars_clean)

pub cross_string : (Q : Type 0) (bytes : List ℕ) (i : ℕ) (vs rest : List ℕ) (cs : List Spelt) → (HasLone cs → Q) → IsSeam bytes i → drop i bytes ≡ vs ++ rest → IsString vs cs → Crossed Q bytes i (i + length vs) rest 1 (length vs)
cross_string Q bytes i vs rest cs own m e (inside, h, is) =
    let u = uncons bytes i 34 ((inside ++ 34 ∷ []) ++ rest) (e ∙ ap (λ l. l ++ rest) is) in let o = seams.opens_at_seam bytes i m u.here in
    let size : length vs ≡ suc (length inside + 1) = ap length is ∙ ap suc (length-append inside (34 ∷ [])) in
    let end : suc (i + suc (length inside)) ≡ i + length vs = omega arith in
    let span = string_ends bytes i (i + suc (length inside)) vs rest cs e (inside, h, is) o end in
    let t = token_place bytes i i vs rest _ m e (text cs (inside, h, is)) in
    let count : length (places_from bytes i) ≡ suc (length (places_from bytes (i + length vs))) = ap length t.one in
    let first : is_source_byte bytes i ≡ true = or_right (is_inside bytes i) (not (blank_byte (byte bytes i) || op_byte (byte bytes i))) (ap (λ b. not (blank_byte b || op_byte b)) u.here) in
    record {
      within = length_within bytes i vs rest e (omega arith);
      seam = t.seam;
      count = omega arith;
      weight = source_run bytes i (length vs) (λ k a b. elim (cases_lt i k) [
        | inl x ↦ source_inside bytes k (seams.inside_at bytes i (i + suc (length inside)) span k x (omega arith))
        | inr x ↦ (let f : k ≡ i = omega arith in ap (is_source_byte bytes) f ∙ first)
      ]);
      left = drop_past bytes i vs rest e;
      clean = λ k p q. clean_byte (is_inside bytes k) (control_byte (byte bytes k)) (stands (λ b. control_byte b ≡ false) bytes i vs rest (string_clean vs cs (inside, h, is)) e k p q);
      right = string_right bytes i vs rest cs e (inside, h, is);
      lone = λ k p q l. own (lone_string bytes i vs rest cs e (inside, h, is) k p q l);
    }

plain_source : (b : ℕ) → is_plain_atom b ≡ true → not (blank_byte b || op_byte b) ≡ true
plain_source b h = grind arith

pub cross_word : (Q : Type 0) (bytes : List ℕ) (i b : ℕ) (vs rest : List ℕ) (kind : Kind) → IsSeam bytes i → drop i bytes ≡ (b ∷ vs) ++ rest → AreAtoms (b ∷ vs) → NoAtomFirst rest → IsWord (b ∷ vs) kind → Crossed Q bytes i (i + suc (length vs)) rest 1 (suc (length vs))
cross_word Q bytes i b vs rest kind m e a n k = let t = token_place bytes i i (b ∷ vs) rest _ m e (word a n k) in
    let count : length (places_from bytes i) ≡ suc (length (places_from bytes (i + suc (length vs)))) = ap length t.one in record {
      within = length_within bytes i (b ∷ vs) rest e (omega arith);
      seam = t.seam;
      count = omega arith;
      weight = source_run bytes i (suc (length vs)) (λ x c d. or_right (is_inside bytes x) (not (blank_byte (byte bytes x) || op_byte (byte bytes x))) (plain_source (byte bytes x) (stands (λ y. is_plain_atom y ≡ true) bytes i (b ∷ vs) rest (atoms_each (b ∷ vs) a) e x c d)));
      left = drop_past bytes i (b ∷ vs) rest e;
      clean = λ x p q. (let f : i + (x - i) ≡ x = omega arith in clean_outside bytes x (ap (is_inside bytes) (sym f) ∙ seams.atoms_outside bytes i m.outside (x - i) (λ y c d. stands (λ z. is_plain_atom z ≡ true) bytes i (b ∷ vs) rest (atoms_each (b ∷ vs) a) e y c (omega arith))));
      right = right_along bytes i (i + suc (length vs)) (stands (λ c. (c == 92) ≡ false) bytes i (b ∷ vs) rest (word_no_slash (b ∷ vs) kind k) e);
      lone = lone_along Q bytes i (i + suc (length vs)) (stands (λ c. (c == 92) ≡ false) bytes i (b ∷ vs) rest (word_no_slash (b ∷ vs) kind k) e);
    }

-- ---- the tree

pub scalar_word : (bytes : List ℕ) (kind : Kind) → IsWord bytes kind → AreAtoms bytes
scalar_word bs kind h = grind (arith, number_atoms)

word_not_empty : (kind : Kind) → IsWord [] kind → ⊥
word_not_empty kind h = grind arith

cross_kind : (Q : Type 0) (bytes : List ℕ) (i : ℕ) (vs rest : List ℕ) (kind : Kind) → IsSeam bytes i → drop i bytes ≡ vs ++ rest → NoAtomFirst rest → IsWord vs kind → Crossed Q bytes i (i + length vs) rest 1 (length vs)
cross_kind Q bytes i [] rest kind m e n k = absurd (word_not_empty kind k)
cross_kind Q bytes i (b ∷ vs) rest kind m e n k = cross_word Q bytes i b vs rest kind m e (scalar_word (b ∷ vs) kind k) n k

abbrev IsLoneScalar : Scalar → Type 0
IsLoneScalar (Str cs) = HasLone cs
IsLoneScalar _ = ⊥

cross_scalar : (Q : Type 0) (bytes : List ℕ) (i : ℕ) (vs rest : List ℕ) (s : Scalar) → (IsLoneScalar s → Q) → IsSeam bytes i → drop i bytes ≡ vs ++ rest → NoAtomFirst rest → IsScalarText vs s → Crossed Q bytes i (i + length vs) rest 1 (length vs)
cross_scalar Q bytes i vs rest Null own m e n h = cross_kind Q bytes i vs rest kinds.Null m e n h
cross_scalar Q bytes i vs rest True own m e n h = cross_kind Q bytes i vs rest (kinds.Bool true) m e n h
cross_scalar Q bytes i vs rest False own m e n h = cross_kind Q bytes i vs rest (kinds.Bool false) m e n h
cross_scalar Q bytes i vs rest Num own m e n h = cross_kind Q bytes i vs rest kinds.Number m e n h
cross_scalar Q bytes i vs rest (Str cs) own m e n h = cross_string Q bytes i vs rest cs own m e h

-- what comes after blanks and one of these bytes begins with no atom
sign_first : (b : ℕ) → op_byte b ≡ true → class b ≢ Atom
sign_first b h = λ e. grind (arith, nat_tests)

count_then_element : (es : Elements) (t : Tree) → tokens_of_elements (then_element es t) ≡ tokens_of_elements es + (tokens t + 1)
count_then_element NoElement t = omega arith
count_then_element (Element a es) t = let ih = count_then_element es t in omega arith

weight_then_element : (es : Elements) (t : Tree) → source_bytes_of_elements (then_element es t) ≡ source_bytes_of_elements es + source_bytes t
weight_then_element NoElement t = omega arith
weight_then_element (Element a es) t = let ih = weight_then_element es t in omega arith

count_then_member : (ms : Members) (n : Name) (t : Tree) → tokens_of_members (then_member ms n t) ≡ tokens_of_members ms + (tokens t + 3)
count_then_member NoMember n t = omega arith
count_then_member (Member m a ms) n t = let ih = count_then_member ms n t in omega arith

weight_then_member : (ms : Members) (n : Name) (t : Tree) → source_bytes_of_members (then_member ms n t) ≡ source_bytes_of_members ms + (length n.source.bytes + source_bytes t)
weight_then_member NoMember n t = omega arith
weight_then_member (Member m a ms) n t = let ih = weight_then_member ms n t in omega arith

some_elements : (es : Elements) (n : ℕ) (s : Source) → suc n ≡ tokens_of_elements es → tokens (Arr s es) ≡ suc (suc n)
some_elements es n s e = grind arith

some_members : (ms : Members) (n : ℕ) (s : Source) → suc n ≡ tokens_of_members ms → tokens (Obj s ms) ≡ suc (suc n)
some_members ms n s e = grind arith

-- from i on, up to some place
pub record Reaches (Q : Type 0) (bytes : List ℕ) (i : ℕ) (rest : List ℕ) (n w : ℕ) : Type 0 where
  pub end : ℕ
  pub crossed : Crossed Q bytes i end rest n w

reaches_both : (Q : Type 0) (bytes : List ℕ) (i : ℕ) (mid rest : List ℕ) (m n v w x y : ℕ) → (f : Reaches Q bytes i mid m v) → Reaches Q bytes f.end rest n w → x ≡ m + n → y ≡ v + w → Reaches Q bytes i rest x y
reaches_both Q bytes i mid rest m n v w x y f g e d = record {
  end = g.end;
  crossed = record {
    within = g.crossed.within;
    seam = g.crossed.seam;
    count = (let a = f.crossed.count in let b = g.crossed.count in omega arith);
    weight = (let a = f.crossed.weight in let b = g.crossed.weight in omega arith);
    left = g.crossed.left;
    clean = λ k p q. elim (cases_lt k f.end) [ inl l ↦ f.crossed.clean k p l | inr l ↦ g.crossed.clean k l q ];
    right = λ k p q. elim (cases_lt f.end k) [ inl l ↦ g.crossed.right k l q | inr l ↦ f.crossed.right k p l ];
    lone = λ k p q. elim (cases_lt f.end k) [ inl l ↦ g.crossed.lone k l q | inr l ↦ f.crossed.lone k p l ];
  };
}

reach_blanks : (Q : Type 0) (bytes : List ℕ) (i : ℕ) (s rest : List ℕ) → i ≤ length bytes → IsSeam bytes i → drop i bytes ≡ s ++ rest → AreBlanks s → Reaches Q bytes i rest 0 0
reach_blanks Q bytes i s rest l m e h = let x = cross_blanks Q bytes i s rest l m e h in record { end = x.0; crossed = x.1 }

-- behind what was read
then_blanks : (Q : Type 0) (bytes : List ℕ) (i : ℕ) (s rest : List ℕ) (n w : ℕ) → Reaches Q bytes i (s ++ rest) n w → AreBlanks s → Reaches Q bytes i rest n w
then_blanks Q bytes i s rest n w f h =
    reaches_both Q bytes i (s ++ rest) rest n 0 w 0 n w f (reach_blanks Q bytes f.end s rest f.crossed.within f.crossed.seam f.crossed.left h) (omega arith) (omega arith)

then_sign : (Q : Type 0) (bytes : List ℕ) (i b : ℕ) (rest : List ℕ) (n w : ℕ) → Reaches Q bytes i (b ∷ rest) n w → op_byte b ≡ true → Reaches Q bytes i rest (suc n) w
then_sign Q bytes i b rest n w f h = reaches_both Q bytes i (b ∷ rest) rest n 1 w 0 (suc n) w f (record { end = suc f.end; crossed = cross_sign Q bytes f.end b rest f.crossed.seam f.crossed.left h }) (omega arith) (omega arith)

-- a container's first byte
first_sign : (Q : Type 0) (bytes : List ℕ) (i b : ℕ) (rest : List ℕ) → IsSeam bytes i → drop i bytes ≡ b ∷ rest → op_byte b ≡ true → Reaches Q bytes i rest 1 0
first_sign Q bytes i b rest m e h = record { end = suc i; crossed = cross_sign Q bytes i b rest m e h }

-- some part of the tree has a lone surrogate
abbrev pub HasLonePart : Tree → Type 0
HasLonePart t = (part : Tree) × HasPart t part × SpellsLone part

front_element : (a : Tree) {es : Elements} {u : Tree} → IsElementOf es u → IsElementOf (then_element es a) u
front_element a first_element = first_element
front_element a (later_element h) = later_element (front_element a h)

last_element : (es : Elements) (a : Tree) → IsElementOf (then_element es a) a
last_element NoElement a = first_element
last_element (Element t es) a = later_element (last_element es a)

front_value : (n : Name) (a : Tree) {ms : Members} {u : Tree} → IsValueOf ms u → IsValueOf (then_member ms n a) u
front_value n a first_value = first_value
front_value n a (later_value h) = later_value (front_value n a h)

last_value : (ms : Members) (n : Name) (a : Tree) → IsValueOf (then_member ms n a) a
last_value NoMember n a = first_value
last_value (Member m t ms) n a = later_value (last_value ms n a)

front_name : (n : Name) (a : Tree) {ms : Members} {o : Name} → IsNameOf ms o → IsNameOf (then_member ms n a) o
front_name n a first_name = first_name
front_name n a (later_name h) = later_name (front_name n a h)

last_name : (ms : Members) (n : Name) (a : Tree) → IsNameOf (then_member ms n a) n
last_name NoMember n a = first_name
last_name (Member m t ms) n a = later_name (last_name ms n a)

scalar_lone : {whole : Tree} (src : Source) (s : Scalar) → HasPart whole (Leaf src s) → IsLoneScalar s → HasLonePart whole
scalar_lone src (Str cs) here l = (Leaf src (Str cs), here, l)
scalar_lone src Null here l = absurd l
scalar_lone src True here l = absurd l
scalar_lone src False here l = absurd l
scalar_lone src Num here l = absurd l

mutual
  reach_value : (whole : Tree) (bytes : List ℕ) (i p : ℕ) (vs rest : List ℕ) (t : Tree) → HasPart whole t → IsSeam bytes i → drop i bytes ≡ vs ++ rest → NoAtomFirst rest → IsValue p vs t → Reaches (HasLonePart whole) bytes i rest (tokens t) (source_bytes t)
  reach_value whole bytes i p vs rest t here m e n (scalar {s = s} h) = record { end = i + length vs; crossed = cross_scalar (HasLonePart whole) bytes i vs rest s (scalar_lone _ s here) m e n h }
  reach_value whole bytes i p vs rest t here m e n (no_array s h) =
      let a = first_sign (HasLonePart whole) bytes i 91 (s ++ (93 ∷ rest)) m (e ∙ ap (λ l. 91 ∷ l) (append_assoc s (93 ∷ []) rest)) refl in
      then_sign (HasLonePart whole) bytes i 93 rest 1 0 (then_blanks (HasLonePart whole) bytes i s (93 ∷ rest) 1 0 a h) refl
  reach_value whole bytes i p vs rest t here m e n (array s body s' {es = es} h x h') =
      let a = first_sign (HasLonePart whole) bytes i 91 (s ++ (body ++ (s' ++ (93 ∷ rest)))) m (e ∙ ap (λ l. 91 ∷ l) (regroup3 s body s' 93 rest)) refl in
      let b = then_blanks (HasLonePart whole) bytes i s (body ++ (s' ++ (93 ∷ rest))) 1 0 a h in
      let c = reach_elements whole bytes b.end _ body (s' ++ (93 ∷ rest)) es (λ u h. element here h) b.crossed.seam b.crossed.left (no_atom-blanks s' (93 ∷ rest) h' (sign_first 93 refl)) x in
      let d = reaches_both (HasLonePart whole) bytes i _ _ 1 c.0 0 (source_bytes_of_elements es) (suc c.0) (source_bytes_of_elements es) b c.2 (omega arith) (omega arith) in
      let f = then_sign (HasLonePart whole) bytes i 93 rest (suc c.0) (source_bytes_of_elements es) (then_blanks (HasLonePart whole) bytes i s' (93 ∷ rest) (suc c.0) (source_bytes_of_elements es) d h') refl in
      subst (λ k. Reaches (HasLonePart whole) bytes i rest k (source_bytes_of_elements es)) (sym (some_elements es c.0 (at 0 []) c.1)) f
  reach_value whole bytes i p vs rest t here m e n (no_object s h) =
      let a = first_sign (HasLonePart whole) bytes i 123 (s ++ (125 ∷ rest)) m (e ∙ ap (λ l. 123 ∷ l) (append_assoc s (125 ∷ []) rest)) refl in
      then_sign (HasLonePart whole) bytes i 125 rest 1 0 (then_blanks (HasLonePart whole) bytes i s (125 ∷ rest) 1 0 a h) refl
  reach_value whole bytes i p vs rest t here m e n (object s body s' {ms = ms} h x h') =
      let a = first_sign (HasLonePart whole) bytes i 123 (s ++ (body ++ (s' ++ (125 ∷ rest)))) m (e ∙ ap (λ l. 123 ∷ l) (regroup3 s body s' 125 rest)) refl in
      let b = then_blanks (HasLonePart whole) bytes i s (body ++ (s' ++ (125 ∷ rest))) 1 0 a h in
      let c = reach_members whole bytes b.end _ body (s' ++ (125 ∷ rest)) ms (λ u h. value here h) (λ o h l. (_, here, (o, h, l))) b.crossed.seam b.crossed.left (no_atom-blanks s' (125 ∷ rest) h' (sign_first 125 refl)) x in
      let d = reaches_both (HasLonePart whole) bytes i _ _ 1 c.0 0 (source_bytes_of_members ms) (suc c.0) (source_bytes_of_members ms) b c.2 (omega arith) (omega arith) in
      let f = then_sign (HasLonePart whole) bytes i 125 rest (suc c.0) (source_bytes_of_members ms) (then_blanks (HasLonePart whole) bytes i s' (125 ∷ rest) (suc c.0) (source_bytes_of_members ms) d h') refl in
      subst (λ k. Reaches (HasLonePart whole) bytes i rest k (source_bytes_of_members ms)) (sym (some_members ms c.0 (at 0 []) c.1)) f

  reach_elements : (whole : Tree) (bytes : List ℕ) (i p : ℕ) (vs rest : List ℕ) (es : Elements) → ((u : Tree) → IsElementOf es u → HasPart whole u) → IsSeam bytes i → drop i bytes ≡ vs ++ rest → NoAtomFirst rest → IsElements p vs es → (k : ℕ) × (suc k ≡ tokens_of_elements es) × Reaches (HasLonePart whole) bytes i rest k (source_bytes_of_elements es)
  reach_elements whole bytes i p vs rest es each m e n (one_element {t = t} x) =
      let a = reach_value whole bytes i p vs rest t (each t first_element) m e n x in (tokens t, omega arith, subst (λ w. Reaches (HasLonePart whole) bytes i rest (tokens t) w) (omega arith) a)
  reach_elements whole bytes i p vs rest es each m e n (next_element front s s' bs {es = fs} {t = t} x h h' y) =
      let a = reach_elements whole bytes i p front (s ++ (44 ∷ (s' ++ (bs ++ rest)))) fs (λ u h. each u (front_element t h)) m (e ∙ regroup_more front s 44 s' bs rest) (no_atom-blanks s (44 ∷ (s' ++ (bs ++ rest))) h (sign_first 44 refl)) x in
      let w = source_bytes_of_elements fs in
      let b = then_blanks (HasLonePart whole) bytes i s' (bs ++ rest) (suc a.0) w (then_sign (HasLonePart whole) bytes i 44 (s' ++ (bs ++ rest)) a.0 w (then_blanks (HasLonePart whole) bytes i s (44 ∷ (s' ++ (bs ++ rest))) a.0 w a.2 h) refl) h' in
      let c = reach_value whole bytes b.end _ bs rest t (each t (last_element fs t)) b.crossed.seam b.crossed.left n y in let k = count_then_element fs t in let l = a.1 in
      (suc a.0 + tokens t, omega arith, reaches_both (HasLonePart whole) bytes i (bs ++ rest) rest (suc a.0) (tokens t) w (source_bytes t) (suc a.0 + tokens t) (source_bytes_of_elements (then_element fs t)) b c refl (weight_then_element fs t))

  reach_members : (whole : Tree) (bytes : List ℕ) (i p : ℕ) (vs rest : List ℕ) (ms : Members) → ((u : Tree) → IsValueOf ms u → HasPart whole u) → ((o : Name) → IsNameOf ms o → HasLone o.characters → HasLonePart whole) → IsSeam bytes i → drop i bytes ≡ vs ++ rest → NoAtomFirst rest → IsMembers p vs ms → (k : ℕ) × (suc k ≡ tokens_of_members ms) × Reaches (HasLonePart whole) bytes i rest k (source_bytes_of_members ms)
  reach_members whole bytes i p vs rest ms each names m e n (one_member {n = name} {t = t} x) = let a = reach_member whole bytes i p vs rest name t (each t first_value) (names name first_name) m e n x in
      (tokens t + 2, omega arith, subst (λ w. Reaches (HasLonePart whole) bytes i rest (tokens t + 2) w) (omega arith) a)
  reach_members whole bytes i p vs rest ms each names m e n (next_member front s s' bs {ms = fs} {n = name} {t = t} x h h' y) =
      let a = reach_members whole bytes i p front (s ++ (44 ∷ (s' ++ (bs ++ rest)))) fs (λ u h. each u (front_value name t h)) (λ o h. names o (front_name name t h)) m (e ∙ regroup_more front s 44 s' bs rest) (no_atom-blanks s (44 ∷ (s' ++ (bs ++ rest))) h (sign_first 44 refl)) x in
      let w = source_bytes_of_members fs in
      let b = then_blanks (HasLonePart whole) bytes i s' (bs ++ rest) (suc a.0) w (then_sign (HasLonePart whole) bytes i 44 (s' ++ (bs ++ rest)) a.0 w (then_blanks (HasLonePart whole) bytes i s (44 ∷ (s' ++ (bs ++ rest))) a.0 w a.2 h) refl) h' in
      let c = reach_member whole bytes b.end _ bs rest name t (each t (last_value fs name t)) (names name (last_name fs name t)) b.crossed.seam b.crossed.left n y in let k = count_then_member fs name t in let l = a.1 in
      (suc a.0 + (tokens t + 2), omega arith, reaches_both (HasLonePart whole) bytes i (bs ++ rest) rest (suc a.0) (tokens t + 2) w (length name.source.bytes + source_bytes t) (suc a.0 + (tokens t + 2)) (source_bytes_of_members (then_member fs name t)) b c refl (weight_then_member fs name t))

  reach_member : (whole : Tree) (bytes : List ℕ) (i p : ℕ) (vs rest : List ℕ) (name : Name) (t : Tree) → HasPart whole t → (HasLone name.characters → HasLonePart whole) → IsSeam bytes i → drop i bytes ≡ vs ++ rest → NoAtomFirst rest → IsMember p vs name t → Reaches (HasLonePart whole) bytes i rest (tokens t + 2) (length name.source.bytes + source_bytes t)
  reach_member whole bytes i p vs rest name t here own m e n (member ns s s' bs is h b b' x) =
      let a : Reaches (HasLonePart whole) bytes i (s ++ (58 ∷ (s' ++ (bs ++ rest)))) 1 (length ns) = record { end = i + length ns; crossed = cross_string (HasLonePart whole) bytes i ns (s ++ (58 ∷ (s' ++ (bs ++ rest)))) name.characters own m (e ∙ regroup_more ns s 58 s' bs rest) h } in
      let c = then_blanks (HasLonePart whole) bytes i s' (bs ++ rest) 2 (length ns) (then_sign (HasLonePart whole) bytes i 58 (s' ++ (bs ++ rest)) 1 (length ns) (then_blanks (HasLonePart whole) bytes i s (58 ∷ (s' ++ (bs ++ rest))) 1 (length ns) a b) refl) b' in
      let d = reach_value whole bytes c.end _ bs rest t here c.crossed.seam c.crossed.left n x in
      let size : length name.source.bytes ≡ length ns = ap (λ (z : Source). length z.bytes) is in
      reaches_both (HasLonePart whole) bytes i (bs ++ rest) rest 2 (tokens t) (length ns) (source_bytes t) (tokens t + 2) (length name.source.bytes + source_bytes t) c d (omega arith) (omega arith)

-- before the first byte
pub start_seam : (bytes : List ℕ) → IsSeam bytes 0
unfolding run_before quotes_before after_atom
start_seam bytes = record { outside = refl; apart = and-false (is_atom bytes 0) }

-- the whole text
pub reach_text : (bytes : List ℕ) (t : Tree) → IsText bytes t → Reaches (HasLonePart t) bytes 0 [] (tokens t) (source_bytes t)
reach_text bytes t x =
    let a = reach_blanks (HasLonePart t) bytes 0 x.before (x.bytes ++ x.after) (omega arith) (start_seam bytes) (x.whole ∙ append_assoc x.before x.bytes x.after) x.blanks_before in
    let b = reach_value t bytes a.end (length x.before) x.bytes x.after t itself a.crossed.seam a.crossed.left (subst NoAtomFirst (append-nil x.after) (no_atom-blanks x.after [] x.blanks_after tt)) x.value in
    let c = reaches_both (HasLonePart t) bytes 0 (x.bytes ++ x.after) x.after 0 (tokens t) 0 (source_bytes t) (tokens t) (source_bytes t) a b (omega arith) (omega arith) in
    then_blanks (HasLonePart t) bytes 0 x.after [] (tokens t) (source_bytes t) (record { end = c.end; crossed = subst (λ l. Crossed (HasLonePart t) bytes 0 c.end l (tokens t) (source_bytes t)) (sym (append-nil x.after)) c.crossed }) x.blanks_after

source_zero : (xs : List ℕ) → source_bytes_before xs 0 ≡ 0
unfolding source_bytes_before
source_zero xs = refl

pub at_end : (xs : List ℕ) (k : ℕ) → k ≤ length xs → drop k xs ≡ [] → k ≡ length xs
at_end [] k l e = omega arith
at_end (x ∷ xs) zero l e = absurd (cc)
at_end (x ∷ xs) (suc k) l e = ap suc (at_end xs k (omega arith) e)

pub record TextCounts (bytes : List ℕ) (t : Tree) : Type 0 where
  pub places_are : length (places bytes) ≡ tokens t
  pub bytes_are : source_bytes_before bytes (length bytes) ≡ source_bytes t

pub text_counts : (bytes : List ℕ) (t : Tree) → IsText bytes t → TextCounts bytes t
text_counts bytes t x = let r = reach_text bytes t x in let y = r.crossed in let end : r.end ≡ length bytes = at_end bytes r.end y.within y.left in
    let none : places_from bytes (length bytes) ≡ [] = (let z : length bytes - length bytes ≡ 0 = omega arith in ap (λ n. filter (is_place bytes) (range_with_len (length bytes) n)) z) in
    let zero_left : length (places_from bytes r.end) ≡ 0 = ap (λ n. length (places_from bytes n)) end ∙ ap length none in let count = y.count in
    let weight : source_bytes_before bytes (length bytes) ≡ source_bytes_before bytes 0 + source_bytes t = ap (source_bytes_before bytes) (sym end) ∙ y.weight in
    let first = source_zero bytes in record { places_are = omega arith; bytes_are = omega arith }
