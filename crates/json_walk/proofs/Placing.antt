-- What a token shows at its place: strings by the byte before the next place, words by their run.
use Rattle.json_text.proofs.Names.{◌≡◌, ℕ, zero, suc, ◌+◌, ◌-◌, ◌<◌, ◌≤◌, inl, inr, true, false, cond, List, [], ◌∷◌, ◌++◌, length, drop}
use Rattle.json_text.proofs.Names.{get_or, Option, Some, refl, sym, ap, ◌∙◌, arith, append_assoc, length-append, IsUtf8}
use Rattle.json_text.proofs.Names.{cases_lt, drop_more, drop_all}
use Rattle.json_text.proofs.Names.{quote_end, atom_end, is_atom, Taken, State}
use Rattle.json_walk.proofs.Names.{byte, places, HasControlInside, IsSpan, IsAtomRun, is_plain_atom, next_place, ClosesBefore, StringEnds}
use Rattle.json_walk.proofs.Names.{weight}
use Rattle.json_walk.proofs.Bridge.{span_spells, same_classes, same_default}
use Rattle.structural_index.specs.Places.{HasWrongEscape}
use Rattle.json_walk.proofs.Walking.{place_number, stands_value}
use Rattle.json_walk.proofs.Calls.{behind}
use Rattle.json_walk.proofs.Tokens.{quote_found}
use Rattle.json_walk.proofs.PlaceWalk.{Walks, walks_token}

-- ---- A run of atom bytes, one byte further

atom_step : (text : List ℕ) (k : ℕ) → k < length text
    → atom_end k (drop k text) ≡ cond (is_atom (get_or text k 0)) (atom_end (k + 1) (drop (k + 1) text)) k
atom_step text k h = ap (atom_end k) (drop_more text k 0 h)

atom_over : (text : List ℕ) (k : ℕ) → length text ≤ k → atom_end k (drop k text) ≡ k
atom_over text k h = ap (atom_end k) (drop_all k text h)

-- ---- Strings

-- found by the scan of all bytes from its first character on
pub found_string : (bytes : List ℕ) (i end : ℕ) → IsUtf8 bytes → i < length bytes → get_or bytes i 0 ≡ 34 → quote_end (i + 1) (drop (i + 1) bytes) ≡ Some end → StringEnds bytes i (Some end)
found_string bytes i end u h q e =
    let c = quote_found (i + 1) (drop (i + 1) bytes) end (behind bytes i u h q) e in let long = length-append c.inside (34 ∷ []) in
    let last = c.end in (
      i + 1 + length c.inside,
      (omega arith),
      record {
        bytes = 34 ∷ (c.inside ++ 34 ∷ []);
        rest = c.rest;
        characters = c.characters;
        stands = drop_more bytes i 0 h ∙ ap (λ b. b ∷ drop (i + 1) bytes) q ∙ ap (λ l. 34 ∷ l) (c.is ∙ sym (append_assoc c.inside (34 ∷ []) c.rest));
        is_string = (c.inside, c.are, refl);
        end = omega arith;
      },
    )

pub scanned_string : (bytes : List ℕ) (i : ℕ) (r : Option ℕ) → IsUtf8 bytes → i < length bytes → get_or bytes i 0 ≡ 34 → r ≡ quote_end (i + 1) (drop (i + 1) bytes) → StringEnds bytes i r
scanned_string bytes i r u h q e = grind (arith, found_string)

-- by the test that the code makes
abbrev pub HasQuoteBefore : List ℕ → (i next : ℕ) → Type 0
HasQuoteBefore bytes i next = (i + 1 < next) × (get_or bytes (next - 1) 0 ≡ 34)

span_before : (bytes : List ℕ) (i next : ℕ) → ClosesBefore bytes i next → next ≤ length bytes → get_or bytes i 0 ≡ 34 → HasQuoteBefore bytes i next → (m : ℕ) × (next ≡ suc m) × IsSpan bytes i m
span_before bytes i next c l q h = grind (arith, same_default)

pub closed_before : (bytes : List ℕ) (i next : ℕ) → IsUtf8 bytes → (HasControlInside bytes → ⊥) → (HasWrongEscape bytes → ⊥) → ClosesBefore bytes i next → next ≤ length bytes → get_or bytes i 0 ≡ 34 → HasQuoteBefore bytes i next → StringEnds bytes i (Some next)
closed_before bytes i next u x w c l q h = let (m, e, span) = span_before bytes i next c l q h in (m, e, span_spells bytes i m u x w span)

-- ---- Words and numbers

atom_run : (bytes : List ℕ) (n i : ℕ) → i + n ≤ length bytes → ((k : ℕ) → i ≤ k → k < i + n → is_plain_atom (byte bytes k) ≡ true) → (i + n < length bytes → is_plain_atom (byte bytes (i + n)) ≡ false) → atom_end i (drop i bytes) ≡ i + n
atom_run bytes zero i l each over = elim (cases_lt i (length bytes)) [
  | inl a ↦ (let z : i + 0 ≡ i = omega arith in
      let none : is_atom (get_or bytes i 0) ≡ false = ap is_atom (same_default bytes i a) ∙ sym (same_classes (byte bytes i)).atom ∙ ap (λ x. is_plain_atom (byte bytes x)) (sym z) ∙ over (omega arith) in
      atom_step bytes i a ∙ ap (λ b. cond b (atom_end (i + 1) (drop (i + 1) bytes)) i) none ∙ sym z)
  | inr a ↦ (let z : i + 0 ≡ i = omega arith in atom_over bytes i a ∙ sym z)
]
atom_run bytes (suc n) i l each over = let z : i + 1 + n ≡ i + suc n = omega arith in
    let is : is_atom (get_or bytes i 0) ≡ true = ap is_atom (same_default bytes i (omega arith)) ∙ sym (same_classes (byte bytes i)).atom ∙ each i (omega arith) (omega arith) in
    atom_step bytes i (omega arith) ∙ ap (λ b. cond b (atom_end (i + 1) (drop (i + 1) bytes)) i) is
    ∙ atom_run bytes n (i + 1) (omega arith) (λ k a b. each k (omega arith) (omega arith)) (λ a. ap (λ x. is_plain_atom (byte bytes x)) z ∙ over (omega arith)) ∙ z

pub run_ends : (bytes : List ℕ) (i n : ℕ) → IsAtomRun bytes i (i + n) → i + n ≡ atom_end i (drop i bytes)
run_ends bytes i n r = sym (atom_run bytes n i r.to r.each r.over)

-- ---- From place to place

-- behind the last place the text is over
pub walks_over : (bytes : List ℕ) (k i before now : ℕ) (s : State) → Walks bytes k i before now s → length (places bytes) ≤ k → length bytes ≤ i
walks_over bytes k i before now s w l = grind (arith, place_number bytes k i w.here)

pub walks_next : (bytes : List ℕ) (k i j before now later : ℕ) (s new : State) → Walks bytes k i before now s → i < length bytes → (taken : Taken bytes i j s new) → later ≤ now + 3 + weight taken.tok → Walks bytes (k + 1) (get_or (places bytes) (k + 1) (length bytes)) before later new
walks_next bytes k i j before now later s new w l taken p = let on = walks_token bytes k i j before now later s new w l taken p in
    let at : next_place bytes j ≡ get_or (places bytes) (suc k) (length bytes) = stands_value bytes (suc k) (next_place bytes j) on.here in
    let f : suc k ≡ k + 1 = omega arith in rw f at (rw at at on)
