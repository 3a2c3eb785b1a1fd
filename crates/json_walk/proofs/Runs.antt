-- Words and numbers: at a place they fill the bytes up to the first blank, or up to the next place.
use Rattle.json_text.proofs.Names.{◌≡◌, ◌≢◌, ℕ, suc, ◌+◌, ◌<◌, ◌≤◌, ◌||◌, subst, not, inl, inr, Bool, true, false, List, ◌++◌, length, take, drop}
use Rattle.json_text.proofs.Names.{get_or, refl, sym, ap, ◌∙◌, arith, cases_lt, nat_tests, take-append-drop, take_at, Token, is_blank, AreAtoms}
use Rattle.json_text.proofs.Names.{IsToken, IsWord}
use Rattle.json_walk.proofs.Names.{op_byte, blank_byte, byte, IsAtomRun, is_plain_atom, next_place, Kind, ClosesBefore}
use Rattle.std.proofs.Common.{◌==◌, true≢false}
use Rattle.structural_index.specs.Places.{is_place}
use Rattle.structural_index.specs.Runs.{AreBlanksLast, EndsAtBlank}
use Rattle.structural_index.proofs.Seams as seams
use Rattle.json_walk.proofs.Bridge.{atoms_each, stands, token_place, same_classes, same_default, length_within}
use Rattle.json_walk.proofs.Counting.{scalar_word}

blank_no_atom : (b : ℕ) → blank_byte b ≡ true → is_plain_atom b ≡ false
blank_no_atom b h = ap (λ x. not (x || op_byte b || (b == 0x22))) h

module _ (text : List ℕ) (i next : ℕ) (inside : i < length text) (closes : ClosesBefore text i next) where
  found : seams.IsNext text (suc i) (next_place text (suc i))
  found = seams.next_is text (suc i) inside

  pub ahead : i < next
  ahead = let from = found.from in let e = closes.next in omega arith

  pub near : next ≤ length text
  near = let to = found.to in let e = closes.next in omega arith

  pub blanks_last : get_or text i 0 ≢ 34 → AreBlanksLast text i next
  blanks_last n = subst (AreBlanksLast text i) (sym closes.next) (seams.blanks_last text i inside closes.seam (no_quote (byte text i) (λ e. n (same_default text i inside ∙ e))))
    where
      no_quote : (b : ℕ) → b ≢ 34 → (b == 0x22) ≡ false
      no_quote b m = grind (arith, nat_tests)

  module _ (bs : List ℕ) (part : bs ≡ take (length bs) (drop i text)) (ends : EndsAtBlank text i next (i + length bs)) where
    -- there are some
    pub some_bytes : is_blank (get_or text i 0) ≡ false → 0 < length bs
    some_bytes solid = search (arith, ahead, same_classes, same_default)

    spelt : drop i text ≡ bs ++ drop (length bs) (drop i text)
    spelt = sym (take-append-drop (length bs) (drop i text)) ∙ ap (λ b. b ++ drop (length bs) (drop i text)) (sym part)

    -- no byte of a word or a number stands behind one that ends before a blank or the next place
    run_over : ((k : ℕ) → i ≤ k → k < i + length bs → is_plain_atom (byte text k) ≡ true) → i + length bs < length text → (t : Bool) → is_plain_atom (byte text (i + length bs)) ≡ t → is_plain_atom (byte text (i + length bs)) ≡ false
    run_over each l false e = e
    run_over each l true e = elim (cases_lt (i + length bs) next) [
      | inl m ↦ blank_no_atom (byte text (i + length bs)) (ends.over m)
      | inr m ↦
          (let to = ends.to in let here : i + length bs ≡ next = omega arith in let some = ahead in
          let atom : (k : ℕ) → i ≤ k → k < suc next → is_plain_atom (byte text k) ≡ true = λ k a b. elim (cases_lt k next) [
            | inl x ↦ each k a (omega arith)
            | inr x ↦ (let f : k ≡ i + length bs = omega arith in ap (λ j. is_plain_atom (byte text j)) f ∙ e)
          ] in let passed = (seams.passes_atoms text i (suc next) closes.seam (omega arith) (omega arith) atom).none next some (omega arith) in
          let place : is_place text next ≡ true = ap (is_place text) closes.next ∙ found.there (let f = closes.next in omega arith) in
          absurd (true≢false (sym place ∙ passed)))
    ]

    pub word_run : (kind : Kind) → IsWord bs kind → IsAtomRun text i (i + length bs)
    word_run kind w =
        let each = stands (λ b. is_plain_atom b ≡ true) text i bs (drop (length bs) (drop i text)) (atoms_each bs (scalar_word bs kind w)) spelt in
        let to = ends.to in let last = near in
        record { from = omega arith; to = omega arith; each = each; over = λ l. run_over each l (is_plain_atom (byte text (i + length bs))) refl }

    -- a word or a number that stands there is that run
    pub token_run : (vs rest : List ℕ) (tok : Token) → IsToken i vs tok rest → AreAtoms vs → 0 < length vs → drop i text ≡ vs ++ rest → vs ≡ bs
    token_run vs rest tok is are some stand = let j = i + length vs in let place = token_place text i i vs rest tok closes.seam stand is in
        let most = length_within text i vs rest stand some in
        let same : next_place text (suc i) ≡ next_place text j = ap (λ ps. get_or ps 0 (length text)) (seams.run_to text (suc i) j (omega arith) (omega arith) (λ k a b. place.none k (omega arith) b)) in
        let blanks = seams.blanks_before text j (omega arith) place.seam in let up = closes.next in
        let from = blanks.from in let each = stands (λ b. is_plain_atom b ≡ true) text i vs rest (atoms_each vs are) stand in
        let size : length bs ≡ length vs = elim (cases_lt (length vs) (length bs)) [
          | inl less ↦ absurd (let to = ends.to in true≢false (sym (blanks.blanks j (omega arith) (omega arith)) ∙ ends.solid j (omega arith) (omega arith)))
          | inr least ↦ elim (cases_lt (length bs) (length vs)) [ inl more ↦ grind (arith, blank_no_atom) | inr most ↦ omega arith ]
        ] in sym (part ∙ ap (take (length bs)) stand ∙ take_at vs rest (length bs) (sym size))
