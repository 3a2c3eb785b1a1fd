-- Backslashes right before a byte, and that no surrogate is lone at the ends.
use Rattle.json_text.proofs.Names.{◌≡◌, ℕ, zero, suc, ◌+◌, ◌-◌, ◌<◌, ◌≤◌, List, Bool, length, true, false, refl, sym, ap, ◌∙◌, subst, arith, nat_tests, cases_lt, false≢true, get_or_past, IsTrue, IsJson, ◌%◌, ◌&&◌, ◌||◌, not, inl, inr}
use Rattle.std.specs.Prelude.{◌==◌, nat_eq, eqb}
use Rattle.json_text.specs.Verdict.{Applies}
use Rattle.json_text.specs.declared.tape.TextFault.TheVariants.{LoneSurrogate}
use Rattle.structural_index.specs.Places.{byte, run_before, is_escaped, is_lone, are_digits, is_high, is_low, is_d, is_early, is_late, HasLoneSurrogate}
use Rattle.structural_index.proofs.JudgedEscapes.{start_free, free_paired}
use Rattle.json_tape.proofs.Lones.{lone_applies, not_lone}
use Rattle.text_places.specs.Surrogates.{IsFirstLone}

before_is : (s : ℕ) → suc s - 1 ≡ s
before_is s = omega arith

run_one : (text : List ℕ) (s : ℕ) → byte text s ≡ 92 → run_before text (suc s) ≡ suc (run_before text s)
unfolding run_before
run_one text s b = rw b refl

run_none : (text : List ℕ) (s : ℕ) → (byte text s ≡ 92 → ⊥) → run_before text (suc s) ≡ 0
unfolding run_before
run_none text s b = grind (arith, nat_tests)

run_first : (text : List ℕ) → run_before text 0 ≡ 0
unfolding run_before
run_first text = refl

-- one more backslash
pub run_more : (text : List ℕ) (at start : ℕ) → 0 < start → start ≤ at → byte text (start - 1) ≡ 92 → run_before text at ≡ (at - start) + run_before text start → run_before text at ≡ (at - (start - 1)) + run_before text (start - 1)
run_more text at zero p l b h = absurd (omega arith)
run_more text at (suc s) p l b h = let u = run_one text s (subst (λ k. byte text k ≡ 92) (before_is s) b) in
    subst (λ k. run_before text at ≡ (at - k) + run_before text k) (sym (before_is s)) (omega arith)

pub run_ends : (text : List ℕ) (start : ℕ) → (0 < start → byte text (start - 1) ≡ 92 → ⊥) → run_before text start ≡ 0
run_ends text zero h = run_first text
run_ends text (suc s) h = run_none text s (λ b. h (omega arith) (subst (λ k. byte text k ≡ 92) (sym (before_is s)) b))

odd_is : (n : ℕ) → nat_eq (n % 2) 1 ≡ (n % 2 == 1)
odd_is n = grind (arith, nat_tests)

pub escaped_is : (text : List ℕ) (at start : ℕ) → run_before text at ≡ (at - start) + run_before text start → run_before text start ≡ 0 → nat_eq ((at - start) % 2) 1 ≡ is_escaped text at
escaped_is text at start h z = odd_is (at - start) ∙ ap (λ n. n % 2 == 1) (let e : at - start ≡ run_before text at = omega arith in e)

-- behind the text, and at its first byte
past_unit : (text : List ℕ) (i : ℕ) → length text ≤ i → eqb (byte text i) 117 ≡ false
past_unit text i l = let e : byte text i ≡ 32 = past text i l in rw e refl where
  past : (text : List ℕ) (i : ℕ) → length text ≤ i → byte text i ≡ 32
  past text i l = get_or_past text i 32 l

no_lone : (a b c d e f g h : Bool) → ((a && ((false && b) && c)) && d) || ((e && ((false && f) && g)) && h) ≡ false
no_lone a b c d e f g h = grind arith

past_lone : (text : List ℕ) (i : ℕ) → length text ≤ i → is_lone text i ≡ false
past_lone text i l = rw (past_unit text i l) (no_lone (is_escaped text i) (are_digits text i) (is_d (byte text (i + 1)) && is_early (byte text (i + 2))) (not (is_low text (i + 6))) (is_escaped text i) (are_digits text i) (is_d (byte text (i + 1)) && is_late (byte text (i + 2))) (not (is_high text (i - 6))))

pub no_first : (text : List ℕ) (k : ℕ) → k < 1 → IsTrue (is_lone text k) → ⊥
no_first text k l h = let z : k ≡ 0 = omega arith in false≢true (sym (free_paired text 0 (start_free text)) ∙ subst (λ i. is_lone text i ≡ true) z h)

pub none_lone : (text : List ℕ) (n : ℕ) → length text ≤ n → ((k : ℕ) → k < n → IsTrue (is_lone text k) → ⊥) → HasLoneSurrogate text → ⊥
none_lone text n l none (i, h) = elim (cases_lt i n) [ inl p ↦ none i p h | inr p ↦ false≢true (sym (past_lone text i (omega arith)) ∙ h) ]

pub one_more : (text : List ℕ) (n : ℕ) → is_lone text n ≡ false → ((k : ℕ) → k < n → IsTrue (is_lone text k) → ⊥) → (k : ℕ) → k < n + 1 → IsTrue (is_lone text k) → ⊥
one_more text n f none k l h = elim (cases_lt k n) [ inl p ↦ none k p h | inr p ↦ (let e : k ≡ n = omega arith in false≢true (sym f ∙ subst (λ i. is_lone text i ≡ true) e h)) ]

pub found : (text : List ℕ) (n : ℕ) → 1 ≤ n → is_lone text n ≡ true → ((k : ℕ) → k < n → IsTrue (is_lone text k) → ⊥) → IsFirstLone text (n - 1)
found text n l h none = let e : n - 1 + 1 ≡ n = omega arith in record { lone = subst (λ i. is_lone text i ≡ true) (sym e) h; first = λ u p. none u (omega arith) }

pub has : (text : List ℕ) (n : ℕ) → IsJson text → is_lone text n ≡ true → Applies text LoneSurrogate
has text n j h = (lone_applies text true j ((λ x. (n, h)), (λ x. refl))).0 refl

pub has_not : (text : List ℕ) → IsJson text → (HasLoneSurrogate text → ⊥) → Applies text LoneSurrogate → ⊥
has_not text j none = not_lone text false j ((λ x. absurd (false≢true x)), (λ x. absurd (none x))) refl
