-- The escapes of a block, a bit each, and those of the whole text.
use Rattle.std.proofs.Common.{◌≡◌, ℕ, zero, suc, ◌+◌, ◌-◌, ◌^◌, ◌<◌, ◌≤◌, ◌⊎◌, inl, inr, Bool, true, false, not, ◌&&◌, ◌||◌, eqb, cond, List, ◌∷◌, length, filter, refl, sym, ap, ap₂, subst, ◌∙◌, arith, IsTrue, ◌↔◌}
use Rattle.std.specs.List.{range_with_len, fold}
use Rattle.std.specs.Int.Count.{count_trailing_zeros}
use Rattle.std.proofs.lemmas.List.{get_or_past}
use Rattle.std.proofs.lemmas.Bool.{cases_lt, false≢true}
use Rattle.std.proofs.lemmas.Bool.Decides.{nat_tests}
use Rattle.bit_words.specs.Words.{HasBits}
use Rattle.structural_index.specs.Bits.{set_bits_from}
use Rattle.structural_index.specs.Places.{byte, run_before, is_escaped, is_hex, is_d, is_early, is_late, are_digits, is_short, is_unit, is_wrong, spells_high, spells_low, is_high, is_low, is_lone, HasWrongEscape, HasLoneSurrogate}
use Rattle.structural_index.specs.Blocks.{any_below, after_letter, after_escape, letter_of, is_lower, AreJudged}
use Rattle.structural_index.specs.declared.escapes.Escapes.{Escapes}
use Rattle.structural_index.specs.declared.escapes.Letter.TheVariants.{Plain, High, Low, Nothing}
use Rattle.structural_index.proofs.Below.{any_found, any_where}
use Rattle.structural_index.proofs.Ones.{rest, first_of, set_bits_none, set_bits_filter, set_bits_from-is}
use Rattle.structural_index.proofs.Steps.{escaped_suc}

-- ---- tests

left_of : (a b : Bool) → (a && b) ≡ true → a ≡ true
left_of x0 b h = grind (arith, h)

right_of : (a b : Bool) → (a && b) ≡ true → b ≡ true
right_of x0 b h = grind (arith, h)

hex_no_slash : (b : ℕ) → is_hex b ≡ true → eqb b 92 ≡ false
hex_no_slash b h = grind (arith, nat_tests)

u_no_slash : (b : ℕ) → eqb b 117 ≡ true → eqb b 92 ≡ false
u_no_slash b h = grind (arith, nat_tests)

late_no_early : (b : ℕ) → is_early b ≡ true → is_late b ≡ false
late_no_early b h = grind (arith, nat_tests)

apart : (a b : ℕ) → a < b → eqb a b ≡ false
apart a b l = grind (arith, nat_tests)

apart_above : (a b : ℕ) → b < a → eqb a b ≡ false
apart_above a b l = grind (arith, nat_tests)

same : (a b : ℕ) → a ≡ b → eqb a b ≡ true
same a b e = grind (arith, nat_tests)

u_no_short : (b : ℕ) → is_short b ≡ true → eqb b 117 ≡ false
u_no_short b h = grind (arith, nat_tests)

-- ---- letters

-- a letter is that of a low surrogate exactly where such digits are spelt
low_by : (a u d e l : Bool) → (a ≡ true → u ≡ false) → (e ≡ true → l ≡ false) → is_lower (cond a Plain (cond u (cond d (cond e High (cond l Low Plain)) Plain) Nothing)) ≡ (u && (d && l))
low_by true u d e l f g = sym (ap (λ x. x && (d && l)) (f refl))
low_by false false d e l f g = refl
low_by false true false e l f g = refl
low_by false true true true l f g = sym (g refl)
low_by false true true false true f g = refl
low_by false true true false false f g = refl

pub low_is : (text : List ℕ) (i : ℕ) → is_lower (letter_of text i) ≡ spells_low text i
low_is text i = low_by _ _ _ _ _ (λ e. ap (λ x. x && are_digits text i) (u_no_short (byte text i) e)) (late_no_early (byte text (i + 2)))

-- ---- bit by bit, the lowest first

pub one_escape : (f : Escapes → ℕ → Escapes) (s : Escapes) (base word : ℕ) → 0 < word → word < 2 ^ 64 → fold f s (set_bits_from base word) ≡ fold f (f s (base + count_trailing_zeros 64 word)) (set_bits_from base (rest word))
one_escape f s base word pos lt = ap (fold f s) (set_bits_from-is base word ∙ first_of 64 base word pos lt) ∙ ap (fold f (f s (base + count_trailing_zeros 64 word))) (sym (set_bits_from-is base (rest word)))

pub no_escapes : (f : Escapes → ℕ → Escapes) (s : Escapes) (base word : ℕ) → word ≡ 0 → fold f s (set_bits_from base word) ≡ s
no_escapes f s base word z = ap (λ w. fold f s (set_bits_from base w)) z ∙ ap (fold f s) (set_bits_from-is base 0 ∙ set_bits_none 64 base)

-- ---- behind the u of a unit nothing is escaped but what stands behind its digits

module _ (text : List ℕ) where
  pub free_behind : (k : ℕ) → eqb (byte text k) 92 ≡ false → is_escaped text (suc k) ≡ false
  free_behind k e = escaped_suc text k ∙ ap (λ x. x && not (is_escaped text k)) e

  module _ (i : ℕ) (unit : is_unit text i ≡ true) where
    digits : are_digits text i ≡ true
    digits = right_of (eqb (byte text i) 117) _ unit

    no_slash : (d : ℕ) → d < 5 → eqb (byte text (i + d)) 92 ≡ false
    no_slash zero l = let z : i + 0 ≡ i = omega arith in ap (λ x. eqb (byte text x) 92) z ∙ u_no_slash (byte text i) (left_of _ _ unit)
    no_slash (suc zero) l = hex_no_slash (byte text (i + 1)) (left_of _ _ (left_of _ _ (left_of _ _ digits)))
    no_slash (suc (suc zero)) l = hex_no_slash (byte text (i + 2)) (right_of _ _ (left_of _ _ (left_of _ _ digits)))
    no_slash (suc (suc (suc zero))) l = hex_no_slash (byte text (i + 3)) (right_of _ _ (left_of _ _ digits))
    no_slash (suc (suc (suc (suc zero)))) l = hex_no_slash (byte text (i + 4)) (right_of _ _ digits)
    no_slash (suc (suc (suc (suc (suc d))))) l = absurd (omega arith)

    pub unit_free : (k : ℕ) → i < k → k < i + 6 → is_escaped text k ≡ false
    unit_free k a b = let z : suc (i + (k - suc i)) ≡ k = omega arith in ap (is_escaped text) (sym z) ∙ free_behind (i + (k - suc i)) (no_slash (k - suc i) (omega arith))

    pub unit_next : is_escaped text (i + 6) ≡ eqb (byte text (i + 5)) 92
    unit_next = let z : suc (i + 5) ≡ i + 6 = omega arith in ap (is_escaped text) (sym z) ∙ escaped_suc text (i + 5) ∙ ap (λ x. eqb (byte text (i + 5)) 92 && not x) (unit_free (i + 5) (omega arith) (omega arith)) ∙ kept (eqb (byte text (i + 5)) 92)
      where
        kept : (a : Bool) → (a && not false) ≡ a
        kept x0 = grind arith

  -- ---- one byte more

  any_one : (p : ℕ → Bool) (n : ℕ) (b c : Bool) → b ≡ any_below p n → c ≡ p n → (b || c) ≡ any_below p (n + 1)
  unfolding any_below
  any_one p n b c e f = ap₂ (λ x y. x || y) e f ∙ ap (any_below p) (let z : suc n ≡ n + 1 = omega arith in z)

  any_same_one : (p : ℕ → Bool) (n : ℕ) (b : Bool) → b ≡ any_below p n → p n ≡ false → b ≡ any_below p (n + 1)
  any_same_one p n b e f = or_no b ∙ any_one p n b false e (sym f)
    where
      or_no : (a : Bool) → a ≡ (a || false)
      or_no x0 = grind arith

  pub start_free : is_escaped text 0 ≡ false
  unfolding run_before
  start_free = refl

  pub start_judged : AreJudged text 0 (record { wrong = false; lone = false; due = 0 })
  unfolding any_below
  start_judged = record {
    wrong = refl;
    lone = refl;
    due = λ i a b c. (let z : i - 6 ≡ 0 = omega arith in let other : eqb 0 i ≡ false = grind (arith, nat_tests) in other ∙ sym (ap (is_high text) z ∙ ap (λ x. x && spells_high text 0) start_free));
    near = omega arith;
  }

  pub free_right : (i : ℕ) → is_escaped text i ≡ false → is_wrong text i ≡ false
  free_right i f = ap (λ t. t && not (is_short (byte text i) || is_unit text i)) f

  pub free_paired : (i : ℕ) → is_escaped text i ≡ false → is_lone text i ≡ false
  free_paired i f = ap (λ t. ((t && spells_high text i) && not (is_low text (i + 6))) || ((t && spells_low text i) && not (is_high text (i - 6)))) f

  or_no : (a : Bool) → a ≡ (a || false)
  or_no x0 = grind arith

  -- that is not escaped
  free_judged : (n : ℕ) (s : Escapes) → is_escaped text n ≡ false → AreJudged text n s → AreJudged text (n + 1) s
  free_judged n s f h = record {
    wrong = any_same_one (is_wrong text) n s.wrong h.wrong (free_right n f);
    lone = any_same_one (is_lone text) n s.lone h.lone (free_paired n f);
    due = λ i a b c. elim (cases_lt i (n + 6)) [
      | inl l ↦ h.due i (omega arith) l c
      | inr l ↦ (let z : i - 6 ≡ n = omega arith in let near = h.near in apart s.due i (omega arith) ∙ sym (ap (is_high text) z ∙ ap (λ x. x && spells_high text n) f))
    ];
    near = (let near = h.near in omega arith);
  }

  -- that is escaped: what is known of it, and what is known then
  module _ (n : ℕ) (s : Escapes) (t : is_escaped text n ≡ true) (h : AreJudged text n s) where
    high_before : (i : ℕ) → n < i → i < n + 6 → is_high text (i - 6) ≡ false
    high_before i a b = by_high (is_high text (i - 6)) refl (cases_lt i 6) where
      by_high : (x : Bool) → is_high text (i - 6) ≡ x → (i < 6) ⊎ (6 ≤ i) → is_high text (i - 6) ≡ false
      by_high false e l = e
      by_high true e (inl l) = let z : i - 6 ≡ 0 = omega arith in ap (is_high text) z ∙ ap (λ x. x && spells_high text 0) start_free
      by_high true e (inr l) = absurd (false≢true (sym (unit_free (i - 6) (left_of _ _ (right_of (is_escaped text (i - 6)) _ e)) n (omega arith) (omega arith)) ∙ t))

    judged_by : (new : Escapes) (w hi lo : Bool) → not (is_short (byte text n) || is_unit text n) ≡ w → spells_high text n ≡ hi → spells_low text n ≡ lo
        → new.wrong ≡ (s.wrong || w) → new.lone ≡ (s.lone || ((hi && not (is_low text (n + 6))) || (lo && not (is_high text (n - 6))))) → new.due ≡ cond hi (n + 6) s.due → AreJudged text (n + 1) new
    judged_by new w hi lo ew eh el nw nl nd = record {
      wrong = nw ∙ any_one (is_wrong text) n s.wrong w h.wrong (sym (ap (λ x. x && not (is_short (byte text n) || is_unit text n)) t ∙ ew));
      lone = nl ∙ any_one (is_lone text) n s.lone _ h.lone (sym (ap (λ x. ((x && spells_high text n) && not (is_low text (n + 6))) || ((x && spells_low text n) && not (is_high text (n - 6)))) t ∙ ap₂ (λ x y. (x && not (is_low text (n + 6))) || (y && not (is_high text (n - 6)))) eh el));
      due = λ i a b c. ap (λ x. eqb x i) nd ∙ by_half hi eh i a b c;
      near = by_near hi nd;
    }
      where
        here : (x : Bool) → spells_high text n ≡ x → is_high text n ≡ x
        here x e = ap (λ y. y && spells_high text n) t ∙ e

        by_half : (x : Bool) → spells_high text n ≡ x → (i : ℕ) → n + 1 ≤ i → i < n + 1 + 6 → 0 < i → eqb (cond x (n + 6) s.due) i ≡ is_high text (i - 6)
        by_half true e i a b c = elim (cases_lt i (n + 6)) [
          | inl l ↦ apart_above (n + 6) i l ∙ sym (high_before i (omega arith) l)
          | inr l ↦ (let z : i - 6 ≡ n = omega arith in same (n + 6) i (omega arith) ∙ sym (ap (is_high text) z ∙ here true e))
        ]
        by_half false e i a b c = elim (cases_lt i (n + 6)) [
          | inl l ↦ h.due i (omega arith) l c
          | inr l ↦ (let z : i - 6 ≡ n = omega arith in let near = h.near in apart s.due i (omega arith) ∙ sym (ap (is_high text) z ∙ here false e))
        ]

        by_near : (x : Bool) → new.due ≡ cond x (n + 6) s.due → new.due < n + 1 + 6
        by_near true e = omega arith
        by_near false e = let near = h.near in omega arith

    positive : 0 < n
    positive = some n t where
      some : (k : ℕ) → is_escaped text k ≡ true → 0 < k
      some zero e = absurd (false≢true (sym start_free ∙ e))
      some (suc k) e = omega arith

    no_half : (x : Bool) → is_unit text n ≡ false → (is_unit text n && x) ≡ false
    no_half x u = ap (λ y. y && x) u

    by_letter : (a u d e l : Bool) → is_short (byte text n) ≡ a → is_unit text n ≡ u → is_d (byte text (n + 1)) ≡ d → is_early (byte text (n + 2)) ≡ e → is_late (byte text (n + 2)) ≡ l
        → AreJudged text (n + 1) (after_letter text s n (cond a Plain (cond u (cond d (cond e High (cond l Low Plain)) Plain) Nothing)))
    by_letter true u d e l ea eu ed ee el = let unit : is_unit text n ≡ false = ap (λ x. x && are_digits text n) (u_no_short (byte text n) ea) in
        judged_by s false false false (ap (λ x. not (x || is_unit text n)) ea) (no_half _ unit) (no_half _ unit) (or_no s.wrong) (or_no s.lone) refl
    by_letter false false d e l ea eu ed ee el = judged_by _ true false false (ap₂ (λ x y. not (x || y)) ea eu) (no_half _ eu) (no_half _ eu) (or_yes s.wrong) (or_no s.lone) refl
      where
        or_yes : (a : Bool) → true ≡ (a || true)
        or_yes x0 = grind arith
    by_letter false true false e l ea eu ed ee el =
        judged_by s false false false (ap₂ (λ x y. not (x || y)) ea eu) (ap₂ (λ x y. x && (y && is_early (byte text (n + 2)))) eu ed) (ap₂ (λ x y. x && (y && is_late (byte text (n + 2)))) eu ed) (or_no s.wrong) (or_no s.lone) refl
    by_letter false true true true l ea eu ed ee el = let late = late_no_early (byte text (n + 2)) ee in
        judged_by _ false true false (ap₂ (λ x y. not (x || y)) ea eu) (ap₂ (λ x y. x && y) eu (ap₂ (λ x y. x && y) ed ee)) (ap₂ (λ x y. x && y) eu (ap₂ (λ x y. x && y) ed late)) (or_no s.wrong)
        (ap (λ x. s.lone || not (x && spells_low text (n + 6))) (sym (unit_next n eu)) ∙ ap (λ x. s.lone || x) (or_no (not (is_low text (n + 6))))) refl
    by_letter false true true false true ea eu ed ee el =
        judged_by _ false false true (ap₂ (λ x y. not (x || y)) ea eu) (ap₂ (λ x y. x && y) eu (ap₂ (λ x y. x && y) ed ee)) (ap₂ (λ x y. x && y) eu (ap₂ (λ x y. x && y) ed el)) (or_no s.wrong)
        (ap (λ x. s.lone || not x) (h.due n (omega arith) (omega arith) positive)) refl
    by_letter false true true false false ea eu ed ee el =
        judged_by s false false false (ap₂ (λ x y. not (x || y)) ea eu) (ap₂ (λ x y. x && y) eu (ap₂ (λ x y. x && y) ed ee)) (ap₂ (λ x y. x && y) eu (ap₂ (λ x y. x && y) ed el)) (or_no s.wrong) (or_no s.lone) refl

    escaped_judged : AreJudged text (n + 1) (after_escape text s n)
    escaped_judged = by_letter _ _ _ _ _ refl refl refl refl refl

  range_judged : (n b : ℕ) (s : Escapes) → AreJudged text b s → AreJudged text (b + n) (fold (after_escape text) s (filter (is_escaped text) (range_with_len b n)))
  range_judged zero b s h = let z : b ≡ b + 0 = omega arith in subst (λ x. AreJudged text x s) z h
  range_judged (suc n) b s h = let z : b + 1 + n ≡ b + suc n = omega arith in subst (λ x. AreJudged text x (fold (after_escape text) s (filter (is_escaped text) (b ∷ range_with_len (b + 1) n)))) z (by_escape (is_escaped text b) refl (λ x. range_judged n (b + 1) x))
    where
      by_escape : (t : Bool) → is_escaped text b ≡ t → ((x : Escapes) → AreJudged text (b + 1) x → AreJudged text (b + 1 + n) (fold (after_escape text) x (filter (is_escaped text) (range_with_len (b + 1) n)))) → AreJudged text (b + 1 + n) (fold (after_escape text) s (cond (is_escaped text b) (b ∷ filter (is_escaped text) (range_with_len (b + 1) n)) (filter (is_escaped text) (range_with_len (b + 1) n))))
      by_escape true e later = rw e (later (after_escape text s b) (escaped_judged b s e h))
      by_escape false e later = rw e (later s (free_judged b s e h))

  pub block_judged : (at word : ℕ) (s : Escapes) → HasBits word (λ k. is_escaped text (at + k)) → AreJudged text at s → AreJudged text (at + 64) (fold (after_escape text) s (set_bits_from at word))
  block_judged at word s bits h = subst (λ l. AreJudged text (at + 64) (fold (after_escape text) s l)) (sym (set_bits_from-is at word ∙ set_bits_filter (is_escaped text) 64 at word bits)) (range_judged 64 at s h)

  -- ---- past the end nothing but the first byte is escaped

  pub past_free : (i : ℕ) → length text < i → is_escaped text i ≡ false
  past_free zero h = absurd (omega arith)
  past_free (suc i) h = free_behind i (ap (λ c. eqb c 92) (get_or_past text i 32 (omega arith)))

  any_whole : (p : ℕ → Bool) (flag : Bool) (at : ℕ) → length text < at → flag ≡ any_below p at → ((i : ℕ) → is_escaped text i ≡ false → p i ≡ false) → IsTrue flag ↔ ((i : ℕ) × IsTrue (p i))
  any_whole p flag at h e none = (
    λ t. (let w = any_where p at (sym e ∙ t) in (w.0, w.2)),
    λ w. e ∙ any_found p at w.0 (within w.0 w.1 (cases_lt w.0 at)) w.1,
  )
    where
      within : (i : ℕ) → p i ≡ true → (i < at) ⊎ (at ≤ i) → i < at
      within i t (inl l) = l
      within i t (inr l) = absurd (false≢true (sym (none i (past_free i (omega arith))) ∙ t))

  pub all_judged : (s : Escapes) (at : ℕ) → length text < at → AreJudged text at s → (IsTrue s.wrong ↔ HasWrongEscape text) × (IsTrue s.lone ↔ HasLoneSurrogate text)
  all_judged s at h j = (any_whole (is_wrong text) s.wrong at h j.wrong free_right, any_whole (is_lone text) s.lone at h j.lone free_paired)
