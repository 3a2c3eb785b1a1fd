-- A text is JSON where the machine comes to its end and nothing is expected there.
use Rattle.json_text.proofs.Names.{◌≡◌, ℕ, ◌+◌, ◌<◌, true, List, [], length, take, drop, Some, None, refl, sym, ap, ◌∙◌, subst, arith, IsUtf8, IsText, IsJson, take-append-drop, take_all, append-nil}
use Rattle.std.specs.Prelude.{◌↔◌}
use Rattle.json_text.specs.declared.tape.Shape.{Shape}
use Rattle.text_faults.specs.declared.marks.Digits.TheVariants as digits
use Rattle.text_faults.specs.declared.marks.Expected.{Expected}
use Rattle.text_faults.specs.declared.marks.Expected.TheVariants as expected
use Rattle.text_faults.specs.declared.marks.Now.{Now}
use Rattle.text_faults.specs.declared.marks.Now.TheVariants as now
use Rattle.text_faults.specs.Moves.{State, state, run_on, start, top, expected_of}
use Rattle.text_faults.specs.Prefixes.{IsLongest}
use Rattle.text_faults.proofs.Backwards.{number_nil}
use Rattle.text_faults.proofs.Completions.{Completes}
use Rattle.text_faults.proofs.Longest.{reaches}
use Rattle.text_faults.proofs.Runs.{may_end, text_run}

nothing_left : (n : Now) (os : List Shape) → expected_of n (top os) ≡ expected.End → Completes n os []
nothing_left now.Next [] e = tt
nothing_left (now.Number digits.Zero) [] e = ([], [], number_nil digits.Zero refl, tt, refl)
nothing_left (now.Number digits.Int) [] e = ([], [], number_nil digits.Int refl, tt, refl)
nothing_left (now.Number digits.Frac) [] e = ([], [], number_nil digits.Frac refl, tt, refl)
nothing_left (now.Number digits.Exp) [] e = ([], [], number_nil digits.Exp refl, tt, refl)
nothing_left n os e = absurd (grind arith)

nothing_expected : (n : Now) → may_end n ≡ true → expected_of n None ≡ expected.End
nothing_expected n h = grind arith

pub whole_before : (text : List ℕ) (n : ℕ) (e : Expected) → n < length text → IsLongest text n → (n ≡ length text) × (e ≡ expected.End) ↔ IsJson text
whole_before text n e l x = (
  (λ p. absurd (let q = p.0 in omega arith)),
  (λ (t, h). absurd (x.ends l (drop (n + 1) text, t, subst (λ b. IsText b t) (sym (take-append-drop (n + 1) text)) h))),
)

pub whole_at_end : (text : List ℕ) (n : ℕ) (s : State) (e : Expected) → IsUtf8 text → n ≡ length text → run_on start (take n text) ≡ Some s → e ≡ expected_of s.now (top s.opens) → (n ≡ length text) × (e ≡ expected.End) ↔ IsJson text
whole_at_end text n s e u l w i = (
  (λ p. (let x = reaches text text [] s [] u (sym (append-nil text)) way tt (nothing_left s.now s.opens (sym i ∙ p.1)) in (x.0, subst (λ b. IsText b x.0) (append-nil text) x.1))),
  (λ (t, h). (
    l,
    (let x = text_run text t h in let y : Some s ≡ Some (state x.last []) = sym way ∙ x.is in
        i ∙ (let z : s ≡ state x.last [] = cc in ap (λ (q : State). expected_of q.now (top q.opens)) z) ∙ nothing_expected x.last x.ended),
  )),
)
  where
    way : run_on start text ≡ Some s
    way = ap (run_on start) (sym (take_all n text (omega arith))) ∙ w
