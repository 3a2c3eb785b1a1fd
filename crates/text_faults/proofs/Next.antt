-- Each byte that is expected may stand there.
use Rattle.json_text.proofs.Names.{◌≡◌, ℕ, ◌+◌, ◌<◌, Bool, true, false, leb, List, [], ◌∷◌, ◌++◌, length, take, drop, get_or, Option, Some, None, refl, sym, subst, arith, nat_tests, append_assoc, IsUtf8, IsText, take-append-drop}
use Rattle.std.specs.Char.{IsScalar}
use Rattle.json_text.specs.declared.tape.Shape.{Shape}
use Rattle.json_text.specs.declared.tape.Shape.TheVariants as shapes
use Rattle.text_faults.specs.declared.marks.Now.{Now}
use Rattle.text_faults.specs.declared.marks.Now.TheVariants as now
use Rattle.text_faults.specs.declared.marks.Expected.{Expected}
use Rattle.text_faults.specs.Moves.{State, state, step, run_on, start, top, begin, expected_of}
use Rattle.text_faults.specs.Expectations.{begins_value, names}
use Rattle.text_faults.specs.Prefixes.{Begins}
use Rattle.text_faults.proofs.Completions.{some_completion}
use Rattle.text_faults.proofs.Backwards.{Done, byte_back}
use Rattle.std.proofs.lemmas.List.{drop_all}
use Rattle.text_faults.proofs.Longest.{Stops, reaches, stops_at}

ascii_scalar : (c : ℕ) → c < 128 → IsScalar c
ascii_scalar c l = grind (arith, nat_tests)

abbrev goes : Option State → Bool
goes None = false
goes (Some s) = true

abbrev some_now : Option Now → Bool
some_now None = false
some_now (Some n) = true

begins_some : (c : ℕ) → begins_value c ≡ true → some_now (begin c) ≡ true
begins_some c h = grind (arith, nat_tests)

named_goes : (n : Now) (os : List Shape) (c : ℕ) → names (expected_of n (top os)) c ≡ true → goes (step (state n os) c) ≡ true
named_goes now.Value os c h = let b = begins_some c h in grind (arith, nat_tests)
named_goes now.FirstValue os c h = grind (arith, nat_tests, begins_some c)
named_goes now.Next [] c h = absurd (cc)
named_goes now.Next (shapes.Array ∷ os) c h = grind (arith, nat_tests)
named_goes now.Next (shapes.Object ∷ os) c h = grind (arith, nat_tests)
named_goes _ os c h = grind (arith, nat_tests)

named_low : (n : Now) (os : List Shape) (c : ℕ) → names (expected_of n (top os)) c ≡ true → leb c 127 ≡ true
named_low now.Next [] c h = absurd (cc)
named_low now.Next (shapes.Array ∷ os) c h = grind (arith, nat_tests)
named_low now.Next (shapes.Object ∷ os) c h = grind (arith, nat_tests)
named_low _ os c h = grind (arith, nat_tests)

pub expected_begins : (text : List ℕ) (n : ℕ) (s : State) (c : ℕ) → IsUtf8 text → run_on start (take n text) ≡ Some s → Stops s (drop n text) → names (expected_of s.now (top s.opens)) c ≡ true → Begins (take n text ++ c ∷ [])
expected_begins text n s c u w stops h = go (step s c) refl (named_goes s.now s.opens c h) where
  low : c < 128
  low = let l = named_low s.now s.opens c h in grind (arith, nat_tests)

  go : (o : Option State) → step s c ≡ o → goes o ≡ true → Begins (take n text ++ c ∷ [])
  go None e g = absurd (cc)
  go (Some t) e g =
      let x = some_completion t.now t.opens in
      let back = byte_back s.now s.opens c x.0 low (ascii_scalar c low) (subst (λ o. Done o x.0) (sym e) x.1) in
      let whole = reaches text (take n text) (drop n text) s (c ∷ x.0) u (sym (take-append-drop n text)) w stops back in
      (x.0, whole.0, subst (λ l. IsText l whole.0) (sym (append_assoc (take n text) (c ∷ []) x.0)) whole.1)

pub expected_before : (text : List ℕ) (n : ℕ) (s : State) (e : Expected) → IsUtf8 text → n < length text → run_on start (take n text) ≡ Some s → step s (get_or text n 0) ≡ None → e ≡ expected_of s.now (top s.opens)
    → (c : ℕ) → names e c ≡ true → Begins (take n text ++ c ∷ [])
expected_before text n s e u l w f i c h = expected_begins text n s c u w (stops_at text n s l f) (subst (λ x. names x c ≡ true) i h)

pub expected_whole : (text : List ℕ) (n : ℕ) (s : State) (e : Expected) → IsUtf8 text → n ≡ length text → run_on start (take n text) ≡ Some s → e ≡ expected_of s.now (top s.opens) → (c : ℕ) → names e c ≡ true → Begins (take n text ++ c ∷ [])
expected_whole text n s e u l w i c h = expected_begins text n s c u w (subst (Stops s) (sym (drop_all n text (omega arith))) tt) (subst (λ x. names x c ≡ true) i h)
