-- Where the machine stops in a text of UTF-8, no JSON text goes on, and some goes on up to there.
use Rattle.json_text.proofs.Names.{◌≡◌, ◌≢◌, ℕ, zero, suc, ◌+◌, ◌<◌, ◌≤◌, ◌⊎◌, inl, inr, true, leb, List, [], ◌∷◌, ◌++◌, length, take, drop, get_or, Option, Some, None, refl, sym, ap, ◌∙◌, subst, arith, nat_tests, append_assoc, append-nil, IsUtf8, encodes, cases_Bool, length-encode, len_utf8_bounds, IsText, Tree, Plain, take-append-drop, length-take}
use Rattle.json_text.proofs.Strings.{ArePlain, plain_bytes}
use Rattle.std.specs.Char.{IsScalar}
use Rattle.std.proofs.lemmas.Str.{encode_ascii, inside_one}
use Rattle.std.proofs.lemmas.Bool.{and_parts}
use Rattle.std.proofs.Math.Seq.{take-add, drop-cons}
use Rattle.std.proofs.lemmas.List.{take_more, drop_all}
use lib.Utf8.{scalars, scalar, encode}
use Rattle.json_text.specs.declared.modes.Mode.TheVariants.{Between, Escape, Hex}
use Rattle.json_text.specs.declared.tape.Shape.{Shape}
use Rattle.text_faults.specs.declared.marks.Now.{Now}
use Rattle.text_faults.specs.declared.marks.Now.TheVariants as now
use Rattle.text_faults.specs.declared.marks.Purpose.{Purpose}
use Rattle.text_faults.specs.Moves.{State, state, step, step_on, run_on, start}
use Rattle.text_faults.specs.Prefixes.{Begins, IsLongest}
use Rattle.text_faults.proofs.Runs.{run_none, none_begins, over}
use Rattle.text_faults.proofs.Completions.{Completes, some_completion}
use Rattle.text_faults.proofs.Backwards.{Done, byte_back, char_back}

-- the next byte cannot stand
abbrev pub Stops : State → List ℕ → Type 0
Stops s [] = Unit {0}
Stops s (b ∷ bs) = step s b ≡ None

-- ---- bytes that are not ASCII stand in strings alone

record InString (n : Now) : Type 0 where
  purpose : Purpose
  is : n ≡ now.Quoted purpose Between

high_step : (n : Now) (os : List Shape) (b : ℕ) → 128 ≤ b → InString n ⊎ (step (state n os) b ≡ None)
high_step (now.Quoted p Between) os b h = inl (record { purpose = p; is = refl })
high_step (now.Quoted p Escape) os b h = inr (grind (arith, nat_tests))
high_step (now.Quoted p (Hex zero)) os b h = inr (grind (arith, nat_tests))
high_step (now.Quoted p (Hex (suc n))) os b h = inr (grind (arith, nat_tests))
high_step (now.Number d) os b h = inr (grind (arith, nat_tests))
high_step (now.Word l) os b h = inr (grind (arith, nat_tests))
high_step _ os b h = inr (grind (arith, nat_tests))

high_first : (c : ℕ) → 128 ≤ c → (b : ℕ) × (t : List ℕ) × (encode c ≡ b ∷ t) × (128 ≤ b)
high_first c h = go (encode c) refl where
  go : (l : List ℕ) → encode c ≡ l → (b : ℕ) × (t : List ℕ) × (encode c ≡ b ∷ t) × (128 ≤ b)
  go [] e = absurd (let a = length-encode c in let b = len_utf8_bounds c in let d = ap length e in omega (arith, b.0))
  go (b ∷ t) e = elim (cases_Bool (leb 128 b)) [
    | inl f ↦ (b, t, e, grind (arith, nat_tests))
    | inr f ↦ absurd (let low : get_or (b ∷ t) 0 0 < 128 = grind (arith, nat_tests) in
        let long : 0 < length (encode c) = (let d = ap length e in omega arith) in
        let x = inside_one c [] (encode c) 0 (sym (append-nil (encode c))) long (subst (λ l. get_or l 0 0 < 128) (sym e) low) in
        let y : get_or (encode c) 0 0 < 128 = subst (λ l. get_or l 0 0 < 128) (sym e) low in omega arith)
  ]

plain_front : (a b : List ℕ) → ArePlain (a ++ b) → ArePlain a
plain_front [] b h = tt
plain_front (x ∷ a) b h = (h.0, plain_front a b h.1)

plain_back : (a b : List ℕ) → ArePlain (a ++ b) → ArePlain b
plain_back [] b h = h
plain_back (x ∷ a) b h = plain_back a b h.1

-- two ways to cut a list: the first part of the one ends in the second part of the other, or not before
record Longer (e xs a b : List ℕ) : Type 0 where
  more : List ℕ
  is : a ≡ e ++ more
  rest : xs ≡ more ++ b

record Shorter (e xs a b : List ℕ) : Type 0 where
  first : ℕ
  more : List ℕ
  is : e ≡ a ++ first ∷ more
  rest : b ≡ first ∷ (more ++ xs)

cut : (e xs a b : List ℕ) → e ++ xs ≡ a ++ b → Longer e xs a b ⊎ Shorter e xs a b
cut [] xs a b h = inl (record { more = a; is = refl; rest = h })
cut (x ∷ e) xs [] b h = inr (record { first = x; more = e; is = refl; rest = sym h })
cut (x ∷ e) xs (y ∷ a) b h = let f : x ≡ y = cc in let g : e ++ xs ≡ a ++ b = cc in elim (cut e xs a b g) [
  | inl l ↦ inl (record { more = l.more; is = (let i = l.is in cc); rest = l.rest })
  | inr s ↦ inr (record { first = s.first; more = s.more; is = (let i = s.is in cc); rest = s.rest })
]

plain_stays : (bs : List ℕ) (p : Purpose) (os : List Shape) → ArePlain bs → run_on (Some (state (now.Quoted p Between) os)) bs ≡ Some (state (now.Quoted p Between) os)
plain_stays [] p os h = refl
plain_stays (b ∷ bs) p os h = rw h.0 (plain_stays bs p os h.1)

at_end : (s s' : State) (r : List ℕ) → Some s ≡ Some s' → Completes s'.now s'.opens r → Completes s.now s.opens r
at_end s s' r e h = subst (λ o. Done o r) (sym e) h

-- one ASCII character
low_back : (b : ℕ) (a : List ℕ) (s s' : State) (r : List ℕ) → b < 128 → IsScalar b → run_on (Some s) (b ∷ a) ≡ Some s'
    → ((s : State) → run_on (Some s) a ≡ Some s' → Completes s.now s.opens (a ++ r)) → Completes s.now s.opens (b ∷ (a ++ r))
low_back b a s s' r l sc e ih = go (step s b) refl where
  go : (o : Option State) → step s b ≡ o → Completes s.now s.opens (b ∷ (a ++ r))
  go None f = absurd (let x = rw f at e in let y = run_none a in cc)
  go (Some t) f = byte_back s.now s.opens b (a ++ r) l sc (subst (λ o. Done o (a ++ r)) (sym f) (ih t (rw f at e)))

-- one that is not ASCII
high_back : (c : ℕ) (xs a b : List ℕ) (s s' : State) (r : List ℕ) → 128 ≤ c → IsScalar c → a ≢ [] → encode c ++ xs ≡ a ++ b → run_on (Some s) a ≡ Some s' → Stops s' b
    → ((more : List ℕ) → xs ≡ more ++ b → run_on (Some s) more ≡ Some s' → Completes s.now s.opens (more ++ r)) → Completes s.now s.opens (a ++ r)
high_back c xs [] b s s' r l sc some h e stops ih = absurd (some refl)
high_back c xs (x ∷ a) b s s' r l sc some h e stops ih = by_place (high_step s.now s.opens x high) where
  high : 128 ≤ x
  high = let first = high_first c l in let f : first.0 ≡ x = (let g = first.2 in cc) in subst (λ k. 128 ≤ k) f first.3

  plain : ArePlain (encode c)
  plain = plain_bytes c (omega arith) (λ f. omega arith) (λ f. omega arith)

  inside : (p : Purpose) → s ≡ state (now.Quoted p Between) s.opens → Longer (encode c) xs (x ∷ a) b ⊎ Shorter (encode c) xs (x ∷ a) b → Completes s.now s.opens (x ∷ a ++ r)
  inside p f (inl g) =
      let stays : run_on (Some s) (encode c) ≡ Some s = ap (λ t. run_on (Some t) (encode c)) f ∙ plain_stays (encode c) p s.opens plain ∙ ap Some (sym f) in
      let way : run_on (Some s) g.more ≡ Some s' = sym (over (encode c) g.more (Some s) (Some s) stays) ∙ ap (run_on (Some s)) (sym g.is) ∙ e in
      let rest : Completes (now.Quoted p Between) s.opens (g.more ++ r) = subst (λ t. Completes t.now s.opens (g.more ++ r)) f (ih g.more g.rest way) in
      let whole : Completes (now.Quoted p Between) s.opens (encode c ++ (g.more ++ r)) = char_back (encode c) (Plain c) p s.opens (g.more ++ r) (sc, omega arith, (λ k. omega arith), (λ k. omega arith), refl) rest in
      subst (λ l. Completes s.now s.opens (l ++ r)) (sym g.is) (subst (λ l. Completes s.now s.opens l) (sym (append_assoc (encode c) g.more r)) (subst (λ t. Completes t.now s.opens (encode c ++ (g.more ++ r))) (sym f) whole))
  inside p f (inr g) =
      let both : ArePlain (x ∷ a ++ g.first ∷ g.more) = subst ArePlain g.is plain in
      let stays : run_on (Some s) (x ∷ a) ≡ Some s = ap (λ t. run_on (Some t) (x ∷ a)) f ∙ plain_stays (x ∷ a) p s.opens (plain_front (x ∷ a) (g.first ∷ g.more) both) ∙ ap Some (sym f) in
      let same : Some s ≡ Some s' = sym stays ∙ e in
      let goes : step (state (now.Quoted p Between) s.opens) g.first ≡ Some (state (now.Quoted p Between) s.opens) = rw (plain_back (x ∷ a) (g.first ∷ g.more) both).0 refl in
      let stop : step s' g.first ≡ None = subst (λ l. Stops s' l) g.rest stops in
      let at : step_on (Some s) g.first ≡ step_on (Some s') g.first = ap (λ o. step_on o g.first) same in
      let here : step s g.first ≡ step (state (now.Quoted p Between) s.opens) g.first = ap (λ t. step t g.first) f in absurd (cc)

  by_place : InString s.now ⊎ (step (state s.now s.opens) x ≡ None) → Completes s.now s.opens (x ∷ a ++ r)
  by_place (inl i) = inside i.purpose (ap (λ n. state n s.opens) i.is) (cut (encode c) xs (x ∷ a) b h)
  by_place (inr f) = absurd (let y = rw f at e in let z = run_none a in cc)

viable : (us a b : List ℕ) (s s' : State) (r : List ℕ) → scalars us ≡ true → encodes us ≡ a ++ b → run_on (Some s) a ≡ Some s' → Stops s' b → Completes s'.now s'.opens r → Completes s.now s.opens (a ++ r)
viable us [] b s s' r sc h e stops c = at_end s s' r e c
viable [] (x ∷ a) b s s' r sc h e stops c = absurd (cc)
viable (u ∷ us) (x ∷ a) b s s' r sc h e stops c = elim (cases_Bool (leb 128 u)) [
  | inl f ↦ high_back u (encodes us) (x ∷ a) b s s' r (grind (arith, nat_tests)) (and_parts (scalar u) (scalars us) sc).0 (λ g. cc) h e stops (λ more g w. viable us more b s s' r (and_parts (scalar u) (scalars us) sc).1 g w stops c)
  | inr f ↦
      let low : u < 128 = grind (arith, nat_tests) in
      let same : u ∷ encodes us ≡ x ∷ (a ++ b) = sym (ap (λ l. l ++ encodes us) (encode_ascii u low)) ∙ h in
      let head : u ≡ x = cc in let tail : encodes us ≡ a ++ b = cc in
      low_back x a s s' r (subst (λ k. k < 128) head low) (subst IsScalar head (and_parts (scalar u) (scalars us) sc).0) e (λ t w. viable us a b t s' r (and_parts (scalar u) (scalars us) sc).1 tail w stops c)
]

-- what completes the start is a JSON text
spelled : (bytes : List ℕ) → Completes now.Value [] bytes → (t : Tree) × IsText bytes t
spelled bytes (before, v, rest, bl, val, af, f) =
    ((val (length before)).0, record { before = before; bytes = v; after = rest; blanks_before = bl; value = (val (length before)).1; blanks_after = af; whole = f ∙ sym (append_assoc before v rest) })

-- bytes up to which the machine comes, and what completes its state, are a JSON text
pub reaches : (text a b : List ℕ) (s : State) (r : List ℕ) → IsUtf8 text → text ≡ a ++ b → run_on start a ≡ Some s → Stops s b → Completes s.now s.opens r → (t : Tree) × IsText (a ++ r) t
reaches text a b s r (us, (sc, e)) h w stops c = spelled (a ++ r) (viable us a b (state now.Value []) s r sc (e ∙ h) w stops c)

begins : (text a b : List ℕ) (s : State) → IsUtf8 text → text ≡ a ++ b → run_on start a ≡ Some s → Stops s b → Begins a
begins text a b s u h w stops = let x = some_completion s.now s.opens in let y = reaches text a b s x.0 u h w stops x.1 in (x.0, y.0, y.1)

-- the place at which the machine stops
pub longest : (text : List ℕ) (n : ℕ) (s : State) → IsUtf8 text → n ≤ length text → run_on start (take n text) ≡ Some s → Stops s (drop n text) → IsLongest text n
longest text n s u l w stops = record {
  within = l;
  begins = begins text (take n text) (drop n text) s u (sym (take-append-drop n text)) w stops;
  ends = λ m b. go (drop n text) refl m stops b;
}
  where
    go : (rest : List ℕ) → drop n text ≡ rest → n < length text → Stops s rest → Begins (take (n + 1) text) → ⊥
    go [] e m st b = let x = ap length (sym (take-append-drop n text) ∙ ap (λ y. take n text ++ y) e ∙ append-nil (take n text)) in let z = length-take n text in omega arith
    go (c ∷ rest) e m st b =
        let cuts : take (n + 1) text ≡ take n text ++ c ∷ [] = taken in
        let stop : run_on start (take n text ++ c ∷ []) ≡ None = over (take n text) (c ∷ []) start (Some s) w ∙ st in
        none_begins (take (n + 1) text) (ap (run_on start) cuts ∙ stop) b
      where
        taken : take (n + 1) text ≡ take n text ++ c ∷ []
        taken = take-add n 1 text ∙ ap (λ y. take n text ++ take 1 y) e

-- ---- as the loop asks for it

pub run_more : (text : List ℕ) (n : ℕ) (s : State) → n < length text → run_on start (take n text) ≡ Some s → run_on start (take (n + 1) text) ≡ step s (get_or text n 0)
run_more text n s l w = ap (run_on start) (take_more text n 0 l) ∙ over (take n text) (get_or text n 0 ∷ []) start (Some s) w

pub stops_at : (text : List ℕ) (n : ℕ) (s : State) → n < length text → step s (get_or text n 0) ≡ None → Stops s (drop n text)
stops_at text n s l e = subst (Stops s) (sym (drop-cons text n 0 l)) e

pub longest_before : (text : List ℕ) (n : ℕ) (s : State) → IsUtf8 text → n < length text → run_on start (take n text) ≡ Some s → step s (get_or text n 0) ≡ None → IsLongest text n
longest_before text n s u l w e = longest text n s u (omega arith) w (stops_at text n s l e)

pub longest_whole : (text : List ℕ) (n : ℕ) (s : State) → IsUtf8 text → n ≡ length text → run_on start (take n text) ≡ Some s → IsLongest text n
longest_whole text n s u e w = longest text n s u (omega arith) w (subst (Stops s) (sym (drop_all n text (omega arith))) tt)
