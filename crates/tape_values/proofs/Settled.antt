-- Where no escape is open behind a few characters, wherever a reading stands before them, what follows is read by itself.
use Rattle.std.proofs.Common.{◌≡◌, ℕ, zero, suc, ◌+◌, ◌-◌, ◌*◌, ◌%◌, ◌<◌, ◌≤◌, ◌⊎◌, Bool, ltb, leb, ◌&&◌, inl, inr, true, false, List, [], ◌∷◌, ◌++◌, length, take, drop, take-append-drop, subst, Option, Some, None, refl, sym, ap, ◌∙◌, arith, eqb}
use Rattle.std.specs.Str.{chars, IsUtf8}
use Rattle.std.specs.Char.{digit_value}
use Rattle.std.proofs.lemmas.Bool.{cases_Bool, ltb-true, ltb-false}
use Rattle.std.proofs.lemmas.Nat.{mod-mul-add}
use Rattle.std.proofs.lemmas.Str.{chars-append, IsUtf8-append}
use Rattle.std.specs.Cmp.Lexicographic.{pointwise, bytes_decides}
use Rattle.std.proofs.lemmas.List.{take-take, drop-take, drop-drop}
use Rattle.json_text.specs.Tree.{Unit4}
use Rattle.json_text.specs.Meaning.{meaning_after, paired, short_value, is_high, is_low}
use Rattle.json_strings.specs.Spelling.{spelt_from, scalars_in, hex_value, unquoted}
use Rattle.json_text.specs.declared.modes.Mode.{Mode}
use Rattle.json_text.specs.declared.modes.Mode.TheVariants.{Between, Escape, Hex}
use Rattle.tape_values.specs.Fronts.{IsSettled, HaveRests, meant_by}
use Rattle.tape_values.specs.Settling.{high_by, settles, AreSettled}

-- characters that are read from this mode on, behind this high surrogate or none, stand before what follows
abbrev Passed : Mode → ℕ → Option ℕ → List ℕ → Type 0
Passed m u high cs = (front : List ℕ) × ((ds : List ℕ) → meaning_after high (spelt_from m u (cs ++ ds)) ≡ front ++ scalars_in ds)

nothing : (u : ℕ) (ds : List ℕ) → spelt_from Between u ds ≡ spelt_from Between 0 ds
nothing u [] = refl
nothing u (d ∷ ds) = refl

-- a unit of an escape, once what follows is passed: behind no high surrogate where the unit is none, and behind any
lower : (w : ℕ) (high : Option ℕ) (cs : List ℕ) → is_high w ≡ false → Passed Between 0 None cs
    → (front : List ℕ) × ((ds : List ℕ) → meaning_after high (Unit4 w ∷ spelt_from Between 0 (cs ++ ds)) ≡ front ++ scalars_in ds)
lower w high cs f q = elim (cases_Bool (is_low w)) [
  | inl t ↦ low high t
  | inr g ↦ (w ∷ q.0, λ ds. rw (f, g) (ap (λ xs. w ∷ xs) (q.1 ds)))
] where
  low : (h : Option ℕ) → is_low w ≡ true → (more : List ℕ) × ((ds : List ℕ) → meaning_after h (Unit4 w ∷ spelt_from Between 0 (cs ++ ds)) ≡ more ++ scalars_in ds)
  low None t = (q.0, λ ds. rw (f, t) (q.1 ds))
  low (Some s) t = (paired (Some s) w q.0, λ ds. rw (f, t) (ap (paired (Some s) w) (q.1 ds)))

unit : (w : ℕ) (high : Option ℕ) (cs : List ℕ) → ((h : Option ℕ) → Passed Between 0 h cs)
    → (front : List ℕ) × ((ds : List ℕ) → meaning_after high (Unit4 w ∷ spelt_from Between 0 (cs ++ ds)) ≡ front ++ scalars_in ds)
unit w high cs p = elim (cases_Bool (is_high w)) [
  | inl t ↦ let q = p (Some w) in (q.0, λ ds. rw t (q.1 ds))
  | inr f ↦ lower w high cs f (p None)
]

-- below the surrogates, or above them
abbrev Beside : ℕ → ℕ → ℕ → ℕ → Type 0
Beside low high end u = (u < low) ⊎ ((high ≤ u) × (u < end))

-- what is known of the digits read so far: how many there are, and that they are not those of a high surrogate where that is known
abbrev Told : Mode → Bool → ℕ → Type 0
Told Between may u = Unit {0}
Told Escape may u = Unit {0}
Told (Hex zero) true u = u < 4096
Told (Hex zero) false u = Beside 3456 3520 4096 u
Told (Hex (suc zero)) true u = u < 256
Told (Hex (suc zero)) false u = Beside 216 220 256 u
Told (Hex (suc (suc zero))) true u = u < 16
Told (Hex (suc (suc zero))) false u = Beside 13 14 16 u
Told (Hex (suc (suc (suc zero)))) may u = u ≡ 0
Told (Hex (suc (suc (suc (suc n))))) may u = ⊥

mod_is : (u : ℕ) → u < 4096 → u % 4096 ≡ u
mod_is u h = let m = mod-mul-add 0 4096 u h in let e : 0 * 4096 + u ≡ u = omega arith in rw e at m

digit_below : (c : ℕ) → hex_value c < 16
digit_below c = elim (cases_Bool (ltb (digit_value c) 16)) [
  | inl t ↦ rw t (ltb-true (digit_value c) 16 t)
  | inr f ↦ rw f (omega arith)
]

shifted : (low high end u v : ℕ) → low ≤ 4096 → end ≤ 4096 → v < 16 → Beside low high end u → Beside (16 * low) (16 * high) (16 * end) (16 * (u % 4096) + v)
shifted low high end u v i e w (inl l) = let same : u % 4096 ≡ u = mod_is u (omega (arith, l, i)) in rw same (inl (omega (arith, l, w)))
shifted low high end u v i e w (inr r) = let same : u % 4096 ≡ u = mod_is u (omega (arith, r.1, e)) in rw same (inr (omega (arith, r.0, w), omega (arith, r.1, w)))

below : (end u v : ℕ) → end ≤ 4096 → v < 16 → u < end → 16 * (u % 4096) + v < 16 * end
below end u v e w h = let same : u % 4096 ≡ u = mod_is u (omega (arith, e, h)) in rw same (omega (arith, h, w))

not_high : (w : ℕ) → Beside 55296 56320 65536 w → is_high w ≡ false
not_high w (inl l) = grind arith
not_high w (inr r) = grind arith

wider : (u : ℕ) → Beside 208 224 256 u → Beside 216 220 256 u
wider u (inl l) = inl (omega (arith, l))
wider u (inr r) = inr (omega (arith, r.0), r.1)

apart : (u v : ℕ) → u < 16 → v < 16 → (v < 8) ⊎ (12 ≤ v) → Beside 216 220 256 (16 * u + v)
apart u v p q (inl l) = elim (cases_Bool (ltb u 14)) [
  | inl t ↦ let h = ltb-true u 14 t in inl (omega (arith, h, l))
  | inr f ↦ let h = ltb-false u 14 f in inr (omega (arith, h), omega (arith, p, q))
]
apart u v p q (inr r) = elim (cases_Bool (ltb u 13)) [
  | inl t ↦ let h = ltb-true u 13 t in inl (omega (arith, h, q))
  | inr f ↦ let h = ltb-false u 13 f in inr (omega (arith, h, r), omega (arith, p, q))
]

outside : (v : ℕ) → false ≡ leb 8 v && ltb v 12 → (v < 8) ⊎ (12 ≤ v)
outside v e = elim (cases_Bool (ltb v 8)) [
  | inl t ↦ inl (ltb-true v 8 t)
  | inr f ↦ let h = ltb-false v 8 f in inr (grind (arith, e, h))
]

first_told : (c : ℕ) (b : Bool) → b ≡ eqb (hex_value c) 13 → Told (Hex 2) b (16 * (0 % 4096) + hex_value c)
first_told c true e = below 1 0 (hex_value c) (omega arith) (digit_below c) (omega arith)
first_told c false e = let v = digit_below c in grind arith

second_told : (u v : ℕ) (b : Bool) → b ≡ leb 8 v && ltb v 12 → u < 16 → v < 16 → Told (Hex 1) b (16 * (u % 4096) + v)
second_told u v true e p q = below 16 u v (omega arith) q p
second_told u v false e p q = let same : u % 4096 ≡ u = mod_is u (omega (arith, p)) in rw same (apart u v p q (outside v e))

told_next : (n : ℕ) (may : Bool) (u c : ℕ) → Told (Hex (suc n)) may u → Told (Hex n) (high_by n (hex_value c) may) (16 * (u % 4096) + hex_value c)
told_next zero true u c t = below 256 u (hex_value c) (omega arith) (digit_below c) t
told_next zero false u c t = shifted 216 220 256 u (hex_value c) (omega arith) (omega arith) (digit_below c) t
told_next (suc zero) true u c t = second_told u (hex_value c) (leb 8 (hex_value c) && ltb (hex_value c) 12) refl t (digit_below c)
told_next (suc zero) false u c t = wider (16 * (u % 4096) + hex_value c) (shifted 13 14 16 u (hex_value c) (omega arith) (omega arith) (digit_below c) t)
told_next (suc (suc zero)) may u c t = rw t (first_told c (eqb (hex_value c) 13) refl)
told_next (suc (suc (suc n))) may u c t = absurd t

-- less is known
weaker : (n : ℕ) (may : Bool) (u : ℕ) → Told (Hex n) may u → Told (Hex n) true u
weaker zero true u t = t
weaker zero false u (inl l) = omega (arith, l)
weaker zero false u (inr r) = r.1
weaker (suc zero) true u t = t
weaker (suc zero) false u (inl l) = omega (arith, l)
weaker (suc zero) false u (inr r) = r.1
weaker (suc (suc zero)) true u t = t
weaker (suc (suc zero)) false u (inl l) = omega (arith, l)
weaker (suc (suc zero)) false u (inr r) = r.1
weaker (suc (suc (suc zero))) may u t = t
weaker (suc (suc (suc (suc n)))) may u t = absurd t

settle : (m : Mode) (u : ℕ) (high : Option ℕ) (is_open may : Bool) (cs : List ℕ) → settles m is_open may cs ≡ true → (is_open ≡ false → high ≡ None) → Told m may u → Passed m u high cs
settle Between u high true may [] s h t = absurd cc
settle Between u high false may [] s h t = let none = h refl in ([], λ ds. rw none (ap (meaning_after None) (nothing u ds)))
settle Escape u high is_open may [] s h t = absurd cc
settle (Hex n) u high is_open may [] s h t = absurd cc
settle Between u high is_open may (c ∷ cs) s h t = elim (cases_Bool (eqb c 92)) [
  | inl e ↦ let p = settle Escape 0 high is_open false cs (rw e at s) h tt in (p.0, λ ds. rw e (p.1 ds))
  | inr e ↦ let p = settle Between 0 None false false cs (rw e at s) (λ _. refl) tt in (c ∷ p.0, λ ds. rw e (ap (λ xs. c ∷ xs) (p.1 ds)))
]
settle Escape u high is_open may (c ∷ cs) s h t = elim (cases_Bool (eqb c 117)) [
  | inl e ↦ let p = settle (Hex 3) 0 high is_open false cs (rw e at s) h refl in (p.0, λ ds. rw e (p.1 ds))
  | inr e ↦ let p = settle Between 0 None false false cs (rw e at s) (λ _. refl) tt in (short_value c ∷ p.0, λ ds. rw e (ap (λ xs. short_value c ∷ xs) (p.1 ds)))
]
settle (Hex zero) u high is_open true (c ∷ cs) s h t = unit (16 * (u % 4096) + hex_value c) high cs (λ k. settle Between 0 k true false cs s (λ e. absurd cc) tt)
settle (Hex zero) u high is_open false (c ∷ cs) s h t =
    let w = 16 * (u % 4096) + hex_value c in
    lower w high cs (not_high w (shifted 3456 3520 4096 u (hex_value c) (omega arith) (omega arith) (digit_below c) t)) (settle Between 0 None false false cs s (λ _. refl) tt)
settle (Hex (suc n)) u high is_open may (c ∷ cs) s h t =
    settle (Hex n) (16 * (u % 4096) + hex_value c) high is_open (high_by n (hex_value c) may) cs s h (told_next n may u c t)

-- one digit more
pub hex_next : (n : ℕ) (high may : Bool) (c : ℕ) (cs : List ℕ) → 0 < n
    → settles (Hex (n - 1)) high (high_by (n - 1) (hex_value c) may) cs ≡ settles (Hex n) high may (c ∷ cs)
hex_next zero high may c cs h = absurd (omega (arith, h))
hex_next (suc n) high may c cs h = let e : suc n - 1 ≡ n = omega arith in rw e refl

-- whatever stands before them
passes : (m : Mode) (u : ℕ) (high : Option ℕ) (cs tail : List ℕ) → AreSettled tail → Told m true u → Passed m u high (cs ++ tail)
passes Between u high [] tail all t = settle Between u high true true tail all.between (λ e. absurd cc) tt
passes Escape u high [] tail all t = settle Escape u high true true tail all.escape (λ e. absurd cc) tt
passes (Hex zero) u high [] tail all t = settle (Hex 0) u high true true tail all.last (λ e. absurd cc) t
passes (Hex (suc zero)) u high [] tail all t = settle (Hex 1) u high true true tail all.third (λ e. absurd cc) t
passes (Hex (suc (suc zero))) u high [] tail all t = settle (Hex 2) u high true true tail all.second (λ e. absurd cc) t
passes (Hex (suc (suc (suc zero)))) u high [] tail all t = settle (Hex 3) u high true true tail all.first (λ e. absurd cc) t
passes (Hex (suc (suc (suc (suc n))))) u high [] tail all t = absurd t
passes Between u high (c ∷ cs) tail all t = elim (cases_Bool (eqb c 92)) [
  | inl e ↦ let p = passes Escape 0 high cs tail all tt in (p.0, λ ds. rw e (p.1 ds))
  | inr e ↦ let p = passes Between 0 None cs tail all tt in (c ∷ p.0, λ ds. rw e (ap (λ xs. c ∷ xs) (p.1 ds)))
]
passes Escape u high (c ∷ cs) tail all t = elim (cases_Bool (eqb c 117)) [
  | inl e ↦ let p = passes (Hex 3) 0 high cs tail all refl in (p.0, λ ds. rw e (p.1 ds))
  | inr e ↦ let p = passes Between 0 None cs tail all tt in (short_value c ∷ p.0, λ ds. rw e (ap (λ xs. short_value c ∷ xs) (p.1 ds)))
]
passes (Hex zero) u high (c ∷ cs) tail all t = unit (16 * (u % 4096) + hex_value c) high (cs ++ tail) (λ s. passes Between 0 s cs tail all tt)
passes (Hex (suc zero)) u high (c ∷ cs) tail all t = passes (Hex zero) (16 * (u % 4096) + hex_value c) high cs tail all (told_next zero true u c t)
passes (Hex (suc (suc zero))) u high (c ∷ cs) tail all t = passes (Hex (suc zero)) (16 * (u % 4096) + hex_value c) high cs tail all (weaker 1 (high_by 1 (hex_value c) true) (16 * (u % 4096) + hex_value c) (told_next (suc zero) true u c t))
passes (Hex (suc (suc (suc zero)))) u high (c ∷ cs) tail all t = passes (Hex (suc (suc zero))) (16 * (u % 4096) + hex_value c) high cs tail all (weaker 2 (high_by 2 (hex_value c) true) (16 * (u % 4096) + hex_value c) (told_next (suc (suc zero)) true u c t))
passes (Hex (suc (suc (suc (suc n))))) u high (c ∷ cs) tail all t = absurd t

pub settled : (head tail : List ℕ) → IsUtf8 head → IsUtf8 tail → AreSettled (chars tail) → IsSettled (head ++ tail)
settled head tail u v all =
    let p = passes Between 0 None (chars head) (chars tail) all tt in
    (IsUtf8-append head tail u v, (p.0, λ cs. ap (λ xs. scalars_in (xs ++ cs)) (chars-append head tail u) ∙ p.1 cs))

-- two parts of one text are settled
pub settled_parts : (text head tail : List ℕ) (n : ℕ) → head ≡ take n text → tail ≡ drop n text → IsUtf8 head → IsUtf8 tail → (read : List ℕ) → read ≡ tail → AreSettled (chars read) → IsSettled text
settled_parts text head tail n front back u v read same all = subst IsSettled (ap (λ xs. xs ++ tail) front ∙ ap (λ xs. take n text ++ xs) back ∙ take-append-drop n text) (settled head tail u v (subst (λ l. AreSettled (chars l)) same all))

parts : (i n : ℕ) (l : List ℕ) → take (i + n) l ≡ take i l ++ take n (drop i l)
parts i n l = sym (take-append-drop i (take (i + n) l)) ∙ ap (λ z. z ++ drop i (take (i + n) l)) (take-take i (i + n) l (omega arith)) ∙ ap (λ z. take i l ++ z) (drop-take i n l)

-- more that is the same
more_same : (xs ys : List ℕ) (i n : ℕ) → take i xs ≡ take i ys → take n (drop i xs) ≡ take n (drop i ys) → take (i + n) xs ≡ take (i + n) ys
more_same xs ys i n front back = parts i n xs ∙ ap (λ l. l ++ take n (drop i xs)) front ∙ ap (λ l. take i ys ++ l) back ∙ sym (parts i n ys)

same_bytes : (xs ys : List ℕ) → pointwise eqb xs ys ≡ true → xs ≡ ys
same_bytes xs ys e = (bytes_decides xs ys).0 e

pub block_same : (xs ys : List ℕ) (i m n : ℕ) → m ≡ n → take i xs ≡ take i ys → true ≡ pointwise eqb (take m (drop i xs)) (take m (drop i ys)) → take (i + n) xs ≡ take (i + n) ys
block_same xs ys i m n e front q = let block = same_bytes (take m (drop i xs)) (take m (drop i ys)) (sym q) in more_same xs ys i n front (rw e at block)

pub shorter_same : (xs ys : List ℕ) (p n : ℕ) → p ≤ n → take n xs ≡ take n ys → take p xs ≡ take p ys
shorter_same xs ys p n h e = sym (take-take p n xs h) ∙ ap (λ l. take p l) e ∙ take-take p n ys h

-- what is left of a string behind a front, between the quotes
inside_cut : (a : List ℕ) (p : ℕ) → 1 ≤ p → p < length a → unquoted a ≡ take (p - 1) (drop 1 a) ++ take (length a - 1 - p) (drop p a)
inside_cut a p some inside =
    let m = p - 1 in
    let n = length a - 1 - p in
    let all : length a - 2 ≡ m + n = omega (arith, some, inside) in
    let place : 1 + m ≡ p = omega (arith, some) in
    ap (λ k. take k (drop 1 a)) all ∙ parts m n (drop 1 a) ∙ ap (λ l. take m (drop 1 a) ++ take n l) (drop-drop m 1 a ∙ ap (λ k. drop k a) place)

front_inside : (a : List ℕ) (q : ℕ) → take q (drop 1 a) ≡ drop 1 (take (suc q) a)
front_inside [] zero = refl
front_inside [] (suc q) = refl
front_inside (x ∷ a) q = refl

same_inside : (a b : List ℕ) (p : ℕ) → 1 ≤ p → take p a ≡ take p b → take (p - 1) (drop 1 a) ≡ take (p - 1) (drop 1 b)
same_inside a b zero some e = absurd (omega (arith, some))
same_inside a b (suc q) some e = let z : suc q - 1 ≡ q = omega arith in rw z (front_inside a q ∙ ap (λ l. drop 1 l) e ∙ sym (front_inside b q))

meant_behind : (a left : List ℕ) (p : ℕ) (front : List ℕ) → 1 ≤ p → p < length a → IsUtf8 (take (p - 1) (drop 1 a)) → ((cs : List ℕ) → scalars_in (chars (take (p - 1) (drop 1 a)) ++ cs) ≡ front ++ scalars_in cs)
    → left ≡ take (length a - 1 - p) (drop p a) → meant_by a ≡ front ++ scalars_in (chars left)
meant_behind a left p front some inside u f e =
    ap (λ l. scalars_in (chars l)) (inside_cut a p some inside ∙ ap (λ l. take (p - 1) (drop 1 a) ++ l) (sym e))
    ∙ ap scalars_in (chars-append (take (p - 1) (drop 1 a)) left u) ∙ f (chars left)

pub rests_are : (a b left right : List ℕ) (p : ℕ) → 1 ≤ p → p < length a → p < length b → take p a ≡ take p b → IsSettled (take (p - 1) (drop 1 a))
    → left ≡ take (length a - 1 - p) (drop p a) → right ≡ take (length b - 1 - p) (drop p b) → HaveRests a b left right
rests_are a b left right p some in_a in_b same s e f =
    let other = subst IsSettled (same_inside a b p some same) s in
    let front = s.1.0 in
    let g : (cs : List ℕ) → scalars_in (chars (take (p - 1) (drop 1 b)) ++ cs) ≡ front ++ scalars_in cs = λ cs. rw (sym (same_inside a b p some same)) (s.1.1 cs) in
    (front, meant_behind a left p front some in_a s.0 s.1.1 e, meant_behind b right p front some in_b other.0 g f)
