-- Bytes of UTF-8 are in the order of the scalar values that they spell.
use Rattle.json_text.proofs.Names.{◌≡◌, ℕ, ◌+◌, ◌/◌, ◌%◌, ◌<◌, ◌≤◌, ◌⊎◌, inl, inr, true, false, List, [], ◌∷◌, ◌++◌, refl, sym, ap, ◌∙◌, arith, ltb}
use Rattle.json_text.proofs.Names.{nat_cmp, slice_cmp, cases_lt, nat_tests, encodes}
use Rattle.std.specs.Ordering.{ordering_reverse}
use Rattle.std.specs.Cmp.{IsTotalOrder, nat_cmp_total}
use Rattle.std.specs.Cmp.Lexicographic.{lists_total}
use Rattle.std.specs.declared.cmp.Ordering.TheVariants.{Less, Equal, Greater}
use lib.Utf8.{encode, next}

first_less : (a b : ℕ) (bs cs : List ℕ) → a < b → slice_cmp nat_cmp (a ∷ bs) (b ∷ cs) ≡ Less
first_less a b bs cs h = let e : nat_cmp a b ≡ Less = grind (arith, nat_tests) in rw e refl

first_same : (a b : ℕ) (bs cs : List ℕ) → a ≡ b → slice_cmp nat_cmp (a ∷ bs) (b ∷ cs) ≡ slice_cmp nat_cmp bs cs
first_same a b bs cs h = let e : nat_cmp a b ≡ Equal = grind (arith, nat_tests) in rw e refl

-- the order of two numbers by their digits of base 64
digits_less : (c d : ℕ) → c < d → (c / 64 < d / 64) ⊎ ((c / 64 ≡ d / 64) × (c % 64 < d % 64))
digits_less c d h = elim (cases_lt (c / 64) (d / 64)) [ inl l ↦ inl l | inr l ↦ inr (omega arith, omega arith) ]

fourth : (c : ℕ) → c / 4096 ≡ c / 64 / 64
fourth c = omega arith

eighth : (c : ℕ) → c / 262144 ≡ c / 4096 / 64
eighth c = omega arith

two_less : (a c d : ℕ) (r s : List ℕ) → c < d → slice_cmp nat_cmp ((a + c / 64) ∷ next c ∷ r) ((a + d / 64) ∷ next d ∷ s) ≡ Less
two_less a c d r s h = grind arith

three_less : (a c d : ℕ) (r s : List ℕ) → c < d → slice_cmp nat_cmp ((a + c / 4096) ∷ next (c / 64) ∷ next c ∷ r) ((a + d / 4096) ∷ next (d / 64) ∷ next d ∷ s) ≡ Less
three_less a c d r s h = search (arith, digits_less, fourth, two_less, first_same, first_less)

four_less : (a c d : ℕ) (r s : List ℕ) → c < d → slice_cmp nat_cmp ((a + c / 262144) ∷ next (c / 4096) ∷ next (c / 64) ∷ next c ∷ r) ((a + d / 262144) ∷ next (d / 4096) ∷ next (d / 64) ∷ next d ∷ s) ≡ Less
four_less a c d r s h = elim (digits_less c d h) [
  | inl l ↦ rw (eighth c, eighth d, fourth c, fourth d) (three_less' l)
  | inr l ↦ (let e = l.0 in let m = l.1 in let f = fourth c in let g = fourth d in let f' = eighth c in let g' = eighth d in
      first_same (a + c / 262144) (a + d / 262144) (next (c / 4096) ∷ next (c / 64) ∷ next c ∷ r) (next (d / 4096) ∷ next (d / 64) ∷ next d ∷ s) (omega arith)
      ∙ first_same (next (c / 4096)) (next (d / 4096)) (next (c / 64) ∷ next c ∷ r) (next (d / 64) ∷ next d ∷ s) (ap next (omega arith))
      ∙ first_same (next (c / 64)) (next (d / 64)) (next c ∷ r) (next d ∷ s) (ap next e)
      ∙ first_less (next c) (next d) r s (omega arith))
] where
  three_less' : c / 64 < d / 64 → slice_cmp nat_cmp ((a + c / 64 / 64 / 64) ∷ next (c / 64 / 64) ∷ next (c / 64) ∷ next c ∷ r) ((a + d / 64 / 64 / 64) ∷ next (d / 64 / 64) ∷ next (d / 64) ∷ next d ∷ s) ≡ Less
  three_less' l = let t = three_less a (c / 64) (d / 64) (next c ∷ r) (next d ∷ s) l in rw (fourth (c / 64), fourth (d / 64)) at t

one : (c : ℕ) → c < 128 → encode c ≡ c ∷ []
unfolding encode
one c h = let t : ltb c 128 ≡ true = grind (arith, nat_tests) in rw t refl

two : (c : ℕ) → 128 ≤ c → c < 2048 → encode c ≡ (192 + c / 64) ∷ next c ∷ []
unfolding encode
two c h g = let t : ltb c 128 ≡ false = grind (arith, nat_tests) in let u : ltb c 2048 ≡ true = grind (arith, nat_tests) in rw (t, u) refl

three : (c : ℕ) → 2048 ≤ c → c < 65536 → encode c ≡ (224 + c / 4096) ∷ next (c / 64) ∷ next c ∷ []
unfolding encode
three c h g = grind arith

four : (c : ℕ) → 65536 ≤ c → encode c ≡ (240 + c / 262144) ∷ next (c / 4096) ∷ next (c / 64) ∷ next c ∷ []
unfolding encode
four c h = grind arith

-- how many bytes a scalar value has, and the first of them
data Long (c : ℕ) : Type 0 where
  is_one : c < 128 → Long c
  is_two : 128 ≤ c → c < 2048 → Long c
  is_three : 2048 ≤ c → c < 65536 → Long c
  is_four : 65536 ≤ c → Long c

long : (c : ℕ) → Long c
long c = grind arith

encode_less : (c d : ℕ) (r s : List ℕ) → Long c → Long d → c < d → slice_cmp nat_cmp (encode c ++ r) (encode d ++ s) ≡ Less
encode_less c d r s (is_one a) (is_one b) h = rw (one c a, one d b) (first_less c d r s h)
encode_less c d r s (is_one a) (is_two b b') h = rw (one c a, two d b b') (first_less c (192 + d / 64) r (next d ∷ s) (omega arith))
encode_less c d r s (is_one a) (is_three b b') h = rw (one c a, three d b b') (first_less c (224 + d / 4096) r (next (d / 64) ∷ next d ∷ s) (omega arith))
encode_less c d r s (is_one a) (is_four b) h = rw (one c a, four d b) (first_less c (240 + d / 262144) r (next (d / 4096) ∷ next (d / 64) ∷ next d ∷ s) (omega arith))
encode_less c d r s (is_two a a') (is_one b) h = absurd (omega arith)
encode_less c d r s (is_two a a') (is_two b b') h = rw (two c a a', two d b b') (two_less 192 c d r s h)
encode_less c d r s (is_two a a') (is_three b b') h = rw (two c a a', three d b b') (first_less (192 + c / 64) (224 + d / 4096) (next c ∷ r) (next (d / 64) ∷ next d ∷ s) (omega arith))
encode_less c d r s (is_two a a') (is_four b) h = rw (two c a a', four d b) (first_less (192 + c / 64) (240 + d / 262144) (next c ∷ r) (next (d / 4096) ∷ next (d / 64) ∷ next d ∷ s) (omega arith))
encode_less c d r s (is_three a a') (is_one b) h = absurd (omega arith)
encode_less c d r s (is_three a a') (is_two b b') h = absurd (omega arith)
encode_less c d r s (is_three a a') (is_three b b') h = rw (three c a a', three d b b') (three_less 224 c d r s h)
encode_less c d r s (is_three a a') (is_four b) h = rw (three c a a', four d b) (first_less (224 + c / 4096) (240 + d / 262144) (next (c / 64) ∷ next c ∷ r) (next (d / 4096) ∷ next (d / 64) ∷ next d ∷ s) (omega arith))
encode_less c d r s (is_four a) (is_one b) h = absurd (omega arith)
encode_less c d r s (is_four a) (is_two b b') h = absurd (omega arith)
encode_less c d r s (is_four a) (is_three b b') h = absurd (omega arith)
encode_less c d r s (is_four a) (is_four b) h = rw (four c a, four d b) (four_less 240 c d r s h)

total : IsTotalOrder (slice_cmp nat_cmp)
total = lists_total nat_cmp_total

greater : (bs cs : List ℕ) → slice_cmp nat_cmp cs bs ≡ Less → slice_cmp nat_cmp bs cs ≡ Greater
greater bs cs h = total.antisymm bs cs ∙ ap ordering_reverse h

-- a front that both have decides nothing
same_front : (fs bs cs : List ℕ) → slice_cmp nat_cmp (fs ++ bs) (fs ++ cs) ≡ slice_cmp nat_cmp bs cs
same_front [] bs cs = refl
same_front (a ∷ fs) bs cs = first_same a a (fs ++ bs) (fs ++ cs) refl ∙ same_front fs bs cs

encode_first : (c : ℕ) → Long c → (b : ℕ) × (bs : List ℕ) × (encode c ≡ b ∷ bs)
encode_first c (is_one a) = (_, _, one c a)
encode_first c (is_two a a') = (_, _, two c a a')
encode_first c (is_three a a') = (_, _, three c a a')
encode_first c (is_four a) = (_, _, four c a)

pub encodes_order : (cs ds : List ℕ) → slice_cmp nat_cmp (encodes cs) (encodes ds) ≡ slice_cmp nat_cmp cs ds
encodes_order [] [] = refl
encodes_order [] (d ∷ ds) = let f = encode_first d (long d) in rw f.2 refl
encodes_order (c ∷ cs) [] = let f = encode_first c (long c) in rw f.2 refl
encodes_order (c ∷ cs) (d ∷ ds) = elim (cases_lt c d) [
  | inl l ↦ encode_less c d (encodes cs) (encodes ds) (long c) (long d) l ∙ sym (first_less c d cs ds l)
  | inr l ↦ elim (cases_lt d c) [
    | inl m ↦ greater (encode c ++ encodes cs) (encode d ++ encodes ds) (encode_less d c (encodes ds) (encodes cs) (long d) (long c) m) ∙ sym (greater (c ∷ cs) (d ∷ ds) (first_less d c ds cs m))
    | inr m ↦ (let e : c ≡ d = omega arith in ap (λ x. slice_cmp nat_cmp (encode x ++ encodes cs) (encode d ++ encodes ds)) e
        ∙ same_front (encode d) (encodes cs) (encodes ds) ∙ encodes_order cs ds ∙ sym (first_same c d cs ds e))
  ]
]
