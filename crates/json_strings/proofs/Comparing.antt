-- Comparing a name with scalar values one by one.
use Rattle.json_text.proofs.Names.{◌≡◌, ◌≢◌, ℕ, ◌<◌, false, List, ◌∷◌, length, get_or, drop, refl, arith, bytes_eq, eqb, drop_more, nat_tests}

pub other_next : (name : List ℕ) (i c d : ℕ) (rest : List ℕ) → i < length name → d ≡ get_or name i d → c ≢ d → bytes_eq (drop i name) (c ∷ rest) ≡ false
other_next name i c d rest h e n = let t : eqb (get_or name i d) c ≡ false = grind (arith, nat_tests) in rw (drop_more name i d h, t) refl
