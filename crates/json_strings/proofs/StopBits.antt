-- What a bit of a mask tells of the bytes of a string.
use Rattle.json_text.proofs.Names.{◌≡◌, ℕ, ◌%◌, ◌^◌, ◌<◌, ◌≤◌, ◌≢◌, eqb, leb, bit_or, List, map, replicate, arith}
use Rattle.json_text.proofs.Names.{bit_at, nat_tests, zip2, mask_l, top}
use Rattle.structural_index.proofs.Lanes.{HasLane, repeated, combined, off, neither, equal, at_most}

-- neither a backslash nor a byte above ASCII stands in the lane
pub stands_alone : (n i : ℕ) (v : List ℕ) (x : ℕ) → n ≤ 64 → i < n → HasLane n i v x
    → bit_at (mask_l (map (top 7) (zip2 bit_or (zip2 equal v (replicate n 92)) (zip2 at_most (replicate n 128) v))) % 2 ^ 64) i ≡ 0
    → (x < 128) × (x ≢ 92)
stands_alone n i v x few inside lane clear = let backslash = combined equal n i v (replicate n 92) x 92 inside lane (repeated n i 92 inside) in
    let above = combined at_most n i (replicate n 128) v 128 x inside (repeated n i 128 inside) lane in
    let both = combined bit_or n i _ _ _ _ inside backslash above in let t = neither (eqb x 92) (leb 128 x) (off 7 n i _ _ few inside both clear) in
    (let a = t.1 in grind (arith, nat_tests), let b = t.0 in λ e. grind (arith, nat_tests))
