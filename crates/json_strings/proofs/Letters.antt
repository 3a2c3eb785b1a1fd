-- Four letters as one number.
use Rattle.std.proofs.Common.{◌≡◌, ℕ, ◌+◌, ◌*◌, ◌<◌, arith}

lowest : (a b x y : ℕ) → a < 256 → b < 256 → a + x * 256 ≡ b + y * 256 → (a ≡ b) × (x ≡ y)
lowest a b x y h g e = (omega arith, omega arith)

-- a number of four bytes has one way to be written
pub digits : (word a b c d w x y z : ℕ) → a < 256 → b < 256 → c < 256 → d < 256 → w < 256 → x < 256 → y < 256 → z < 256
    → word ≡ a + b * 256 + c * 65536 + d * 16777216 → word ≡ w + x * 256 + y * 65536 + z * 16777216 → (a ≡ w) × (b ≡ x) × (c ≡ y) × (d ≡ z)
digits word a b c d w x y z ha hb hc hd hw hx hy hz e f =
    let p = lowest a w (b + (c + d * 256) * 256) (x + (y + z * 256) * 256) ha hw (omega arith) in
    let q = lowest b x (c + d * 256) (y + z * 256) hb hx p.1 in
    let r = lowest c y d z hc hy q.1 in
    (p.0, q.0, r.0, r.1)
