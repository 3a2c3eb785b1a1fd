-- Words and numbers that are within the limits of numbers.
use Rattle.json_text.proofs.Names.{◌≡◌, ℕ, ◌+◌, ◌≤◌, List, length, take, drop, Bool, true, ap, arith, Ok}
use Rattle.json_walk.proofs.Names.{IsWithinLimits, Marked}
use Rattle.decimal_order.specs.Laws.{LateExponentsKeepLimits}
use Rattle.json_walk.proofs.Marks.{unmarked, word_marked}

-- ten bytes are within the limits of numbers, whatever they are
few_limited : LateExponentsKeepLimits → (bytes : List ℕ) → length bytes ≤ 10 → IsWithinLimits bytes
few_limited law bytes few = law bytes 0 (omega (arith, few)) (omega (arith, few)) (λ k below. absurd (omega arith))

-- a number within the limits leaves the mark
pub limited_marked : (bytes bs : List ℕ) (i : ℕ) (old : Bool) → bs ≡ take (length bs) (drop i bytes) → IsWithinLimits bs → Marked bytes i old (Ok (i + length bs)) old
limited_marked bytes bs i old e w = word_marked bytes bs i old true old e (λ _. w) (unmarked old)

-- and so does a word
pub spelt_marked : LateExponentsKeepLimits → (bytes bs : List ℕ) (i : ℕ) (old : Bool) (word : List ℕ) → bs ≡ take (length bs) (drop i bytes) → bs ≡ word → length word ≤ 10 → Marked bytes i old (Ok (i + length bs)) old
spelt_marked law bytes bs i old word e same few = limited_marked bytes bs i old e (few_limited law bs (let n = ap length same in omega (arith, few)))
