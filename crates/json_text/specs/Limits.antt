-- Numbers beyond the limits, by the entries.
use Rattle.std.specs.Prelude.{◌≡◌, ℕ, List, [], ◌∷◌, take, drop}
use Rattle.decimal_order.specs.Number.{IsNumber}
use Rattle.decimal_order.specs.Limits.{IsWithinLimits}
use Rattle.json_text.specs.declared.tape.Kind.TheVariants as kinds
use Rattle.json_text.specs.declared.tape.Extent.{Extent}
use Rattle.json_text.specs.declared.tape.Entry.{Entry}

-- the bytes that stand there
abbrev pub bytes_at : List ℕ → Extent → List ℕ
bytes_at text x = take x.len (drop x.start text)

-- a number within the limits
abbrev pub IsLimited : List ℕ → Type 0
IsLimited bs = IsNumber bs × IsWithinLimits bs

-- the entry is that of a number whose text is not within the limits
abbrev pub IsBadNumber : List ℕ → Entry → Type 0
IsBadNumber text e = (e.kind ≡ kinds.Number) × (IsLimited (bytes_at text e.source) → ⊥)

-- each number is within the limits
abbrev pub AreWithinLimits : List ℕ → List Entry → Type 0
AreWithinLimits text [] = Unit {0}
AreWithinLimits text (e ∷ es) = (e.kind ≡ kinds.Number → IsWithinLimits (bytes_at text e.source)) × AreWithinLimits text es
