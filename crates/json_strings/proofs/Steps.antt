-- The small functions, one byte further.
use Rattle.json_text.proofs.Names.{◌≡◌, ℕ, ◌+◌, ◌<◌, ◌≤◌, List, [], length, take, drop, get_or, arith, None, ap, drop_more, drop_all}
use Rattle.json_text.proofs.Names.{take_all, turn, next_of, string_end}
use Rattle.json_text.specs.declared.modes.Mode.{Mode}
use Rattle.json_text.specs.declared.modes.Mode.TheVariants.{Between}
use Rattle.json_text.specs.declared.modes.Turn.TheVariants.{Go}

pub quote_step : (text : List ℕ) (m : Mode) (k : ℕ) → k < length text
    → string_end m k (drop k text) ≡ next_of (turn m (get_or text k 0)) (k + 1) (λ n. string_end n (k + 1) (drop (k + 1) text))
quote_step text m k h = ap (string_end m k) (drop_more text k 0 h)

pub quote_over : (text : List ℕ) (m : Mode) (k : ℕ) → length text ≤ k → string_end m k (drop k text) ≡ None
quote_over text m k h = ap (string_end m k) (drop_all k text h)

pub part_past : (text : List ℕ) (n k : ℕ) → length text ≤ k → take n (drop k text) ≡ []
part_past text n k h = grind (arith, drop_all)

pub part_all : (text : List ℕ) (n k : ℕ) → length (drop k text) ≤ n → take n (drop k text) ≡ drop k text
part_all text n k h = take_all n (drop k text) h

-- a byte that stands for itself
pub plain_step : (text : List ℕ) (k start : ℕ) → k < length text → turn Between (get_or text k 0) ≡ Go Between
    → string_end Between k (drop k text) ≡ string_end Between start (drop start text) → string_end Between (k + 1) (drop (k + 1) text) ≡ string_end Between start (drop start text)
plain_step text k start h t e = grind (arith, drop_more)
