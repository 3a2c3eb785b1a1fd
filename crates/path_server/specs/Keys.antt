-- The written form of tenants' keys (this project's own): one or more keys of 16 bytes, each as 32 hexadecimal digits of either case, joined by commas.
use Rattle.std.specs.Prelude.{◌≡◌, ℕ, List, [], ◌∷◌, ◌++◌, Ok}
use Rattle.hex.specs.Hex.{decode_sized}

abbrev pub SpellsKey : List ℕ → List ℕ → Type 0
SpellsKey text key = decode_sized text 16 ≡ Ok key

abbrev pub SpellsKeys : List ℕ → List (List ℕ) → Type 0
SpellsKeys text [] = ⊥
SpellsKeys text (key ∷ []) = SpellsKey text key
SpellsKeys text (key ∷ next ∷ keys) = (first others : List ℕ) × (text ≡ first ++ 44 ∷ others) × SpellsKey first key × SpellsKeys others (next ∷ keys)
