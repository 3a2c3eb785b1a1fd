-- Elements that are told apart by numbers beside them.
use Rattle.std.specs.Prelude.{ℕ, List, [], ◌∷◌, nat_eq, if◌then◌else◌}

-- those that have this number, where the numbers of all stand beside them
abbrev pub dealt : {A : Type 0} → (numbers : List ℕ) → ℕ → List A → List A
dealt [] k xs = []
dealt (j ∷ js) k [] = []
dealt (j ∷ js) k (x ∷ xs) = if nat_eq j k then x ∷ dealt js k xs else dealt js k xs
