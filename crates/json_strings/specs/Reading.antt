-- What a character of a string does to a reading of scalar values, one character after another.
use Rattle.std.specs.Prelude.{◌≡◌, ℕ, IfSome, List, ◌∷◌, Option, None}
use Rattle.json_text.specs.Tree.{Spelt, Unit4}
use Rattle.json_text.specs.Meaning.{IsHigh, meaning_after}
use Rattle.json_strings.specs.Spelling.{spelt_from, scalars_in}
use Rattle.json_text.specs.declared.modes.Mode.TheVariants.{Between}
use Rattle.json_strings.specs.declared.scalars.Spelling.{Spelling}
use Rattle.json_strings.specs.declared.scalars.Meant.{Meant}
use Rattle.json_strings.specs.declared.scalars.Meant.TheVariants.{Scalar, More}

-- the scalar values that these characters give from here on
abbrev pub left : Spelling → List ℕ → List ℕ
left s cs = meaning_after s.high (spelt_from s.mode s.unit cs)

-- what the character c gives, whatever follows it
abbrev pub Reads : Spelling → ℕ → Meant → Type 0
Reads s c (Scalar v) = (cs : List ℕ) → left s (c ∷ cs) ≡ v ∷ scalars_in cs
Reads s c (More t) = ((cs : List ℕ) → left s (c ∷ cs) ≡ left t cs) × IfSome t.high IsHigh

-- what a unit gives behind this high surrogate, or behind none
abbrev pub ReadsUnit : ℕ → Option ℕ → Meant → Type 0
ReadsUnit u high (Scalar v) = (cs : List Spelt) → meaning_after high (Unit4 u ∷ cs) ≡ v ∷ meaning_after None cs
ReadsUnit u high (More t) = ((cs : List ℕ) → meaning_after high (Unit4 u ∷ spelt_from Between 0 cs) ≡ left t cs) × IfSome t.high IsHigh
