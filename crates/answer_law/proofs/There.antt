-- What cannot be missing.
use Rattle.std.proofs.Common.{◌⊎◌, inl, inr}
use Rattle.answer_law.specs.Law.{IsThere}

pub here : {A : Type 0} → A → IsThere A
here a = λ none. none a

pub then' : {A B : Type 0} → IsThere A → (A → IsThere B) → IsThere B
then' a f = λ none. a (λ x. f x none)

pub either_way : (A : Type 0) → IsThere (A ⊎ (A → ⊥))
either_way A = λ none. none (inr (λ a. none (inl a)))
