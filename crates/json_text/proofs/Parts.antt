-- The parts of a tree are what its numbers stand for.
use Rattle.json_text.proofs.Names.{ℕ, ◌+◌, Tree, Elements, Members, IsElementOf, first_element, later_element, IsValueOf, first_value, later_value}
use Rattle.json_text.proofs.Names.{HasPart, element, value, size, Label, Top, IsAt, itself, in_array, in_object, IsInElements, in_element}
use Rattle.json_text.proofs.Names.{in_later_element, IsInMembers, in_member, in_later_member}
use Rattle.json_text.specs.Parts as parts
use Rattle.json_text.proofs.Numbers.{at_trans}

mutual
  part_of : {whole t s : Tree} {up k n up' : ℕ} {label label' : Label} → IsAt t up label k n up' label' s → HasPart whole t → HasPart whole s
  part_of itself h = h
  part_of (in_array i) h = part_of_elements i (λ u e. element h e)
  part_of (in_object i) h = part_of_members i (λ u e. value h e)

  part_of_elements : {whole s : Tree} {es : Elements} {up i k n up' : ℕ} {label' : Label} → IsInElements es up i k n up' label' s → ((u : Tree) → IsElementOf es u → HasPart whole u) → HasPart whole s
  part_of_elements (in_element {a = a} i) f = part_of i (f a first_element)
  part_of_elements (in_later_element i) f = part_of_elements i (λ u e. f u (later_element e))

  part_of_members : {whole s : Tree} {ms : Members} {up k n up' : ℕ} {label' : Label} → IsInMembers ms up k n up' label' s → ((u : Tree) → IsValueOf ms u → HasPart whole u) → HasPart whole s
  part_of_members (in_member {a = a} i) f = part_of i (f a first_value)
  part_of_members (in_later_member i) f = part_of_members i (λ u e. f u (later_value e))

-- what stands at a number is a part
pub part_of_at : {t s : Tree} {n up : ℕ} {label : Label} → IsAt t 0 Top 0 n up label s → HasPart t s
part_of_at h = part_of h parts.itself

-- a part stands at some number
pub record PlacedBy (At : ℕ → ℕ → Label → Type 0) : Type 0 where
  pub number : ℕ
  pub up : ℕ
  pub label : Label
  pub is_at : At number up label

through : (At Bt : ℕ → ℕ → Label → Type 0) → ((number up : ℕ) (label : Label) → At number up label → Bt number up label) → PlacedBy At → PlacedBy Bt
through At Bt f r = record { number = r.number; up = r.up; label = r.label; is_at = f r.number r.up r.label r.is_at }

abbrev pub Placed : (t s : Tree) → Type 0
Placed t s = PlacedBy (λ n up label. IsAt t 0 Top 0 n up label s)

placed_element : {es : Elements} {s : Tree} → IsElementOf es s → (up i k : ℕ) → PlacedBy (λ n up' label. IsInElements es up i k n up' label s)
placed_element first_element up i k = record { number = _; up = _; label = _; is_at = in_element itself }
placed_element (later_element {a = a} h) up i k = through _ _ (λ n u l i. in_later_element i) (placed_element h up (i + 1) (k + size a))

placed_value : {ms : Members} {s : Tree} → IsValueOf ms s → (up k : ℕ) → PlacedBy (λ n up' label. IsInMembers ms up k n up' label s)
placed_value first_value up k = record { number = _; up = _; label = _; is_at = in_member itself }
placed_value (later_value {a = a} h) up k = through _ _ (λ n u l i. in_later_member i) (placed_value h up (k + size a))

pub placed : {t s : Tree} → HasPart t s → Placed t s
placed parts.itself = record { number = 0; up = 0; label = Top; is_at = itself }
placed (element h e) = let p = placed h in through _ _ (λ n u l i. at_trans p.is_at (in_array i)) (placed_element e p.number 0 (p.number + 1))
placed (value h e) = let p = placed h in through _ _ (λ n u l i. at_trans p.is_at (in_object i)) (placed_value e p.number (p.number + 1))
