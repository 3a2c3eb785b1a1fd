-- Which texts a cache holds, and how that list changes: this project's own rule. It is ordered by use, the most recently used first.
use Rattle.std.specs.Prelude.{◌≡◌, ℕ, ◌-◌, ◌≤◌, List, [], ◌∷◌, length, take, Bool, true, false, nat_eq, if◌then◌else◌}
use Rattle.std.specs.List.{list_any}
use Rattle.std.specs.Cmp.Lexicographic.{pointwise}

-- the texts, and how many there may be
pub record Held : Type 0 where
  pub texts : List (List ℕ)
  pub capacity : ℕ

-- the list is never longer than the capacity
abbrev pub IsWithin : Held → Type 0
IsWithin held = length held.texts ≤ held.capacity

-- equal bytes
abbrev pub same : List ℕ → List ℕ → Bool
same = pointwise nat_eq

abbrev pub is_held : List ℕ → List (List ℕ) → Bool
is_held text texts = list_any (same text) texts

abbrev pub without : List ℕ → List (List ℕ) → List (List ℕ)
without text [] = []
without text (t ∷ texts) = if same text t then texts else t ∷ without text texts

-- the text comes to the front; a new one drops the last of a full list
abbrev pub after_use : List ℕ → (capacity : ℕ) → List (List ℕ) → List (List ℕ)
after_use text capacity texts = if is_held text texts then text ∷ without text texts else text ∷ take (capacity - 1) texts

-- What an accepted look-up leaves. Only a text that was not held may find no room, and then the list stays.
abbrev pub Admits : List ℕ → (cached : Bool) → Held → Held → Type 0
Admits text true old new = new ≡ record { texts = after_use text old.capacity old.texts; capacity = old.capacity }
Admits text false old new = (is_held text old.texts ≡ false) × (new ≡ old)
