-- What the walk leaves to be looked at, of names that come again.
use Rattle.std.specs.Prelude.{◌≡◌, ◌<◌, ℕ, false, List}
use Rattle.std.specs.List.{Contains}
use Rattle.json_text.specs.Tree.{Members}
use Rattle.json_text.specs.Repeats.{IsObject, repeats, meanings}
use Rattle.json_text.specs.Tape.{entry_in}
use Rattle.json_text.specs.declared.tape.Entry.{Entry}
use Rattle.json_text.specs.declared.tape.Kind.TheVariants as kinds

-- the most members of an object that keeps no order
abbrev pub narrow : ℕ
narrow = 64

abbrev pub IsWide : Entry → Type 0
IsWide e = (e.kind ≡ kinds.Object) × (narrow < e.children)

-- of the objects that are not on the list none is wide, and none has two names that mean the same
pub record AreSuspects (text : List ℕ) (tape : List Entry) (suspects : List ℕ) : Type 0 where
  pub narrow : (n : ℕ) → (Contains suspects n → ⊥) → IsWide (entry_in tape n) → ⊥
  pub apart : (n : ℕ) (ms : Members) → (Contains suspects n → ⊥) → IsObject text tape n ms → repeats (meanings ms) ≡ false
