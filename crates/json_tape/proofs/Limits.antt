-- Numbers beyond the limits, in the entries and in the tree.
use Rattle.json_text.proofs.Names.{ℕ, ◌<◌, List, length, get_or, arith, Tree, IsText, Label, Stands, entry_of, IsBadNumber, HasPart}
use Rattle.decimal_order.specs.Limits.{IsWithinLimits}
use Rattle.json_text.specs.Verdict.{BreaksLimit}
use Rattle.json_text.specs.declared.tape.Entry.{Entry}
use Rattle.json_text.proofs.Fits.{Fits, text_fits, part_fits}
use Rattle.json_text.proofs.Judging.{part_found, part_none}

module _ (text : List ℕ) where
  bad_part : (s : Tree) (up n : ℕ) (label : Label) → Fits text s → IsBadNumber text (entry_of s up label n) → BreaksLimit s
  bad_part s up n label f b = search arith

  part_bad : (s : Tree) (up n : ℕ) (label : Label) → Fits text s → BreaksLimit s → IsBadNumber text (entry_of s up label n)
  part_bad s up n label f b = search arith

-- some part of the tree breaks the limit
abbrev pub HasBadNumber : Tree → Type 0
HasBadNumber t = (part : Tree) × HasPart t part × BreaksLimit part

pub bad_found : (text : List ℕ) (tape : List Entry) (t : Tree) → IsText text t → Stands tape t → (i : ℕ) (d : Entry) → i < length tape → IsBadNumber text (get_or tape i d) → HasBadNumber t
bad_found text tape t h e i d l b =
    part_found (IsBadNumber text) BreaksLimit tape t e (λ s n up label g x. bad_part text s up n label (part_fits g text (text_fits text t h)) x) i d l b

pub bad_none : (text : List ℕ) (tape : List Entry) (t : Tree) → IsText text t → Stands tape t → ((i : ℕ) (d : Entry) → i < length tape → IsBadNumber text (get_or tape i d) → ⊥) → HasBadNumber t → ⊥
bad_none text tape t h e n b =
    part_none (IsBadNumber text) BreaksLimit tape t e (λ s m up label g x. part_bad text s up m label (part_fits g text (text_fits text t h)) x) n b

-- the limits can be judged, so a number that does not break them keeps them
pub within_unless : (bs : List ℕ) → ((IsWithinLimits bs → ⊥) → ⊥) → IsWithinLimits bs
within_unless bs f = grind arith
