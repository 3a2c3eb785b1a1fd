-- Objects of many members.
use Rattle.json_text.proofs.Names.{◌≡◌, ℕ, ◌≤◌, List, cond, ap, arith, entry_in, IsWide}
use Rattle.json_text.specs.declared.tape.Entry.{Entry}
use Rattle.json_text.specs.declared.tape.Kind.TheVariants as kinds
use Rattle.json_text.specs.Suspects.{narrow}
use Rattle.tape_cells.specs.Cells.{is_object, members_in}

pub object_members : (e : Entry) → e.kind ≡ kinds.Object → members_in e ≡ e.children
object_members e q = ap (λ k. cond (is_object k) e.children 0) q

pub not_wide_by : (tape : List Entry) (n members : ℕ) → members ≡ members_in (entry_in tape n) → members ≤ narrow → IsWide (entry_in tape n) → ⊥
not_wide_by tape n members m l w = let q = object_members (entry_in tape n) w.0 in let h = w.1 in omega arith
