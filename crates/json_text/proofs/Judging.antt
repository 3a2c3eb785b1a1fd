-- From entries to parts of the tree, and back.
use Rattle.json_text.proofs.Names.{common_steps, nat_tests, ℕ, ◌+◌, ◌<◌, List, ◌++◌, length, length-append, get_or, sym, ap, ◌∙◌, subst, arith, Tree}
use Rattle.json_text.proofs.Names.{Label, Top, tape_of, Stands, IsAt, entry_of, HasPart}
use Rattle.json_text.specs.declared.tape.Entry.{Entry}
use Rattle.json_text.proofs.Snoc.{length-tape}
use Rattle.json_text.proofs.Parts.{part_of_at, placed}
use Rattle.json_text.proofs.Numbers.{Numbered, entry_at, entry_first, part_at, numbered}

pub number_below : (tape : List Entry) (t s : Tree) (n up : ℕ) (label : Label) → Stands tape t → IsAt t 0 Top 0 n up label s → n < length tape
number_below tape t s n up label e h = let p = part_at h in let f = entry_first s up label n in
    let x = ap length (e ∙ p.is) in let y = length-append p.front (tape_of s up label n ++ p.back) in
    let z = length-append (tape_of s up label n) p.back in let w = ap length f.1 in let v = p.number in omega arith

-- the part of the tree with a number below the number of entries
pub part_with : (tape : List Entry) (t : Tree) (i : ℕ) → Stands tape t → i < length tape → Numbered t 0 Top 0 i
part_with tape t i e h = let x = ap length e in let y = length-tape t 0 Top 0 in numbered t 0 Top 0 i (omega arith) (omega arith)

module _ (Bad : Entry → Type 0) (Q : Tree → Type 0) (tape : List Entry) (t : Tree) where
  -- an entry that is bad, where bad entries are those of parts of a kind
  pub part_found : Stands tape t → ((s : Tree) (n up : ℕ) (label : Label) → IsAt t 0 Top 0 n up label s → Bad (entry_of s up label n) → Q s)
      → (i : ℕ) (d : Entry) → i < length tape → Bad (get_or tape i d) → (part : Tree) × HasPart t part × Q part
  part_found e law i d l b = let p = part_with tape t i e l in grind (arith, part_of_at p.is_at, entry_at tape d e p.is_at)

  pub part_none : Stands tape t → ((s : Tree) (n up : ℕ) (label : Label) → IsAt t 0 Top 0 n up label s → Q s → Bad (entry_of s up label n))
      → ((i : ℕ) (d : Entry) → i < length tape → Bad (get_or tape i d) → ⊥) → (part : Tree) × HasPart t part × Q part → ⊥
  part_none e law none (part, h, q) = let p = placed h in let d = entry_of part p.up p.label p.number in
      none p.number d (number_below tape t part p.number p.up p.label e p.is_at) (subst Bad (sym (entry_at tape d e p.is_at)) (law part p.number p.up p.label p.is_at q))

-- of the entries below a number none is bad, nor is that one
pub none_below : (Bad : Entry → Type 0) (tape : List Entry) (n : ℕ) (e : Entry) → n < length tape → ((i : ℕ) (d : Entry) → i < n → Bad (get_or tape i d) → ⊥) → (Bad (get_or tape n e) → ⊥)
    → (i : ℕ) (d : Entry) → i < n + 1 → Bad (get_or tape i d) → ⊥
none_below Bad tape n e h before this i d l b = grind (arith, nat_tests, common_steps)
