-- The bytes of a number's entry are a number.
use Rattle.json_text.proofs.Names.{ℕ, ◌<◌, List, length, get_or, sym, subst, arith, Tree, IsText, Label, Stands, entry_of, bytes_at, IsBadNumber}
use Rattle.json_walk.proofs.Names.{IsNumber, Entry}
use Rattle.json_text.proofs.Fits.{Fits, text_fits, part_fits}
use Rattle.json_text.proofs.Judging.{part_with}
use Rattle.json_text.proofs.Numbers.{entry_at}

number_of : (text : List ℕ) (s : Tree) (up n : ℕ) (label : Label) → Fits text s → IsBadNumber text (entry_of s up label n) → IsNumber (bytes_at text (entry_of s up label n).source)
number_of text s up n label f b = search arith

-- the bytes of a number's entry are a number
pub number_at : (text : List ℕ) (tape : List Entry) (t : Tree) → IsText text t → Stands tape t → (i : ℕ) (d : Entry) → i < length tape → IsBadNumber text (get_or tape i d) → IsNumber (bytes_at text (get_or tape i d).source)
number_at text tape t h e i d l b = let p = part_with tape t i e l in let q = entry_at tape d e p.is_at in
    subst (λ (x : Entry). IsNumber (bytes_at text x.source)) (sym q) (number_of text p.tree p.up' i p.label' (part_fits p.is_at text (text_fits text t h)) (subst (IsBadNumber text) q b))
