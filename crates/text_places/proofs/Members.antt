-- What the entry of a member shows of its name.
use Rattle.json_text.proofs.Names.{◌≡◌, ℕ, ◌<◌, arith, cases_lt, List, length, get_or, refl, sym, ap, ◌∙◌, subst, inl, inr, Source, Spelt, Tree, IsText, IsString, Label, Top, Index, Named, extent, Stands, IsAt, entry_of}
use Rattle.json_text.specs.declared.tape.Entry.{Entry}
use Rattle.json_text.specs.declared.tape.Role.TheVariants as roles
use Rattle.json_text.proofs.Entries.{role_is, label_is, up_is}
use Rattle.json_text.proofs.Fits.{Lies, text_fits, part_fits}
use Rattle.json_text.proofs.Judging.{part_with}
use Rattle.json_text.proofs.Numbers.{entry_at}
use Rattle.json_strings.specs.Spelling.{IsQuoted}
use Rattle.json_strings.proofs.Spelled.{quoted_at}
use Rattle.json_tape.proofs.Holders.{holder, name_fits}
use Rattle.text_places.proofs.Levels.{up_below, up_first}

pub record Shown (text : List ℕ) (t : Tree) (n : ℕ) (e : Entry) : Type 0 where
  pub source : Source
  pub characters : List Spelt
  pub lies : Lies text source
  pub string : IsString source.bytes characters
  pub label : e.label ≡ extent source
  pub part : Tree
  pub is_at : IsAt t 0 Top 0 n e.up (Named (extent source)) part

module _ (text : List ℕ) (t : Tree) (h : IsText text t) (n : ℕ) (e : Entry) (r : e.role ≡ roles.Member) where
  shown_at : (up : ℕ) (la : Label) (part : Tree) → IsAt t 0 Top 0 n up la part → e ≡ entry_of part up la n → Shown text t n e
  shown_at up Top part at f = absurd (let k = role_is part up Top n in let g = ap (λ (x : Entry). x.role) f in cc)
  shown_at up (Index i) part at f = absurd (let k = role_is part up (Index i) n in let g = ap (λ (x : Entry). x.role) f in cc)
  shown_at up (Named y) part at f = elim (holder at y refl) [
    | inl b ↦ absurd (cc)
    | inr held ↦
        let fit = name_fits held.has text (part_fits held.is_at text (text_fits text t h)).1 in let u : e.up ≡ up = ap (λ (x : Entry). x.up) f ∙ up_is part up (Named y) n in record {
          source = held.name.source;
          characters = held.name.characters;
          lies = fit.0;
          string = fit.1;
          label = ap (λ (x : Entry). x.label) f ∙ label_is part up (Named y) n ∙ held.is;
          part = part;
          is_at = subst (λ k. IsAt t 0 Top 0 n k (Named (extent held.name.source)) part) (sym u) (subst (λ z. IsAt t 0 Top 0 n up (Named z) part) held.is at);
        }
  ]

pub shown : (text : List ℕ) (tape : List Entry) (t : Tree) → IsText text t → Stands tape t → (n : ℕ) (e : Entry) → n < length tape → e ≡ get_or tape n e → e.role ≡ roles.Member → Shown text t n e
shown text tape t h s n e l q r = let x = part_with tape t n s l in shown_at text t h n e r x.up' x.label' x.tree x.is_at (q ∙ entry_at tape e s x.is_at)

pub quoted : (text : List ℕ) (tape : List Entry) (t : Tree) → IsText text t → Stands tape t → (n : ℕ) (e : Entry) → n < length tape → e ≡ get_or tape n e → e.role ≡ roles.Member → IsQuoted text e.label
quoted text tape t h s n e l q r = let x = shown text tape t h s n e l q r in quoted_at text text e.label x.source x.characters refl x.label x.lies x.string

-- the object that a member lies in has a lower number
pub up_inside : (text : List ℕ) (tape : List Entry) (t : Tree) → IsText text t → Stands tape t → (n : ℕ) (e : Entry) → n < length tape → e ≡ get_or tape n e → e.role ≡ roles.Member → e.up < length tape
up_inside text tape t h s n e l q r = let x = shown text tape t h s n e l q r in elim (cases_lt 0 n) [
  | inl p ↦ (let b = up_below x.is_at p in omega arith)
  | inr p ↦ (let z : n ≡ 0 = omega arith in let u = up_first (subst (λ k. IsAt t 0 Top 0 k e.up (Named (extent x.source)) x.part) z x.is_at) in omega arith)
]
