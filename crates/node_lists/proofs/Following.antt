-- Singular queries, link by link.
use Rattle.std.proofs.Common.{◌≡◌, ℕ, ◌+◌, ◌<◌, ◌≤◌, false, List, [], ◌∷◌, ◌++◌, length, get_or, drop, refl, sym, ap, ◌∙◌, arith}
use Rattle.std.proofs.lemmas.List.{drop_more, drop_all}
use Rattle.path_grammar.specs.Tree.{Segments, no_segments, segment, selector, no_selectors}
use Rattle.json_tape.specs.Nodes.{Node}
use Rattle.node_lists.specs.Evaluation.{evaluated, selected_by}
use Rattle.node_lists.specs.Charge.{charge_from, charge_by}
use Rattle.node_lists.specs.Links.{link_selector, links_view}
use Rattle.path_meaning.specs.declared.links.Link.{Link}
use Rattle.path_meaning.specs.declared.links.Link.TheVariants.{Key, Place}
use Rattle.node_lists.specs.Paying.{Refuses}
use Rattle.node_lists.specs.declared.fault.SelectFault.{SelectFault}
use Rattle.node_lists.specs.declared.fault.SelectFault.TheVariants.{Costly, Memory}
use Rattle.node_lists.proofs.Adding.{append_nil}

-- no nodes give no nodes, for nothing
pub nothing_from_nothing : (root : Node) (q : Segments) → evaluated root q [] ≡ []
nothing_from_nothing root no_segments = refl
nothing_from_nothing root (segment descend ss others) = nothing_from_nothing root others

pub nothing_for_nothing : (root : Node) (q : Segments) → charge_from root q [] ≡ 0
nothing_for_nothing root no_segments = refl
nothing_for_nothing root (segment descend ss others) = let h = nothing_for_nothing root others in omega (arith, h)

module _ (root n : Node) where
  one_more : (l : Link) (others : Segments) (found : List Node) → found ≡ selected_by root (link_selector l) n
      → evaluated root (segment false (selector (link_selector l) no_selectors) others) (n ∷ []) ≡ evaluated root others found
  one_more l others found e =
      ap (λ ns. evaluated root others ns) (append_nil ((selected_by root (link_selector l) n ++ []) ++ []) ∙ append_nil (selected_by root (link_selector l) n ++ []) ∙ append_nil (selected_by root (link_selector l) n) ∙ sym e)

  pub one_unit : (l : Link) → charge_by root (link_selector l) n ≡ 1
  one_unit (Key name) = refl
  one_unit (Place i) = refl

  one_charged : (l : Link) (others : Segments) (found : List Node) → found ≡ selected_by root (link_selector l) n
      → charge_from root (segment false (selector (link_selector l) no_selectors) others) (n ∷ []) ≡ 1 + charge_from root others found
  one_charged l others found e =
      let rest : charge_from root others (((selected_by root (link_selector l) n ++ []) ++ []) ++ []) ≡ charge_from root others found =
      ap (λ ns. charge_from root others ns) (append_nil ((selected_by root (link_selector l) n ++ []) ++ []) ∙ append_nil (selected_by root (link_selector l) n ++ []) ∙ append_nil (selected_by root (link_selector l) n) ∙ sym e) in
      let unit = one_unit l in
      omega (arith, rest, unit)

  pub link_more : (found : List Node) (ls : List Link) (i : ℕ) (item : Link) → i < length ls → item ≡ get_or ls i item → found ≡ selected_by root (link_selector item) n
      → evaluated root (links_view (drop i ls)) (n ∷ []) ≡ evaluated root (links_view (drop (i + 1) ls)) found
  link_more found ls i item lt e f =
      ap (λ (xs : List Link). evaluated root (links_view xs) (n ∷ [])) (drop_more ls i item lt) ∙ rw (← e) (one_more item (links_view (drop (i + 1) ls)) found f)

  pub link_charged : (found : List Node) (ls : List Link) (i : ℕ) (item : Link) → i < length ls → item ≡ get_or ls i item → found ≡ selected_by root (link_selector item) n
      → charge_from root (links_view (drop i ls)) (n ∷ []) ≡ 1 + charge_from root (links_view (drop (i + 1) ls)) found
  link_charged found ls i item lt e f =
      ap (λ (xs : List Link). charge_from root (links_view xs) (n ∷ [])) (drop_more ls i item lt) ∙ rw (← e) (one_charged item (links_view (drop (i + 1) ls)) found f)

  pub link_end : (ls : List Link) (i : ℕ) → length ls ≤ i → evaluated root (links_view (drop i ls)) (n ∷ []) ≡ n ∷ []
  link_end ls i h = ap (λ (xs : List Link). evaluated root (links_view xs) (n ∷ [])) (drop_all i ls h)

  pub link_free : (ls : List Link) (i : ℕ) → length ls ≤ i → charge_from root (links_view (drop i ls)) (n ∷ []) ≡ 0
  link_free ls i h = ap (λ (xs : List Link). charge_from root (links_view xs) (n ∷ [])) (drop_all i ls h)

pub refuses_from : (c1 left1 c2 left2 : ℕ) (e : SelectFault) → (left1 < c1 → left2 < c2) → Refuses c1 left1 e → Refuses c2 left2 e
refuses_from c1 left1 c2 left2 Costly f h = f h
refuses_from c1 left1 c2 left2 Memory f h = tt
