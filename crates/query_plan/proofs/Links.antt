-- The names and indexes that a query begins with, and the segments behind them.
use Rattle.std.proofs.Common.{◌≡◌, ℕ, zero, suc, ◌+◌, false, ◌<◌, ◌≤◌, List, [], ◌∷◌, ◌++◌, map, length, drop, refl, arith}
use Rattle.std.specs.Prelude.{IsTrue}
use Rattle.path_grammar.specs.Tree.{OneSegment, selector, no_selectors}
use Rattle.path_grammar.specs.View.{segments_view, segment_view}
use Rattle.path_grammar.specs.declared.ast.Segment.{Segment}
use Rattle.path_types.specs.Validity.{is_valid, are_valid}
use Rattle.json_text.specs.Nodes.{Node}
use Rattle.path_meaning.specs.Evaluation.{evaluated, selected, from_starts}
use Rattle.path_meaning.specs.Charge.{charge_from}
use Rattle.query_plan.specs.Planned.{path_of, query_of}
use Rattle.path_meaning.specs.Links.{link_selector, link_view, links_view}
use Rattle.path_meaning.specs.declared.links.Link.{Link}
use Rattle.path_meaning.specs.declared.links.Link.TheVariants.{Key, Place}
use Rattle.query_plan.specs.declared.plan.Stage.{Stage}
use Rattle.query_plan.proofs.Makings.{both_true}

-- ---- Made of a query

pub valid_behind : (ss : List Segment) (k : ℕ) → IsTrue (is_valid (segments_view ss)) → IsTrue (is_valid (segments_view (drop k ss)))
valid_behind ss zero h = h
valid_behind [] (suc k) h = h
valid_behind (s ∷ ss) (suc k) h = valid_behind ss k (both_true (are_valid (segment_view s).selectors) (is_valid (segments_view ss)) h).1

pub behind_links : (ls : List Link) (ss : List OneSegment) (segs : List Segment) (k : ℕ) → k ≡ length ls → ss ≡ map segment_view (drop k segs) → map link_view ls ++ map segment_view (drop (length ls) segs) ≡ map segment_view segs
    → map link_view ls ++ ss ≡ map segment_view segs
behind_links ls ss segs k e f g = rw (f, e) g

pub ruleset behind = (behind_links)

-- ---- Of one name or index

pub one_link : (root n : Node) (ls : List Link) → 1 ≤ length ls → length ls < 2 → charge_from root (links_view ls) (n ∷ []) ≡ 1
one_link root n [] h l = absurd (omega arith)
one_link root n (Key name ∷ []) h l = refl
one_link root n (Place i ∷ []) h l = refl
one_link root n (x ∷ y ∷ ls) h l = absurd (omega arith)

-- ---- Followed first

module _ (root : Node) (ss : List Stage) where
  pub through_links : (ls : List Link) (ns : List Node) → evaluated root (path_of ls ss) ns ≡ evaluated root (query_of ss) (evaluated root (links_view ls) ns)
  through_links [] ns = refl
  through_links (l ∷ ls) ns = through_links ls (from_starts false (λ m. selected root (selector (link_selector l) no_selectors) m) ns)

  links_charged : (ls : List Link) (ns : List Node) → charge_from root (path_of ls ss) ns ≡ charge_from root (links_view ls) ns + charge_from root (query_of ss) (evaluated root (links_view ls) ns)
  links_charged [] ns = omega arith
  links_charged (l ∷ ls) ns = let h = links_charged ls (from_starts false (λ m. selected root (selector (link_selector l) no_selectors) m) ns) in omega (arith, h)

  pub links_charged_first : (ls : List Link) (from : Node) (first : List Node) → first ≡ evaluated root (links_view ls) (from ∷ [])
      → charge_from root (path_of ls ss) (from ∷ []) ≡ charge_from root (links_view ls) (from ∷ []) + charge_from root (query_of ss) first
  links_charged_first ls from first e = rw e (links_charged ls (from ∷ []))
