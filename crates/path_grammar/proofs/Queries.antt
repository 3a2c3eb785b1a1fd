-- A query is read exactly where it is spelled, and then its tree is.
use Rattle.std.proofs.Common.{◌≡◌, ◌==◌, List, [], ◌∷◌, ◌++◌, Option, Some, None, refl, ap, subst, ◌∙◌}
use Rattle.std.proofs.lemmas.Bool.{eqb-true}
use Rattle.std.proofs.lemmas.List.{append-nil}
use Rattle.std.specs.Prelude.{chars}
use Rattle.path_grammar.specs.Tree as tree
use Rattle.path_grammar.specs.Tree.{OneSegment, segments_of}
use Rattle.path_grammar.specs.Characters.{Text}
use Rattle.path_grammar.specs.Lists.{Repeated}
use Rattle.path_grammar.specs.Grammar.{Segment, Condition, Spells, query}
use Rattle.path_grammar.specs.Laws.{HaveOneTree}
use Rattle.path_grammar.specs.Reading.{◌>>=◌}
use Rattle.path_grammar.specs.ReadingSegments.{segments_at, next_segment, at_segment}
use Rattle.path_grammar.specs.ReadingFilters.{condition_in, ended, query_at}
use Rattle.path_grammar.proofs.Read.{found, bind_some, guarded}
use Rattle.path_grammar.proofs.ReadSegments.{segments_read}
use Rattle.path_grammar.proofs.ReadArguments.{is_read}
use Rattle.path_grammar.proofs.AgainSegments.{segments_again}
use Rattle.path_grammar.proofs.AgainArguments.{is_read_again}

ended_reads : (ss : List OneSegment) (t : Text) (q : tree.Segments) → ended ss t ≡ Some q → (t ≡ []) × (segments_of ss ≡ q)
unfolding ended
ended_reads ss [] q e = (refl, cc)
ended_reads ss (c ∷ t) q e = absurd cc

spelled : (t front : Text) (ss : List OneSegment) (q : tree.Segments) → t ≡ front ++ [] → Repeated (Segment (Condition 32)) front ss → segments_of ss ≡ q → Spells (0x24 ∷ t) q
spelled t front ss q e r k = rw (e, append-nil front) (subst (λ (x : tree.Segments). Spells (0x24 ∷ front) x) k (query r))

pub query_reads : (t : Text) (q : tree.Segments) → query_at t ≡ Some q → Spells t q
unfolding query_at
query_reads [] q e = absurd cc
query_reads (c ∷ t) q e =
    let g = guarded (c == 0x24) (segments_at (condition_in 32) t >>= λ x. ended x.0 x.1) q e in
    let b = bind_some (segments_at (condition_in 32) t) (λ x. ended x.0 x.1) q g.1 in
    let k = ended_reads (b.0.0) (b.0.1) q b.2 in
    let r = segments_read (condition_in 32) (Condition 32) (is_read 32).condition_reads t (b.0.1) (b.0.0) b.1 in
    let w = eqb-true c 0x24 g.0 in
    rw w (spelled t r.front (b.0.0) q (r.parts ∙ ap (λ (u : Text). r.front ++ u) k.0) r.is k.1)

nothing_next : next_segment [] ≡ None
unfolding next_segment at_segment
nothing_next = refl

whole : (t : Text) (ss : List OneSegment) → segments_at (condition_in 32) (t ++ []) ≡ found ss [] → query_at (0x24 ∷ t) ≡ Some (segments_of ss)
unfolding query_at ended
whole t ss e = let k : segments_at (condition_in 32) t ≡ found ss [] = rw append-nil at e in rw k refl

pub query_again : (t : Text) (q : tree.Segments) → Spells t q → query_at t ≡ Some q
query_again _ _ (query {t} {ss} r) =
    let laws = is_read_again 32 in
    whole t ss (segments_again (condition_in 32) (Condition 32) laws.condition_again laws.condition_starts t [] ss r tt nothing_next)

same_some : {A : Type 0} (o : Option A) (x y : A) → o ≡ Some x → o ≡ Some y → x ≡ y
same_some o x y p q = cc

pub have_one_tree : HaveOneTree
have_one_tree bytes a b p q = same_some (query_at (chars bytes)) a b (query_again (chars bytes) a p.spells) (query_again (chars bytes) b q.spells)
