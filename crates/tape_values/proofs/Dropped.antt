-- What stands at a place of a list of nodes, by those from there on.
use Rattle.std.proofs.Common.{◌≡◌, ℕ, zero, suc, ◌-◌, ◌<◌, List, [], ◌∷◌, drop, Option, Some, None, refl, arith}
use Rattle.json_tape.specs.Nodes.{Node}
use Rattle.json_tape.specs.Document.{Doc, node_at, following, single}
use Rattle.json_text.specs.declared.tape.NodeId.{NodeId}
use Rattle.tape_values.specs.Selection.{nth}

pub nth_of : (d : Doc) (r : Option NodeId) (i : ℕ) (ns : List Node) → following d r ≡ drop i ns → single d r ≡ nth i ns
nth_of d None i [] e = refl
nth_of d None zero (n ∷ ns) e = absurd (cc)
nth_of d None (suc i) (n ∷ ns) e = nth_of d None i ns e
nth_of d (Some p) zero [] e = absurd (cc)
nth_of d (Some p) (suc i) [] e = absurd (cc)
nth_of d (Some p) zero (n ∷ ns) e = let h : node_at d p.0 ≡ n = cc in rw h refl
nth_of d (Some p) (suc i) (n ∷ ns) e = nth_of d (Some p) i ns e

pub drop_none : (j : ℕ) → ◌≡◌ {A = List Node} (drop j []) []
drop_none zero = refl
drop_none (suc j) = refl

pub drop_more : (j : ℕ) (n : Node) (ns : List Node) → 0 < j → drop j (n ∷ ns) ≡ drop (j - 1) ns
drop_more zero n ns h = absurd (omega (arith, h))
drop_more (suc j) n ns h = let e : suc j - 1 ≡ j = omega arith in rw e refl

pub ruleset skipping = (drop_none, drop_more)

pub ruleset firsts = (nth_of)
