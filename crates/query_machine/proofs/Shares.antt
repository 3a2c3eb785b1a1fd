-- An evaluation in shares, from its beginning to its end.
use Rattle.std.proofs.Common.{◌≡◌, ℕ, ◌+◌, ◌<◌, ◌≤◌, List, [], ◌∷◌, refl, sym, ap, ◌∙◌, subst, arith, Option, Some, None, Result, Ok, Err}
use Rattle.json_tape.specs.Document.{Doc, IsDocument, node_at, tree_of, count}
use Rattle.json_tape.specs.Grammar.{IsText}
use Rattle.json_tape.specs.Tape.{Top, tape_of}
use Rattle.json_tape.specs.Tree.{Tree}
use Rattle.json_tape.specs.Verdict.{IsAccepted}
use Rattle.node_lists.specs.Charge.{charge_from}
use Rattle.query_machine.specs.Evaluators.{Ends, Yields, IsWithin, IsWithinText, left_on, selected_from}
use Rattle.query_machine.specs.Levels.{IsOnWay, left_in}
use Rattle.query_machine.specs.declared.levels.Machine.{Machine}
use Rattle.node_lists.specs.Evaluation.{evaluated}
use Rattle.node_lists.specs.Nodelists.{nodes_of}
use Rattle.query_plan.specs.Planned.{query_of}
use Rattle.query_plan.specs.declared.plan.Parts.{Parts}
use Rattle.std.specs.Prelude.{◌^◌, true, IfSome, MatchResult}
use Rattle.std.specs.Option.{is_none}
use Rattle.node_lists.specs.Paying.{Holds, Refuses}
use Rattle.node_lists.specs.declared.fault.SelectFault.{SelectFault}
use Rattle.json_tape.specs.Nodes.{Node}
use Rattle.tape_select.specs.declared.selecting.Selected.{Selected}
use Rattle.query_machine.proofs.Above.{spent_is_charged}

pub nodes_found : (d : Doc) (plan : Parts) (units share : ℕ) (root : Node) (some : Option Selected) (before after : Option Machine) → node_at d 0 ≡ root → Yields d plan units share some before after
    → IfSome some (λ s. nodes_of d s.nodes.items ≡ evaluated root (query_of plan.stages.items) (root ∷ []))
nodes_found d plan units share root None before after e h = tt
nodes_found d plan units share root (Some s) before after e h = rw (← e) h.nodes.same

-- ---- A document with the same text

abbrev pub OneTree : Type 0
OneTree = (text : List ℕ) (s t : Tree) → IsText text s → IsText text t → s ≡ t

-- a text has one document
one_document : OneTree → (d e : Doc) → IsDocument d → IsDocument e → e.text ≡ d.text → e ≡ d
one_document one d e a b h =
    let tree : tree_of e ≡ tree_of d = one e.text (tree_of e) (tree_of d) b.accepted.0 (subst (λ x. IsText x (tree_of d)) (sym h) a.accepted.0) in
    let entries : e.entries ≡ d.entries = b.tape ∙ ap (λ t. tape_of t 0 Top 0) tree ∙ sym a.tape in
    λ i. record { text = h i; entries = entries i }

pub within_here : OneTree → (d : Doc) (plan : Parts) (units : ℕ) (o : Option Machine) → IsDocument d → IsWithinText d.text plan units o → IsWithin d plan units o
within_here one d plan units None a h = tt
within_here one d plan units (Some w) a h = subst (λ e. IsOnWay e plan units (selected_from e plan) w × (left_in w ≤ units)) (one_document one d h.0 a h.1 h.2) (h.3, h.4)

pub within_text : (d : Doc) (plan : Parts) (units : ℕ) (o : Option Machine) → IsDocument d → IsWithin d plan units o → IsWithinText d.text plan units o
within_text d plan units None a h = tt
within_text d plan units (Some w) a h = (d, a, refl, h.0, h.1)

pub within_after : (d : Doc) (plan : Parts) (units share : ℕ) (some : Option Selected) (before after : Option Machine) → Yields d plan units share some before after → IsWithin d plan units after
within_after d plan units share None before after h = h.0
within_after d plan units share (Some s) before after h = rw h.rest tt

-- what is spent is charged
pub charged : (d : Doc) (plan : Parts) (units : ℕ) (root : Node) (o : Option Machine) → node_at d 0 ≡ root → IsWithin d plan units o
    → units ≤ left_on units o + charge_from root (query_of plan.stages.items) (root ∷ [])
charged d plan units root None e h = omega arith
charged d plan units root (Some w) e h = rw e at (spent_is_charged d plan units (selected_from d plan) w.below.items w.origin w.track (left_in w) h.0.stack)

pub document_is : (d : Doc) → IsAccepted d.text (tree_of d) → d.entries ≡ tape_of (tree_of d) 0 Top 0 → count d < 2 ^ 31 → IsDocument d
unfolding count
document_is d a t s = record { accepted = a; tape = t; small = s }

-- ---- A document at once

pub ends_whole : (d : Doc) (plan : Parts) (units : ℕ) (root : Node) (r : Result Selected SelectFault) → node_at d 0 ≡ root
    → MatchResult r (λ s. Holds d s.nodes.items (evaluated root (query_of plan.stages.items) (root ∷ [])) × ((s.charge ≡ charge_from root (query_of plan.stages.items) (root ∷ [])) × (s.charge ≤ units)))
    (λ e. Refuses (charge_from root (query_of plan.stages.items) (root ∷ [])) units e)
    → MatchResult r (λ s. Ends d plan units s None) (λ e. Refuses (charge_from (node_at d 0) (query_of plan.stages.items) (node_at d 0 ∷ [])) units e)
ends_whole d plan units root (Ok s) e h = record { nodes = rw e h.0; charge = rw e h.1.0; within = h.1.1; rest = refl }
ends_whole d plan units root (Err f) e h = rw e h

-- all units are left where nothing is under way
pub left_all : (units : ℕ) (o : Option Machine) → is_none o ≡ true → left_on units o ≡ units
left_all units None h = refl
left_all units (Some m) h = absurd cc
