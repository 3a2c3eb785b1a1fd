-- The law of paths.
use Rattle.std.proofs.Common.{◌≡◌, suc, ◌≤◌, List, [], ◌∷◌, length, refl, ap, arith}
use Rattle.std.proofs.lemmas.List.Elements.{All-from_recursion}
use Rattle.std.specs.List.{AllByRecursion}
use Rattle.json_tape.specs.Tree.{Tree}
use Rattle.json_tape.specs.Nodes.{Node, Step, steps}
use Rattle.tape_select.specs.Evaluation.{root_node, nodes_selected}
use Rattle.json_tape.specs.Verdict.{depth_limit}
use Rattle.tape_select.specs.Charge.{charge}
use Rattle.path_law.specs.Law.{segment_count, LeadsBack, PathsLeadBack}
use Rattle.path_law.proofs.Closed.{all_evaluated}
use Rattle.path_law.proofs.Ways.{query_of, valid}
use Rattle.path_law.proofs.Spelt.{path_is_query}
use Rattle.path_law.proofs.Fine.{IsMeant, IsFine, fine}
use Rattle.path_law.proofs.Charge.{charge_of_steps}
use Rattle.path_law.proofs.Down.{Leads, root_leads, down, few_steps}

segment_for_each : (ss : List Step) → segment_count (query_of ss) ≡ length ss
segment_for_each [] = refl
segment_for_each (s ∷ ss) = ap suc (segment_for_each ss)

leads_back : (t : Tree) → IsFine t → (n : Node) → Leads t n → LeadsBack t n
leads_back t f n l =
    let units : charge t (query_of (steps n)) ≤ length (steps n) = charge_of_steps (root_node t) (steps n) (root_node t ∷ []) (omega arith) in
    let one_each : segment_count (query_of (steps n)) ≡ length (steps n) = segment_for_each (steps n) in
    let few_of_them : length (steps n) ≤ depth_limit = few_steps t f n l in
    record {
      query = query_of (steps n);
      spelled = path_is_query (steps n) l.plain;
      valid = valid (steps n) l.plain;
      few = omega (arith, one_each, few_of_them);
      charged = omega (arith, one_each, units);
      within = omega (arith, units, few_of_them);
      alone = l.gives;
    }

each : {A : Type 0} (P Q : A → Type 0) → ((x : A) → P x → Q x) → (xs : List A) → AllByRecursion P xs → AllByRecursion Q xs
each P Q f [] h = tt
each P Q f (x ∷ xs) h = (f x h.0, each P Q f xs h.1)

pub paths_lead_back : IsMeant → PathsLeadBack
paths_lead_back meant document t q a =
    let f = fine meant document t a in
    let all = all_evaluated (Leads t) (down t f) (root_node t) q (root_node t ∷ []) (root_leads t, tt) in
    All-from_recursion (LeadsBack t) (nodes_selected t q) (each (Leads t) (LeadsBack t) (leads_back t f) (nodes_selected t q) all)
