use Rattle.node_lists.proofs.Childless.{cost_none, in_parts, no_elements, select_none}
use Rattle.node_lists.proofs.laws.selectors_pay_in_parts.Goals as goal

pub returns : goal.returns
returns c = record {
  parts = in_parts;
  nothing = λ root ss n e. select_none root n ss e (no_elements n.way_up n.number n.tree e);
  free = λ root ss n e. cost_none root n ss e (no_elements n.way_up n.number n.tree e);
}
