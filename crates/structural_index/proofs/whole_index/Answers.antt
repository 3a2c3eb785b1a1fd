use Rattle.std.proofs.Common.{rules}
use Rattle.structural_index.proofs.Below.{control_whole}
use Rattle.structural_index.proofs.whole_index.Goals as goal

pub returns-clause-index : goal.returns-clause-index
returns-clause-index c =
    let whole = c.in_ok-places.ensures in
    record {
      places_are = whole.all_places;
      unclosed_is = search (rules, whole);
      control_is = control_whole c.args.text.now _ whole.control;
      wrong_is = whole.all_wrong;
      lone_is = whole.all_lone;
    }
