use Rattle.json_text.proofs.Names.{arith}
use Rattle.json_strings.proofs.PlainLanes.{plain_to}
use Rattle.json_strings.proofs.scan.next_byte.Goals as goal

pub returns-in-Between-clause-passed : goal.returns-in-Between-clause-passed
returns-in-Between-clause-passed c = let bytes = c.args.looks.now.0 in let at = c.pass_unstopped.result.at in let run = c.pass_unstopped.ensures in
    let within = run.upper_bound in grind (arith, plain_to bytes c.args.k c.args.k)
