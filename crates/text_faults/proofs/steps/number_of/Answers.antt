use Rattle.std.proofs.Common.{◌≡◌, ◌+◌, ◌-◌, arith}
use Rattle.text_faults.proofs.Known.{grown}
use Rattle.text_faults.proofs.steps.number_of.Goals as goal

pub returns-clause-steps : goal.returns-clause-steps
returns-clause-steps c =
    let l : c.len.result ≡ c.args.steps.now.len = c.len.ensures in let o = c.args.steps.now.ok.0 in
    grown c.args.nows.now.items c.args.steps.now.items c.requires c.args.now c.push.new.self.items c.resize.new.self.items (c.len.result + 1024) (c.len.result + 1024 - c.args.steps.now.len)
    c.in_ok-push.ensures.items c.in_ok-resize.ensures.items (omega arith) (omega arith)
