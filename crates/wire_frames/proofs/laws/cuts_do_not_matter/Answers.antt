use Rattle.std.proofs.Common.{◌∙◌, sym, ap}
use Rattle.wire_frames.specs.Frames.{frames}
use Rattle.wire_frames.proofs.Cutting.{taken_frames, taken_all}
use Rattle.wire_frames.proofs.laws.cuts_do_not_matter.Goals as goal

pub returns-clause-same : goal.returns-clause-same
returns-clause-same c = λ steps others e h k. taken_all steps h ∙ ap frames e ∙ sym (taken_all others k)

pub returns-clause-first : goal.returns-clause-first
returns-clause-first c = taken_frames
