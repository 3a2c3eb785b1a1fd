use Rattle.std.proofs.Common.{◌≡◌, sym, ap, ◌∙◌, refl, inl, inr}
use Rattle.wire_frames.specs.declared.framing.Next.TheVariants as next
use Rattle.wire_frames.specs.Frames.{Front, Whole, Wait, Fault, front}
use Rattle.wire_frames.specs.NextFrame.{next_at, lent_as}
use Rattle.path_hub.proofs.Loop.{pending_idle}
use Rattle.path_hub.proofs.step.is_due.Goals as goal

waits_at : (x : Front) → next.Wait ≡ next_at x → x ≡ Wait
waits_at (Whole b m) e = absurd cc
waits_at Wait e = refl
waits_at Fault e = absurd cc

pub returns-then-is_closed-clause-none : goal.returns-then-is_closed-clause-none
returns-then-is_closed-clause-none c = λ e. pending_idle c.splits_from_the_front.ensures c.args.framer.now (inl (sym c.is_closed.ensures ∙ c.if-is_closed.true))

pub returns-in-Wait-clause-none : goal.returns-in-Wait-clause-none
returns-in-Wait-clause-none c = λ e. pending_idle c.splits_from_the_front.ensures c.args.framer.now (inr (waits_at (front c.args.framer.now.waiting) (ap lent_as (sym c.in-Wait.is) ∙ c.front.ensures)))
