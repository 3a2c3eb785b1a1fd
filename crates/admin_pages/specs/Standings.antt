-- What is said at the administration address, and what it answers: this project's own.
use Rattle.std.specs.Prelude.{Bool, ◌&&◌, not, true, false, Some, None, if◌then◌else◌}
use Rattle.std.specs.Option.{is_none}
use Rattle.admin_pages.specs.declared.replies.Reply.{Reply}
use Rattle.admin_pages.specs.declared.replies.Reply.TheVariants as reply
use Rattle.admin_pages.specs.declared.routes.AdminRequest.{AdminRequest}
use Rattle.admin_pages.specs.declared.routes.AdminRequest.TheVariants.{Health, Ready, SayReady, Metrics, Drain}
use Rattle.admin_pages.specs.declared.standing.Standing.{Standing}

abbrev pub at_start : Standing
at_start = record { is_ready = false; is_ending = false; grace = None }

-- ready is a server of which that was said, while it neither drains nor ends
abbrev pub takes_in : Standing → Bool
takes_in s = s.is_ready && (not s.is_ending && is_none s.grace)

abbrev pub reply_to : Standing → AdminRequest → Reply
reply_to s Health = reply.Healthy
reply_to s Ready = if takes_in s then reply.Ready else reply.NotReady
reply_to s SayReady = reply.Noted
reply_to s Metrics = reply.Metrics
reply_to s (Drain seconds) = reply.Draining

abbrev pub after_asked : Standing → AdminRequest → Standing
after_asked s Health = s
after_asked s Ready = s
after_asked s SayReady = record s { is_ready = true }
after_asked s Metrics = s
after_asked s (Drain seconds) = record s { grace = Some seconds }
