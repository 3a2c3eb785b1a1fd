use Rattle.std.proofs.Common.{◌≡◌, ◌++◌, length, take, drop}
use Rattle.path_server.specs.Replays.{reply_lines}
use Rattle.path_server.proofs.replay.write_all.Given as goal

abbrev pub invariant-loop-reply : goal.invariant-loop-reply
invariant-loop-reply l = record {
  same : l.out.items ++ reply_lines (drop l.reply-index l.replies) ≡ l.fn.out.items ++ reply_lines l.replies;
  kept : take (length l.fn.out.items) l.out.items ≡ l.fn.out.items;
}
