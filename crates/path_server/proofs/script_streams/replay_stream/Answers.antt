use Rattle.std.proofs.KnownBytes.{Keeps-refl}
use Rattle.path_server.proofs.WholeScripts.{script_refused, script_replayed, script_broken}
use Rattle.path_server.proofs.script_streams.replay_stream.Goals as goal

pub returns-in-Err-replay_script-clause-failed : goal.returns-in-Err-replay_script-clause-failed
returns-in-Err-replay_script-clause-failed g c =
    let refused = rw c.as_slice.ensures.value at c.in-Err-replay_script.ensures.refused in
    (script_refused c.args.keys.now c.in-Ok.script.items _ c.in-Err-replay_script.fault c.in-Ok.ensures.read refused, Keeps-refl _)

pub returns-in-Ok-write_whole-clause-answered : goal.returns-in-Ok-write_whole-clause-answered
returns-in-Ok-write_whole-clause-answered g c =
    let answered = rw (c.as_slice.ensures.value, c.new-lines.ensures.items) at c.in_default.ensures.answered in
    let written = rw c.as_slice-2.ensures.value at c.in-Ok-write_whole.ensures.written in
    script_replayed c.args.keys.now c.in-Ok.script.items _ _ _ _ c.in-Ok.ensures.read answered written

pub returns-clause-failed : goal.returns-clause-failed
returns-clause-failed g c =
    let answered = rw (c.as_slice.ensures.value, c.new-lines.ensures.items) at c.in_default.ensures.answered in
    let broken = rw c.as_slice-2.ensures.value at c.in-Err-write_whole.ensures.short in
    script_broken c.args.keys.now c.in-Ok.script.items _ _ _ _ c.in-Ok.ensures.read answered broken
