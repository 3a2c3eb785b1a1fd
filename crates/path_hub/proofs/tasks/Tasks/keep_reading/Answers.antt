use Rattle.path_hub.proofs.tasks.Tasks.keep_reading.Goals as goal

pub returns-clause-ok : goal.returns-clause-ok
returns-clause-ok c = (_, c.in_ok-task.ensures.ok, c.in_ok-insert.ensures.updates.0)
