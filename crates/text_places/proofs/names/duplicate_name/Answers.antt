use Rattle.text_places.proofs.names.duplicate_name.Goals as goal

pub returns-in-None-clause-none : goal.returns-in-None-clause-none
returns-in-None-clause-none c = λ e (t, part, h, p, q). (let none = rw c.in-None.is at c.in_ok-reading.ensures in none t h)
