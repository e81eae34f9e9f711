use Rattle.gain.proofs.work.gain_waiting.Goals as goal

pub returns-in-None-clause-outcome : goal.returns-in-None-clause-outcome
returns-in-None-clause-outcome g c = rw c.in-None.ensures (rw c.as_slice.ensures at c.do_gain-in-None.ensures.outcome)

pub returns-in-Some-clause-outcome : goal.returns-in-Some-clause-outcome
returns-in-Some-clause-outcome g c = rw c.in-Some.ensures (rw c.in-Some.ensures at c.do_gain.ensures.outcome)
