use Rattle.depends.proofs.work.do_asked.Goals as goal

pub returns-in-None-clause-outcome : goal.returns-in-None-clause-outcome
returns-in-None-clause-outcome g c =
    let both = rw c.as_slice.ensures at c.do_depends.ensures.outcome in
    let asked = rw c.new-cores.ensures at both in
    rw c.in-None.ensures asked

pub returns-in-Some-clause-outcome : goal.returns-in-Some-clause-outcome
returns-in-Some-clause-outcome g c =
    let asked = rw c.new-cores.ensures at c.do_depends-in-Some.ensures.outcome in
    rw c.in-Some.ensures (rw c.in-Some.ensures at asked)
