use Rattle.spec_states.proofs.CopyLaws.{own_load-keeps, own_load-filled, own_load-read}
use Rattle.spec_states.proofs.RowLaws.{own_load-takes_hold}
use Rattle.spec_states.proofs.own.after_own_load.Goals as goal

pub returns-clause-hit : goal.returns-clause-hit
returns-clause-hit c =
    rw (c.own_load_row.ensures, c.with_load-after.ensures, c.carried.ensures)
    (own_load-keeps c.args.state c.args.marks c.args.offset c.args.width c.args.alone c.requires.width)

pub returns-clause-miss : goal.returns-clause-miss
returns-clause-miss c =
    rw (c.own_load_row.ensures, c.with_load-after.ensures, c.carried.ensures)
    (own_load-filled c.args.state c.args.marks c.args.offset c.args.width c.args.alone c.requires.width)

pub returns-clause-read : goal.returns-clause-read
returns-clause-read c =
    rw (c.own_load_row.ensures, c.with_load-after.ensures, c.carried.ensures)
    (own_load-read c.args.state c.args.marks c.args.offset c.args.width c.args.alone)

pub returns-clause-takes_hold : goal.returns-clause-takes_hold
returns-clause-takes_hold c =
    rw (c.own_load_row.ensures, c.with_load-after.ensures, c.carried.ensures)
    (own_load-takes_hold c.args.state c.args.marks c.args.offset c.args.width c.args.alone)
