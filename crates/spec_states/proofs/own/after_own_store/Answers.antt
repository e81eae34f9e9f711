use Rattle.spec_states.proofs.CopyLaws.{own_store-keeps, own_store-filled, own_store-mask, own_store-within_line}
use Rattle.spec_states.proofs.RowLaws.{own_store-takes_hold}
use Rattle.spec_states.proofs.own.after_own_store.Goals as goal

pub returns-clause-hit : goal.returns-clause-hit
returns-clause-hit c =
    rw (c.own_store_row.ensures, c.with_store-after.ensures, c.carried-before.ensures)
    (own_store-keeps c.args.state c.args.marks c.args.offset c.args.width c.args.alone c.requires.width)

pub returns-clause-miss : goal.returns-clause-miss
returns-clause-miss c =
    rw (c.own_store_row.ensures, c.with_store-after.ensures, c.carried-before.ensures)
    (own_store-filled c.args.state c.args.marks c.args.offset c.args.width c.args.alone c.requires.width)

pub returns-clause-mask : goal.returns-clause-mask
returns-clause-mask c =
    rw (c.own_store_row.ensures, c.with_store-after.ensures, c.carried-before.ensures)
    (own_store-mask c.args.state c.args.marks c.args.offset c.args.width c.args.alone)

pub returns-clause-within_line : goal.returns-clause-within_line
returns-clause-within_line c =
    rw (c.own_store_row.ensures, c.with_store-after.ensures, c.carried-before.ensures)
    (own_store-within_line c.args.state c.args.marks c.args.offset c.args.width c.args.alone)

pub returns-clause-takes_hold : goal.returns-clause-takes_hold
returns-clause-takes_hold c =
    rw (c.own_store_row.ensures, c.with_store-after.ensures, c.carried-before.ensures)
    (own_store-takes_hold c.args.state c.args.marks c.args.offset c.args.width c.args.alone c.requires.width)
