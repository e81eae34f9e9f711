use Rattle.std.proofs.Common.{arith}
use Rattle.turn_steps.proofs.Near.{short}
use Rattle.turn_steps.proofs.caches.first_row.Goals as goal

pub first_row_apart-requires-clause-short : goal.first_row_apart-requires-clause-short
first_row_apart-requires-clause-short c =
    let fits = c.args.layout.allowed.apart c.in-Some.apart c.in-Some.is in
    omega (arith, fits.short_piece, short c.args.layout.machine.line_length c.args.layout.allowed.is.line_length)
