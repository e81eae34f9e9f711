use Rattle.std.proofs.Common.{arith}
use Rattle.spec_history.specs.declared.entry.What.TheVariants.{Commit}
use Rattle.even_speed.specs.Seats.{seat_at}
use Rattle.even_speed.proofs.Seated.{by_more, notes_end, notes_more}
use Rattle.even_speed.proofs.seats.note_all.Goals as goal

pub loop-entry-preserved : goal.loop-entry-preserved
loop-entry-preserved c = record {
  by = (by_more c.args.entries.now c.loop-entry.entry-index (record { by = 0; what = Commit }) c.loop-entry-test.true c.loop-entry.invariant.by).1;
  rest = notes_more (seat_at c.args.seats.now) c.args.entries.now c.loop-entry.entry-index _ (seat_at c.loop-entry.seats) (seat_at c.note.new.seats) c.loop-entry-test.true c.note.ensures
      c.loop-entry.invariant.rest;
}

pub returns : goal.returns
returns c =
    notes_end (seat_at c.loop-entry.seats) (seat_at c.args.seats.now) c.args.entries.now c.loop-entry.entry-index (omega (arith, c.loop-entry-test.false)) c.loop-entry.invariant.rest
