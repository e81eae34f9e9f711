use Rattle.std.proofs.Common.{None, Option, Result, drop}
use Rattle.rv32_exec.specs.declared.sequential.End.{End}
use Rattle.homefree.specs.declared.fault.TurnFault.{TurnFault}
use Rattle.homefree.specs.BookView.{IsOfSameLoop}
use Rattle.homefree.specs.Counted.{IsNoMore}
use Rattle.homefree.specs.Driven.{Driven, Driver, driver}
use Rattle.homefree.specs.Held.{HaveArrived, harts_of}
use Rattle.homefree.proofs.schedule.drive.Given as goal

abbrev pub invariant-loop-core : goal.invariant-loop-core
invariant-loop-core g l = record {
  same : IsOfSameLoop l.initial.book l.book;
  held : HaveArrived l.book.image l.held;
  shares : IsNoMore l.shares l.book.totals;
  drives : (result : Result (Option End) TurnFault) (new : Driver g.row.S.Denot)
      → Driven g.S.EpochStore.makes g.S.EpochStore.view g.S.EpochStore.waits (harts_of l.held) (driver l.book l.shares) (drop l.core-index l.schedule) result new
      → Driven g.S.EpochStore.makes g.S.EpochStore.view g.S.EpochStore.waits (λ _. None) (driver l.initial.book l.initial.shares) l.schedule result new;
}
