use Rattle.std.proofs.Common.{List, ℕ, ◌++◌, None, Option, Result, take, drop}
use Rattle.rv32_exec.specs.declared.sequential.End.{End}
use Rattle.homefree.specs.declared.fault.TurnFault.{TurnFault}
use Rattle.homefree.specs.BookView.{IsOfSameLoop}
use Rattle.homefree.specs.Counted.{IsNoMore}
use Rattle.homefree.specs.Driven.{Driven, Driver, driver}
use Rattle.homefree.specs.Held.{HaveArrived, harts_of}
use Rattle.turn_steps.specs.Stepped.{Stepped}
use Rattle.turn_steps.specs.Telling.{IsCurrent}
use Rattle.turn_steps.specs.Writing.{IsWrittenBut}
use Rattle.turn_steps.proofs.stepping.drive_steps.Given as goal

abbrev pub invariant-loop-number : goal.invariant-loop-number
invariant-loop-number g l = record {
  same : IsOfSameLoop l.initial.book l.book;
  held : HaveArrived l.book.image l.held;
  shares : IsNoMore l.shares l.book.totals;
  shown : IsCurrent g.S.EpochStore.view g.S.ShownStore.fits g.S.ShownStore.shows l.shown.store l.shown.memory l.book;
  drives : (result : Result (Option End) TurnFault) (new : Driver g.row.S.Denot)
      → Driven g.S.EpochStore.makes g.S.EpochStore.view g.S.EpochStore.waits (harts_of l.held) (driver l.book l.shares) (drop l.number l.schedule) result new
      → Driven g.S.EpochStore.makes g.S.EpochStore.view g.S.EpochStore.waits (λ _. None) (driver l.initial.book l.initial.shares) l.schedule result new;
  told : (told : List ℕ) × IsWrittenBut l.text.items l.whole (g.W.Write.contents l.initial.writer) (g.W.Write.contents l.writer) told
      × ((rest : List ℕ) (end : Option End) (new : Driver g.row.S.Denot) (below : List ℕ)
      → Stepped g.S.EpochStore.makes g.S.EpochStore.view g.S.EpochStore.waits g.S.ShownStore.changes l.number (harts_of l.held) (driver l.book l.shares) rest end new below
      → Stepped g.S.EpochStore.makes g.S.EpochStore.view g.S.EpochStore.waits g.S.ShownStore.changes 0 (λ _. None) (driver l.initial.book l.initial.shares) (take l.number l.schedule ++ rest) end new (told ++ below));
}
