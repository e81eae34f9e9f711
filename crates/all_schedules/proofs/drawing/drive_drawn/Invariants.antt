use Rattle.std.proofs.Common.{◌≡◌, ◌≤◌, ◌<◌, ℕ, List, ◌++◌, None, Option, Result}
use Rattle.rv32_exec.specs.declared.sequential.End.{End}
use Rattle.homefree.specs.declared.fault.TurnFault.{TurnFault}
use Rattle.homefree.specs.BookView.{IsOfSameLoop}
use Rattle.homefree.specs.Counted.{IsNoMore}
use Rattle.homefree.specs.Driven.{Driven, Driver, driver}
use Rattle.homefree.specs.Held.{HaveArrived, harts_of}
use Rattle.all_schedules.specs.Drawn.{IsOpen, drawn, most_turns, state_after}
use Rattle.all_schedules.proofs.drawing.drive_drawn.Given as goal

abbrev pub invariant-loop-taken : goal.invariant-loop-taken
invariant-loop-taken g l = record {
  same : IsOfSameLoop l.initial.book l.book;
  held : HaveArrived l.book.image l.held;
  shares : IsNoMore l.shares l.book.totals;
  state : l.generator ≡ state_after l.seed l._taken;
  is_drawn : l.schedule.items ≡ drawn l.on.cores l.seed l._taken;
  few : l._taken ≤ most_turns;
  goes_on : (m : ℕ) → m < l._taken → IsOpen g.S.EpochStore.makes g.S.EpochStore.view g.S.EpochStore.waits l.on.cores l.seed (driver l.initial.book l.initial.shares) m;
  stopped : l.book.stopped ≡ l.initial.book.stopped;
  drives : (rest : List ℕ) (result : Result (Option End) TurnFault) (new : Driver g.row.S.Denot)
      → Driven g.S.EpochStore.makes g.S.EpochStore.view g.S.EpochStore.waits (harts_of l.held) (driver l.book l.shares) rest result new
      → Driven g.S.EpochStore.makes g.S.EpochStore.view g.S.EpochStore.waits (λ _. None) (driver l.initial.book l.initial.shares) (l.schedule.items ++ rest) result new;
}
