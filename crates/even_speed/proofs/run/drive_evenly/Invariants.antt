use Rattle.std.proofs.Common.{◌≡◌, ◌≤◌, ℕ, List, [], ◌++◌, length, true, is_none, Option, Some, Result}
use Rattle.spec_history.specs.FlatState.{FlatState}
use Rattle.spec_history.specs.Replay.{replay}
use Rattle.homefree.specs.declared.fault.TurnFault.{TurnFault}
use Rattle.homefree.specs.BookView.{IsOfSameLoop}
use Rattle.homefree.specs.Counted.{IsNoMore}
use Rattle.homefree.specs.Driven.{Driver, driver}
use Rattle.homefree.specs.Held.{HaveArrived, harts_of}
use Rattle.homefree.specs.Room.{most_room}
use Rattle.even_speed.specs.declared.run.Ran.{Ran}
use Rattle.even_speed.specs.Clocks.{clock_at}
use Rattle.even_speed.specs.Even.{Evenly, HoldsBackNone, at_first, pacing_of}
use Rattle.even_speed.specs.Holds.{has_stores}
use Rattle.even_speed.specs.Kept.{AreSound, IsAloneClock}
use Rattle.even_speed.specs.Lasting.{IsLasting}
use Rattle.even_speed.specs.Owns.{none_own, own_at, owns_after}
use Rattle.even_speed.specs.Seats.{none_seated, seat_at, seats_after}
use Rattle.even_speed.specs.Timed.{AreOnTime, IsNeverIdle}
use Rattle.even_speed.proofs.run.drive_evenly.Given as goal

abbrev pub invariant-loop-taken : goal.invariant-loop-taken
invariant-loop-taken g l = record {
  same : IsOfSameLoop l.initial.book l.book;
  held : HaveArrived l.book.image l.held;
  shares : IsNoMore l.shares l.book.totals;
  sound : AreSound l._taken l.book.cores l.free l.clocks.items;
  calm : is_none l.terms.costs ≡ true → l.free.order ≤ l.free.began;
  seats : (k : ℕ) → seat_at l.seats k ≡ seats_after none_seated l.book.history k;
  count : length l.owns.items ≡ l.book.cores;
  owns : has_stores l.terms.holds ≡ true → (k : ℕ) → own_at l.owns.items k ≡ owns_after none_own l.book.history k;
  drives : (rest : List ℕ) (result : Result (Option Ran) TurnFault) (new : Driver g.row.S.Denot)
      → Evenly g.S.EpochStore.makes g.S.EpochStore.view g.S.EpochStore.waits g.S.PricedStore.keeps (pacing_of g.S.PricedStore.prices l.terms)
      (record { held = harts_of l.held; clocks = clock_at l.clocks.items; free = l.free }) (driver l.book l.shares) rest result new
      → Evenly g.S.EpochStore.makes g.S.EpochStore.view g.S.EpochStore.waits g.S.PricedStore.keeps (pacing_of g.S.PricedStore.prices l.terms) at_first (driver l.initial.book l.initial.shares)
      (l.schedule.items ++ rest) result new;
  timed : l.initial.book.history ≡ [] → (s : FlatState) × (replay l.book.image l.book.cores l.book.history ≡ Some s)
      × AreOnTime (is_none l.terms.costs) l.book.image l.book.cores s (record { held = harts_of l.held; clocks = clock_at l.clocks.items; free = l.free });
  lasting : l.initial.book.history ≡ [] → IsLasting l.book (clock_at l.clocks.items) l._taken;
  few : length l.book.history ≤ most_room;
  stopped : l.book.stopped ≡ l.initial.book.stopped;
  busy : is_none l.terms.costs ≡ true → l.initial.book.history ≡ [] → l.book.cores ≡ 1 → IsNeverIdle (clock_at l.clocks.items 0);
  alone : l.book.cores ≡ 1 → (l.book.totals.restarts ≡ 0) × IsAloneClock (HoldsBackNone (pacing_of g.S.PricedStore.prices l.terms)) l.free.began (clock_at l.clocks.items 0);
}
