-- Why a run stops.
use Rattle.std.proofs.Common.{◌≡◌, Option, Some, None, IfSome, refl, subst}
use Rattle.run_ledger.specs.declared.counts.Counts.{Counts}
use Rattle.violations.specs.View.{StoreView}
use Rattle.homefree.specs.declared.answer.StopCause.{StopCause}
use Rattle.homefree.specs.declared.answer.StopCause.TheVariants as stop
use Rattle.homefree.specs.declared.book.Loop.{Loop}
use Rattle.homefree.specs.BookView.{BookView}
use Rattle.homefree.specs.LockView.{loop_of}
use Rattle.homefree.specs.Missed.{IsOfCaches}
use Rattle.core_threads.specs.declared.fault.RunFault.{RunFault}
use Rattle.core_threads.specs.declared.fault.RunFault.TheVariants as fault
use Rattle.core_threads.specs.Faults.{fault_of}
use Rattle.core_threads.specs.Sentence.{Explains, Halts, HaltsWith}
use Rattle.run_command.specs.Run.{IsFullHistory, IsStop, cause_of}
use Rattle.run_command.proofs.Printing.{made, within_room}

stopped_full : (stopped : Option StopCause) → fault.HistoryFull ≡ fault_of stopped → stopped ≡ Some stop.HistoryFull
stopped_full (Some stop.HistoryFull) is = refl
stopped_full (Some stop.NoMemory) is = absurd cc
stopped_full (Some stop.NoThread) is = absurd cc
stopped_full (Some stop.Shut) is = absurd cc
stopped_full None is = absurd cc

not_full : fault.HistoryFull ≡ fault.NoMemory → ⊥
not_full is = cc

module _ {S : Type 0} (view : S → StoreView) (l : Loop) where
  full : (b : BookView S) (counted : Counts) → Halts view l b fault.HistoryFull counted → Explains view b → IsFullHistory (IsOfCaches view) l b.history
  full b counted h so =
      let own : IsFullHistory (IsOfCaches view) (loop_of b) b.history = record {
        made = made view b (loop_of b) refl so;
        within = within_room view b (loop_of b) refl so;
        state = h.state;
        replays = h.stands.replays;
        going = h.going;
        full = h.full (stopped_full b.stopped h.fault_is);
      } in
      subst (λ (it : Loop). IsFullHistory (IsOfCaches view) it b.history) h.loop own

  -- the cause of a halted run is one for which a run may stop
  pub may_stop : (book : Option (BookView S)) (why : RunFault) (counted : Counts) → HaltsWith view l book why counted → IfSome book (Explains view)
      → IsStop (IsOfCaches view) l (cause_of why)
  may_stop (Some b) fault.HistoryFull counted h so = (b.history, full b counted h so)
  may_stop None fault.HistoryFull counted h so = absurd (not_full h.0)
  may_stop book fault.NoMemory counted h so = tt
  may_stop book fault.NoThread counted h so = tt
  may_stop book fault.Spent counted h so = tt
  may_stop book fault.Shut counted h so = tt
