-- All attempts of a history, each from its beginning to its end, in the order in which they began.
-- Source: the attempts of `Ends`.
use Rattle.std.specs.Prelude.{ℕ, List, ◌++◌, length, map, Option, Some, None, unwrap_or}
use Rattle.std.specs.List.Sorted.{IsPermutation, IsSorted}
use Rattle.std.specs.declared.cmp.Ordering.{Ordering}
use Rattle.std.specs.Ordering.{nat_cmp}
use Rattle.spec_history.specs.declared.entry.Entry.{Entry}
use Rattle.spec_history.specs.declared.entry.What.{What}
use Rattle.spec_history.specs.declared.entry.What.TheVariants.{Fault}
use Rattle.spec_history.specs.Conflict.{what_at}
use Rattle.conflicts.specs.Attempts.{attempt_place}
use Rattle.conflict_findings.specs.declared.attempts.Attempt.{Attempt}
use Rattle.conflict_findings.specs.declared.attempts.Fate.{Fate}
use Rattle.conflict_findings.specs.declared.attempts.Fate.TheVariants as fate
use Rattle.conflict_findings.specs.declared.ended.Ended.{Ended}
use Rattle.conflict_findings.specs.declared.ended.Ending.{Ending}
use Rattle.conflict_findings.specs.declared.ended.Ending.TheVariants.{Committed, Violated, Cancelled}
use Rattle.conflict_findings.specs.declared.ended.Running.{Running}

-- what became of an attempt that an entry ended so: one that its core's fault committed has faulted
abbrev pub fate_of : Ending → Option What → Fate
fate_of Committed (Some (Fault cause pc)) = fate.Faulted
fate_of Committed what = fate.Committed
fate_of Violated what = fate.Violated
fate_of Cancelled what = fate.Cancelled

-- the place at which the attempt began that a core runs before another place; 0 where none did
abbrev pub began_at : List Entry → ℕ → ℕ → ℕ
began_at entries core before = unwrap_or (attempt_place entries core before) 0

-- one that has ended
abbrev pub of_ended : List Entry → Ended → Attempt
of_ended entries e = record {
  began = began_at entries e.runner.core e.place;
  runner = e.runner;
  number = e.attempt;
  done = e.done;
  end = Some (record { place = e.place; fate = fate_of e.ending (what_at entries (Some e.place)); by = e.by });
}

-- one that goes on after the history
abbrev pub of_running : List Entry → Running → Attempt
of_running entries r = record {
  began = began_at entries r.runner.core (length entries);
  runner = r.runner;
  number = r.attempt;
  done = r.done;
  end = None;
}

-- those that have ended, and those that go on
abbrev pub attempts_of : List Entry → List Ended → List Running → List Attempt
attempts_of entries ended running = map (of_ended entries) ended ++ map (of_running entries) running

abbrev pub by_beginning : Attempt → Attempt → Ordering
by_beginning a b = nat_cmp a.began b.began

-- all of them, in the order in which they began
pub record AreAttempts (entries : List Entry) (ended : List Ended) (running : List Running) (attempts : List Attempt) : Type 0 where
  pub all : IsPermutation (attempts_of entries ended running) attempts
  pub ordered : IsSorted by_beginning attempts
