-- How the attempts of a history ended, and which go on after it.
-- Source: an epoch that is violated is run again from its start, in Steffan, Colohan, Zhai and Mowry, "A Scalable
-- Approach to Thread-Level Speculation", ISCA 2000; each of its runs is an attempt here.
use Rattle.std.specs.Prelude.{ℕ, zero, suc, ◌++◌, ◌==◌, ◌||◌, Bool, false, List, [], length, Option, Some, None, option_and_then, option_map, option_to_list, slice_get, if◌then◌else◌}
use Rattle.rv32_image.specs.Image.{LoadedImage}
use Rattle.rv32_exec.specs.NextEvent.{next_event}
use Rattle.rv32_exec.specs.declared.sequential.End.{End}
use Rattle.rv32_exec.specs.declared.sequential.End.TheVariants as end
use Rattle.spec_history.specs.declared.entry.Entry.{Entry}
use Rattle.spec_history.specs.declared.entry.What.{What}
use Rattle.spec_history.specs.declared.entry.What.TheVariants.{Hurt, Cancel, Commit, Fault}
use Rattle.spec_history.specs.FlatState.{CoreState, FlatState}
use Rattle.spec_history.specs.Refusal.{has}
use Rattle.spec_history.specs.Replay.{replay}
use Rattle.conflicts.specs.declared.explanation.Runner.{Runner}
use Rattle.conflicts.specs.Attempts.{attempt_number, core_at, state_before}
use Rattle.conflict_findings.specs.declared.ended.Ended.{Ended}
use Rattle.conflict_findings.specs.declared.ended.Ending.{Ending}
use Rattle.conflict_findings.specs.declared.ended.Ending.TheVariants.{Committed, Violated, Cancelled}
use Rattle.conflict_findings.specs.declared.ended.Running.{Running}

-- ---- attempts

-- a core with the epoch that it runs
abbrev pub runner_in : FlatState → ℕ → Option Runner
runner_in s core = option_map (λ (c : CoreState). record { core = core; epoch = c.epoch }) (s.cores core)

-- how many instructions its attempt has executed, up to its next event
abbrev pub done_by : LoadedImage → CoreState → ℕ
done_by image c = (next_event image c.hart).now.done

-- ---- those that have ended

abbrev pub ended_with : LoadedImage → List Entry → ℕ → Ending → Runner → ℕ → CoreState → Ended
ended_with image entries place ending by core c = record {
  place = place;
  ending = ending;
  by = by;
  runner = record { core = core; epoch = c.epoch };
  attempt = attempt_number entries core place;
  done = done_by image c;
}

-- the attempt of a core, which ends so by the entry of a core at a place
abbrev pub ended_as : LoadedImage → List Entry → FlatState → ℕ → Ending → ℕ → ℕ → Option Ended
ended_as image entries s place ending by core =
    option_and_then (λ (r : Runner). option_map (ended_with image entries place ending r core) (s.cores core)) (runner_in s by)

abbrev pub violated : LoadedImage → ℕ → List Entry → FlatState → ℕ → ℕ → ℕ → Option Ended
violated image count entries s place by epoch = option_and_then (ended_as image entries s place Violated by) (core_at count s epoch)

-- one that was violated has ended before it is cancelled
abbrev pub cancelled : LoadedImage → ℕ → List Entry → FlatState → ℕ → ℕ → ℕ → Option Ended
cancelled image count entries s place by epoch =
    option_and_then (λ k. if has (s.cores k) (λ c. c.hurt) then None else ended_as image entries s place Cancelled by k) (core_at count s epoch)

-- the attempt that an entry at a place ends, in the state before it
abbrev pub ended_by : LoadedImage → ℕ → List Entry → FlatState → ℕ → ℕ → What → Option Ended
ended_by image count entries s place by (Hurt epoch) = violated image count entries s place by epoch
ended_by image count entries s place by (Cancel epoch) = cancelled image count entries s place by epoch
ended_by image count entries s place by Commit = ended_as image entries s place Committed by by
ended_by image count entries s place by (Fault cause pc) = ended_as image entries s place Committed by by
ended_by image count entries s place by what = None

-- the attempt that the entry at a place ended
abbrev pub ended_at : LoadedImage → ℕ → List Entry → ℕ → Option Ended
ended_at image count entries place =
    option_and_then (λ (s : FlatState). option_and_then (λ (entry : Entry). ended_by image count entries s place entry.by entry.what) (slice_get entries place)) (state_before image count entries place)

-- those that ended before this place, in order
unfoldable pub ended_before : LoadedImage → ℕ → List Entry → ℕ → List Ended
ended_before image count entries zero = []
ended_before image count entries (suc place) = ended_before image count entries place ++ option_to_list (ended_at image count entries place)

-- ---- those that go on

-- the loop ended by a fault of this epoch
abbrev pub is_faulted : Option End → ℕ → Bool
is_faulted (Some (end.Fault e cause pc)) epoch = e == epoch
is_faulted other epoch = false

-- the attempt of a core, unless it has been violated or has faulted
abbrev pub running_in : LoadedImage → List Entry → FlatState → ℕ → Option Running
running_in image entries s core =
    option_and_then (λ (c : CoreState). if c.hurt || is_faulted s.end c.epoch then None else Some (record {
      runner = record { core = core; epoch = c.epoch };
      attempt = attempt_number entries core (length entries);
      done = done_by image c;
    })) (s.cores core)

-- those of the cores below this one, in order
unfoldable pub running_below : LoadedImage → List Entry → FlatState → ℕ → List Running
running_below image entries s zero = []
running_below image entries s (suc core) = running_below image entries s core ++ option_to_list (running_in image entries s core)

abbrev pub running_from : LoadedImage → ℕ → List Entry → Option FlatState → List Running
running_from image count entries None = []
running_from image count entries (Some s) = running_below image entries s count

-- those that go on after the history
abbrev pub running_after : LoadedImage → ℕ → List Entry → List Running
running_after image count entries = running_from image count entries (replay image count entries)
