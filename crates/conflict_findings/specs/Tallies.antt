-- How many attempts ended alike, and how many instructions they executed.
use Rattle.std.specs.Prelude.{ℕ, ◌+◌, Bool, true, false, List, length, count_by, sum_by, if◌then◌else◌}
use Rattle.conflict_findings.specs.declared.ended.Ended.{Ended}
use Rattle.conflict_findings.specs.declared.ended.Ending.{Ending}
use Rattle.conflict_findings.specs.declared.ended.Ending.TheVariants.{Committed, Violated, Cancelled}
use Rattle.conflict_findings.specs.declared.ended.Running.{Running}
use Rattle.conflict_findings.specs.declared.tally.Tally.{Tally}

abbrev pub is_same : Ending → Ending → Bool
is_same Committed Committed = true
is_same Violated Violated = true
is_same Cancelled Cancelled = true
is_same one other = false

-- it ended so
abbrev pub is_ended : Ending → Ended → Bool
is_ended ending e = is_same e.ending ending

-- how many ended so
abbrev pub count_in : Ending → List Ended → ℕ
count_in ending ended = count_by (is_ended ending) ended

-- what these had executed
abbrev pub done_by : Ending → Ended → ℕ
done_by ending e = if is_ended ending e then e.done else 0

abbrev pub done_in : Ending → List Ended → ℕ
done_in ending ended = sum_by (done_by ending) ended

abbrev pub tally_in : Ending → List Ended → Tally
tally_in ending ended = record { count = count_in ending ended; done = done_in ending ended }

-- what those have executed that go on
abbrev pub done_running : List Running → ℕ
done_running running = sum_by (λ (o : Running). o.done) running

abbrev pub tally_of_running : List Running → Tally
tally_of_running running = record { count = length running; done = done_running running }

-- what all have executed
abbrev pub done_all : List Ended → List Running → ℕ
done_all ended running = sum_by (λ (e : Ended). e.done) ended + done_running running
