-- The lines of attempts that were cancelled and of those that go on, and what the total says of attempts.
-- Source: this project.
use Rattle.std.specs.Prelude.{ℕ, Bool, not, ◌||◌, List, [], ◌++◌, codes}
use Rattle.std.specs.List.{flat_map}
use Rattle.conflicts.specs.declared.explanation.Runner.{Runner}
use Rattle.conflict_findings.specs.declared.ended.Ended.{Ended}
use Rattle.conflict_findings.specs.declared.ended.Ending.{Ending}
use Rattle.conflict_findings.specs.declared.ended.Ending.TheVariants.{Cancelled, Violated}
use Rattle.conflict_findings.specs.declared.ended.Running.{Running}
use Rattle.conflict_findings.specs.declared.tally.Tally.{Tally}
use Rattle.conflict_findings.specs.Tallies.{is_ended, tally_in, tally_of_running}
use Rattle.conflict_text.specs.Lines.{named}

-- whose attempt it is, and which run of its epoch
unfoldable pub runner_text : List ℕ → Runner → ℕ → List ℕ
runner_text label r attempt = named label r.epoch ++ named (codes " try ") attempt ++ named (codes " core ") r.core

-- an attempt that was cancelled: whose it was, what it had executed, and by whom
unfoldable pub cancel_line : Ended → List ℕ
cancel_line e =
    named (codes "cancel ") e.place ++ runner_text (codes " epoch ") e.runner e.attempt ++ named (codes " lost ") e.done
    ++ named (codes " by ") e.by.epoch ++ named (codes " core ") e.by.core ++ codes "\n"

abbrev pub line_by : Ended → Ending → List ℕ
line_by e Cancelled = cancel_line e
line_by e ending = []

-- of the attempts that ended, those that were cancelled have a line
abbrev pub ended_line : Ended → List ℕ
ended_line e = line_by e e.ending

-- an attempt that goes on after the history: whose it is, and what it has executed
unfoldable pub open_line : Running → List ℕ
open_line o = runner_text (codes "open epoch ") o.runner o.attempt ++ named (codes " done ") o.done ++ codes "\n"

-- of an attempt that was violated its violation tells
abbrev pub is_told : Ended → Bool
is_told e = not (is_ended Violated e)

-- where all attempts are told, each is kept
abbrev pub is_kept : Bool → Ended → Bool
is_kept all e = all || is_told e

-- the lines of both, in order
abbrev pub attempt_lines : List Ended → List Running → List ℕ
attempt_lines ended running = flat_map ended_line ended ++ flat_map open_line running

-- ---- in the total

-- how many attempts, and what they executed, by these names
unfoldable pub tally_text : List ℕ → List ℕ → Tally → List ℕ
tally_text count done t = named count t.count ++ named done t.done

-- those that were cancelled, and those that go on
unfoldable pub rest_text : List Ended → List Running → List ℕ
rest_text ended running =
    tally_text (codes " cancelled ") (codes " dropped ") (tally_in Cancelled ended) ++ tally_text (codes " open ") (codes " unsettled ") (tally_of_running running)
