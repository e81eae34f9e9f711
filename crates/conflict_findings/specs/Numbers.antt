-- Which run of its epoch each core is in, as it is kept while the entries are gone through.
use Rattle.std.specs.Prelude.{◌≡◌, ℕ, ◌+◌, ◌≤◌, List, Option, Some, None, option_map}
use Rattle.std.specs.BTreeMap.{get}
use Rattle.std.specs.Ordering.{nat_cmp}
use Rattle.spec_history.specs.declared.entry.Entry.{Entry}
use Rattle.spec_history.specs.declared.entry.What.{What}
use Rattle.spec_history.specs.declared.entry.What.TheVariants.{Start, Restart}
use Rattle.spec_history.specs.Searches.{last_below}
use Rattle.conflicts.specs.Attempts.{attempt_number, core_does, is_start}
use Rattle.conflict_findings.specs.declared.numbers.Numbers.{Numbers}

-- which run of its epoch a core is in before a place, if it has started one
abbrev pub run_before : List Entry → ℕ → ℕ → Option ℕ
run_before entries core place = option_map (λ start. attempt_number entries core place) (last_below place (λ j. core_does entries core j is_start))

-- the run that begins where a core in this run does this
abbrev pub begun_by : What → Option ℕ → Option ℕ
begun_by (Start epoch) run = Some 1
begun_by Restart run = option_map (λ n. n + 1) run
begun_by what run = None

-- all that is kept is right
pub record AreNumbers (entries : List Entry) (numbers : Numbers) : Type 0 where
  pub runs_are : (core : ℕ) → get nat_cmp numbers.runs core ≡ run_before entries core numbers.place
  pub few : (core run : ℕ) → get nat_cmp numbers.runs core ≡ Some run → run ≤ numbers.place
