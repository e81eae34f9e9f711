-- The lines of all attempts of a history, where these are asked for.
-- Source: this project.
use Rattle.std.specs.Prelude.{◌≡◌, ℕ, Bool, true, false, List, [], ◌++◌, codes, Option, Some, None}
use Rattle.std.specs.List.{flat_map}
use Rattle.spec_history.specs.declared.entry.Entry.{Entry}
use Rattle.conflict_findings.specs.declared.attempts.Attempt.{Attempt}
use Rattle.conflict_findings.specs.declared.attempts.AttemptEnd.{AttemptEnd}
use Rattle.conflict_findings.specs.declared.attempts.Fate.{Fate}
use Rattle.conflict_findings.specs.declared.attempts.Fate.TheVariants.{Committed, Faulted, Violated, Cancelled}
use Rattle.conflict_findings.specs.declared.ended.Ended.{Ended}
use Rattle.conflict_findings.specs.declared.ended.Running.{Running}
use Rattle.conflict_findings.specs.AllAttempts.{AreAttempts}
use Rattle.conflict_text.specs.Ends.{runner_text}
use Rattle.conflict_text.specs.Lines.{labelled, named}

abbrev pub fate_name : Fate → List ℕ
fate_name Committed = codes "committed"
fate_name Faulted = codes "faulted"
fate_name Violated = codes "violated"
fate_name Cancelled = codes "cancelled"

-- what became of it, by which entry, and whose that is; or that it goes on
unfoldable pub end_text : Option AttemptEnd → List ℕ
end_text None = codes " open"
end_text (Some e) =
    labelled (codes " ") (fate_name e.fate) ++ named (codes " ") e.place ++ named (codes " by ") e.by.epoch ++ named (codes " core ") e.by.core

-- attempt 1 epoch 1 try 1 core 1 done 3 violated 4 by 0 core 0
unfoldable pub attempt_line : Attempt → List ℕ
attempt_line a =
    named (codes "attempt ") a.began ++ runner_text (codes " epoch ") a.runner a.number ++ named (codes " done ") a.done ++ end_text a.end ++ codes "\n"

-- a line for each attempt, in the order in which they began
pub record AreTold (history : List Entry) (ended : List Ended) (running : List Running) (text : List ℕ) : Type 0 where
  pub attempts : List Attempt
  pub are : AreAttempts history ended running attempts
  pub printed : text ≡ flat_map attempt_line attempts

-- these lines where they are wanted, else none
abbrev pub AreWanted : Bool → List Entry → List Ended → List Running → List ℕ → Type 0
AreWanted true history ended running text = AreTold history ended running text
AreWanted false history ended running text = text ≡ []
