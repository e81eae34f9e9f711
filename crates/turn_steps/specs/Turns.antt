-- The text of a turn: its number, its core and what it was answered; and what a core runs then.
-- Source: this project.
use Rattle.std.specs.Prelude.{ℕ, Bool, true, false, List, ◌++◌, codes, Option, Some, None}
use Rattle.std.specs.Fmt.{decimal}
use Rattle.rv32_exec.specs.Hart.{HartState}
use Rattle.rv32_exec.specs.declared.sequential.End.{End}
use Rattle.rv32_exec.specs.declared.sequential.End.TheVariants.{Done, Exit, Fault}
use Rattle.violations.specs.declared.attempt.Attempt.{Attempt}
use Rattle.homefree.specs.declared.answer.Answer.{Answer}
use Rattle.homefree.specs.declared.answer.Answer.TheVariants.{Go, Again, Left, Over, Stopped}
use Rattle.homefree.specs.declared.answer.Cause.{Cause}
use Rattle.homefree.specs.declared.answer.Cause.TheVariants.{NoEpoch, NotHomefree, NoWay, OrbFull, OrbBusy}
use Rattle.trace_text.specs.Printing.{hex_word}

abbrev pub cause_name : Cause → List ℕ
cause_name NoEpoch = codes "NoEpoch"
cause_name NotHomefree = codes "NotHomefree"
cause_name NoWay = codes "NoWay"
cause_name OrbFull = codes "OrbFull"
cause_name OrbBusy = codes "OrbBusy"

abbrev pub end_text : End → List ℕ
end_text (Done epochs) = codes "done " ++ decimal epochs
end_text (Exit epoch) = codes "exit " ++ decimal epoch
end_text (Fault epoch cause pc) = codes "fault " ++ decimal epoch ++ codes " " ++ decimal cause ++ codes " " ++ hex_word pc

abbrev pub answer_text : Answer → List ℕ
answer_text (Go hart) = codes "go"
answer_text (Again cause) = codes "again " ++ cause_name cause
answer_text Left = codes "left"
answer_text (Over end) = codes "over " ++ end_text end
answer_text (Stopped cause) = codes "stopped"

-- `turn NUMBER CORE ANSWER`
unfoldable pub turn_line : ℕ → ℕ → Answer → List ℕ
turn_line number core answer = codes "turn " ++ decimal number ++ codes " " ++ decimal core ++ codes " " ++ answer_text answer ++ codes "\n"

abbrev pub mode_name : Bool → List ℕ
mode_name true = codes "straight"
mode_name false = codes "speculative"

abbrev pub attempt_text : Option Attempt → List ℕ
attempt_text None = codes "-"
attempt_text (Some attempt) = decimal attempt.epoch ++ codes " " ++ mode_name attempt.straight

-- `attempt CORE EPOCH MODE`, or `attempt CORE -`
unfoldable pub attempt_line : ℕ → Option Attempt → List ℕ
attempt_line core attempt = codes "attempt " ++ decimal core ++ codes " " ++ attempt_text attempt ++ codes "\n"

abbrev pub hart_text : Option HartState → List ℕ
hart_text None = codes "-"
hart_text (Some hart) = hex_word hart.pc ++ codes " " ++ decimal hart.done

-- `hart CORE PC DONE`: the pc and the executed instructions of the hart that a core has in hand; or `hart CORE -`
unfoldable pub hart_line : ℕ → Option HartState → List ℕ
hart_line core hart = codes "hart " ++ decimal core ++ codes " " ++ hart_text hart ++ codes "\n"
