-- What the book answers after a turn at its parts: a core that goes on is told the hart that the register has of it.
use Rattle.std.specs.Prelude.{ℕ, List, Option, Some, None}
use Rattle.homefree.specs.declared.answer.Answer.{Answer}
use Rattle.homefree.specs.declared.answer.Answer.TheVariants as answer
use Rattle.homefree.specs.declared.answer.Came.{Came}
use Rattle.homefree.specs.declared.answer.Came.TheVariants as came
use Rattle.homefree.specs.declared.register.Running.{Running}
use Rattle.homefree.specs.Kept.{running_at}

abbrev pub go_on : Option Running → Answer
go_on None = answer.Left
go_on (Some now) = answer.Go now.hart

abbrev pub answer_of : List (Option Running) → ℕ → Came → Answer
answer_of running core came.Goes = go_on (running_at running core)
answer_of running core (came.Again cause) = answer.Again cause
answer_of running core came.Left = answer.Left
answer_of running core (came.Over end) = answer.Over end
