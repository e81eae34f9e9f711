-- What the book answers where the register has set what a core runs.
use Rattle.std.proofs.Common.{◌≡◌, ◌==◌, ℕ, true, List, Option, Some, ap, ◌∙◌, cond, arith}
use Rattle.std.proofs.lemmas.Bool.Decides.{nat_tests}
use Rattle.homefree.specs.declared.answer.Answer.TheVariants.{Go}
use Rattle.homefree.specs.declared.answer.Came.TheVariants.{Goes}
use Rattle.homefree.specs.declared.register.Running.{Running}
use Rattle.homefree.specs.Came.{answer_of, go_on}
use Rattle.homefree.specs.Kept.{running_at}

-- the core goes on from the hart that was set
pub went_on : (running : List (Option Running)) (core : ℕ) (now : Running) (other : Option Running) → running_at running core ≡ cond (core == core) (Some now) other
    → answer_of running core Goes ≡ Go now.hart
went_on running core now other is = let same : (core == core) ≡ true = grind (arith, nat_tests) in ap go_on (is ∙ ap (λ b. cond b (Some now) other) same)
