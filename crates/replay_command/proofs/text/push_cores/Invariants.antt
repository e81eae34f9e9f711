use Rattle.std.proofs.Common.{◌≡◌, ◌++◌, take}
use Rattle.replay_command.specs.SurveyText.{cores_text}
use Rattle.replay_command.proofs.text.push_cores.Given as goal

-- the cores so far
abbrev pub invariant-loop-core : goal.invariant-loop-core
invariant-loop-core l = l.text.items ≡ l.initial.text.items ++ cores_text (take l.core-index l.schedule)
