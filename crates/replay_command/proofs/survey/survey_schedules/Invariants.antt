use Rattle.std.proofs.Common.{take}
use Rattle.all_schedules.specs.Schedules.{lists_of}
use Rattle.all_schedules.specs.Made.{the_loop}
use Rattle.replay_command.specs.Survey.{Surveys}
use Rattle.replay_command.proofs.survey.survey_schedules.Given as goal

-- what the schedules so far come to
abbrev pub invariant-loop-place : goal.invariant-loop-place
invariant-loop-place g l = Surveys g.S.EpochStore.starts g.S.EpochStore.makes g.S.EpochStore.view g.S.EpochStore.waits (the_loop l.on) (lists_of (take l.place l.schedules)) l.survey
