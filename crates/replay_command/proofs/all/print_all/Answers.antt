use Rattle.std.proofs.Common.{ℕ, List, Vec, ap, subst, ◌∙◌}
use Rattle.std.specs.declared.alloc.Global.{Global}
use Rattle.all_schedules.specs.Made.{the_loop}
use Rattle.all_schedules.specs.Schedules.{lists_of}
use Rattle.replay_command.specs.Survey.{Surveys}
use Rattle.replay_command.specs.SurveyText.{survey_text}
use Rattle.replay_command.proofs.all.print_all.Goals as goal

pub returns-in-Ok-print_survey : goal.returns-in-Ok-print_survey
returns-in-Ok-print_survey g c =
    let survey = c.in-Ok-survey_schedules.survey in record {
      schedules = lists_of c.in-Ok.all.items;
      every = c.in-Ok.ensures;
      survey = survey;
      surveys = subst (λ (l : List (Vec ℕ Global)). Surveys g.S.EpochStore.starts g.S.EpochStore.makes g.S.EpochStore.view g.S.EpochStore.waits (the_loop c.args.on.now) (lists_of l) survey)
          c.as_slice.ensures.value c.in-Ok-survey_schedules.ensures.made;
      text_is = c.in-Ok-print_survey.ensures
          ∙ ap (λ (l : List (Vec ℕ Global)). survey_text c.args.on.now.image.now (lists_of l) survey) c.as_slice-in-Ok-survey_schedules.ensures.value;
    }
