use Rattle.std.proofs.Common.{◌≡◌, ◌++◌, ◌∙◌, [], ℕ, List, ap, rules}
use Rattle.replay_command.specs.SurveyText.{turns_line}
use Rattle.replay_command.proofs.paced.print_turns.Goals as goal

joined : (line below : List ℕ) {start first slice text : List ℕ} → start ≡ [] → first ≡ start ++ line → slice ≡ below → text ≡ first ++ slice → text ≡ line ++ below
joined line below {start} {first} {slice} none made same more = more ∙ (ap (λ t. t ++ slice) (made ∙ ap (λ t. t ++ line) none) ∙ ap (λ t. line ++ t) same)

pub returns : goal.returns
returns g c =
    let made : c.push_turns.new.text.items ≡ c.new-text.result.items ++ turns_line c.args.schedule.now = search rules in (
      c.in_ok-shown.shown.1.items,
      c.in_ok-shown.ensures,
      joined (turns_line c.args.schedule.now) c.in_ok-shown.shown.1.items c.new-text.ensures.items made c.as_slice.ensures.value c.in_ok-extend_from_slice.ensures.items,
    )
