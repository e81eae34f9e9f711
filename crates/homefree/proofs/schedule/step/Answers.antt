use Rattle.std.proofs.Common.{◌≡◌, ◌<◌, rules, length, option_copied, None, subst, ◌∙◌, Ok}
use Rattle.std.proofs.lemmas.List.{get_or_default}
use Rattle.homefree.specs.Held.{held_at}
use Rattle.homefree.specs.Fixed.{TurnsStore}
use Rattle.homefree.proofs.Books.Drives.{hand_is}
use Rattle.homefree.proofs.schedule.step.Goals as goal

pub returns-clause-turned : goal.returns-clause-turned
returns-clause-turned g c =
    let there : c.args.core < length c.args.held.now = search rules in
    let same : option_copied c.as_ref.result ≡ held_at c.args.held.now c.args.core = c.as_ref.ensures.value ∙ get_or_default c.args.held.now c.args.core c.index-held-core.result None there in
    record {
      state = c.look.ensures.state;
      replays = c.look.ensures.replays;
      turns = subst (λ next. TurnsStore g.S.EpochStore.makes g.S.EpochStore.view g.S.EpochStore.waits c.args.book.now c.look.ensures.state c.args.shares.now c.args.core next (Ok c.in_ok-answer.answer) c.turn.new.self c.turn.new.shares)
          (same ∙ hand_is c.args.book.now.image (held_at c.args.held.now c.args.core) (c.requires.held c.args.core)) (c.in_ok-answer.ensures.turned c.look.ensures.state c.look.ensures.replays);
    }
