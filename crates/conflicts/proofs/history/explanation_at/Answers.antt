use Rattle.std.proofs.Common.{◌≡◌, None, false, true, get_or, refl, sym, ap, subst, ◌∙◌}
use Rattle.rv32_image.proofs.SmallFacts.{one_value}
use Rattle.rv32_exec.specs.Hart.{HartState}
use Rattle.std.proofs.lemmas.Option.{slice_get-get_or}
use Rattle.spec_history.specs.declared.entry.Entry.{Entry}
use Rattle.spec_history.specs.declared.entry.What.TheVariants.{Start}
use Rattle.spec_history.specs.Refusal.{refusal_of}
use Rattle.spec_history.specs.View.{state_in}
use Rattle.conflicts.proofs.Explaining.{no_victim, no_causer, explained_by, hurt_there}
use Rattle.conflicts.proofs.history.explanation_at.Goals as goal

unfoldable none : Entry
none = record { by = 0; what = Start 0 }

pub returns-in_default-core_at-clause-found : goal.returns-in_default-core_at-clause-found
unfolding none
returns-in_default-core_at-clause-found c entry at legal =
    let here = get_or c.args.entries.now c.args.place none in
    let there = slice_get-get_or c.args.entries.now c.args.place none c.requires.place in
    let legal_here = subst (λ e. refusal_of c.args.flat.now.image c.args.cores (state_in c.args.flat.now) e ≡ None) (one_value _ entry here at there) legal in
    let clash : false ≡ true = no_victim c.args.flat.now.image c.args.cores (state_in c.args.flat.now) here c.in-Hurt.epoch c.in-Hurt.is legal_here c.in_default-core_at.ensures.there in
    absurd cc

pub returns-in_default-epoch-clause-found : goal.returns-in_default-epoch-clause-found
unfolding none
returns-in_default-epoch-clause-found c entry at legal =
    let here = get_or c.args.entries.now c.args.place none in
    let there = slice_get-get_or c.args.entries.now c.args.place none c.requires.place in
    let legal_here = subst (λ e. refusal_of c.args.flat.now.image c.args.cores (state_in c.args.flat.now) e ≡ None) (one_value _ entry here at there) legal in
    let clash : false ≡ true = no_causer c.args.flat.now.image c.args.cores (state_in c.args.flat.now) here c.in-Hurt.epoch c.in-Hurt.is legal_here (sym c.epoch.ensures ∙ c.in_default-epoch.is) in
    absurd cc

pub returns-clause-explained : goal.returns-clause-explained
unfolding none
returns-clause-explained c = (
  refl,
  explained_by c.args.flat.now.image (state_in c.args.flat.now) c.args.entries.now c.args.place (get_or c.args.entries.now c.args.place none) c.in-Hurt.epoch
      c.in-Some-epoch.causing c.in-Some.victim c.in-Some-next_event.next c.cause_of-cause.result c.conflict_of-kind.result.0 c.conflict_of-kind.result.1 c.in_ok-later.later c.done.result c.done-2.result
      (slice_get-get_or c.args.entries.now c.args.place none c.requires.place) c.in-Hurt.is (sym c.in-Some-epoch.ensures) c.in-Some.ensures.there (sym c.in-Some-next_event.ensures)
      c.cause_of-cause.ensures.cause c.conflict_of-kind.ensures.kind c.conflict_of-kind.ensures.blame c.in_ok-later.ensures.later (c.done.ensures ∙ ap (λ (h : HartState). h.done) c.now-stop.ensures) (c.done-2.ensures ∙ ap (λ (h : HartState). h.done) c.base-last.ensures),
)

pub returns-clause-found : goal.returns-clause-found
unfolding none
returns-clause-found c entry at legal =
    hurt_there c.args.entries.now c.args.place (get_or c.args.entries.now c.args.place none) c.in-Hurt.epoch
    (slice_get-get_or c.args.entries.now c.args.place none c.requires.place) c.in-Hurt.is

pub look-requires : goal.look-requires
look-requires c = rw c.image-image.ensures c.requires.known.behind_is

pub returns-in_err-look-clause-known : goal.returns-in_err-look-clause-known
returns-in_err-look-clause-known c = record { ahead_is = c.requires.known.ahead_is; behind_is = rw c.image-image.ensures at c.look.ensures }

pub returns-in_err-look-2-clause-known : goal.returns-in_err-look-2-clause-known
returns-in_err-look-2-clause-known c = record { ahead_is = c.requires.known.ahead_is; behind_is = rw c.image-image.ensures at c.look-2.ensures }

pub invariant_of-scene : goal.invariant_of-scene
invariant_of-scene c = record { known = rw c.image-image.ensures at c.look-2.ensures }
