use Rattle.std.proofs.Common.{sym, ◌∙◌}
use Rattle.replay_command.proofs.Waiting.{may_not, may_wait, no_request, no_waits, none_too}
use Rattle.replay_command.proofs.words.asked_before_costs.Goals as goal

pub returns-in_err-waits-clause-none : goal.returns-in_err-waits-clause-none
returns-in_err-waits-clause-none g c =
    none_too c.from_residual.result (no_waits g.S.AsStr.text c.args.words.now c.split_at.result.0.now c.split_at.result.1.now c.wait_place.result c.wait_place.ensures.place c.split_at.ensures.front c.split_at.ensures.back c.in_err-waits.ensures.none)

pub returns-in_err-request-clause-none : goal.returns-in_err-request-clause-none
returns-in_err-request-clause-none g c =
    none_too c.from_residual-in_err-request.result (no_request g.S.AsStr.text c.args.words.now c.split_at.result.0.now c.split_at.result.1.now c.wait_place.result c.wait_place.ensures.place c.split_at.ensures.front c.split_at.ensures.back (sym c.in_err-request.ensures))

pub returns-then-may_wait-clause-asked : goal.returns-then-may_wait-clause-asked
returns-then-may_wait-clause-asked g c =
    may_wait g.S.AsStr.text c.args.words.now c.split_at.result.0.now c.split_at.result.1.now c.in_ok-waits.waits.now c.wait_place.result c.wait_place.ensures.place c.split_at.ensures.front c.split_at.ensures.back
    c.in_ok-request.request c.in_ok-waits.ensures.some (sym c.in_ok-request.ensures) (sym c.may_wait.ensures ∙ c.if-may_wait.true)

pub returns-else-may_wait-clause-none : goal.returns-else-may_wait-clause-none
returns-else-may_wait-clause-none g c =
    may_not g.S.AsStr.text c.args.words.now c.split_at.result.0.now c.split_at.result.1.now c.in_ok-waits.waits.now c.wait_place.result c.wait_place.ensures.place c.split_at.ensures.front c.split_at.ensures.back
    c.in_ok-request.request c.in_ok-waits.ensures.some (sym c.in_ok-request.ensures) (sym c.may_wait.ensures ∙ c.if-may_wait.false)
