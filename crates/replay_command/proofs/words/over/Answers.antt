use Rattle.std.proofs.Common.{rules}
use Rattle.replay_command.specs.Asked.{over}
use Rattle.replay_command.proofs.words.over.Goals as goal

pub returns-in_err-store : goal.returns-in_err-store
unfolding over
returns-in_err-store c = rw (← c.in_err-store.ensures) c.from_residual.ensures

pub returns : goal.returns
unfolding over
returns c = rw (← c.in_ok-store.ensures) (search rules)
