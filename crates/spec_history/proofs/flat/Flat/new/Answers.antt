use Rattle.spec_history.proofs.Replay.Reaching.{reached_first}
use Rattle.spec_history.proofs.flat.Flat.new.Goals as goal

pub invariant_of-result : goal.invariant_of-result
invariant_of-result c = record {
  reached = rw (c.in_ok-machine.ensures.image, c.in_ok-machine.ensures.state) (reached_first c.args.image.now _);
  fit = c.in_ok-machine.ensures.fit;
}
