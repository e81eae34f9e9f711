use Rattle.std.proofs.Common.{map}
use Rattle.replay_command.proofs.Asking.{few_asked}
use Rattle.replay_command.proofs.core_count.stores_asked.Goals as goal

pub new-requires : goal.new-requires
new-requires g c = few_asked (map g.S.AsStr.text c.args.words.now) _ c.in_ok-count.ensures.asked
