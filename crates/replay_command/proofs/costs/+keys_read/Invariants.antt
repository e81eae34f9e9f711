use Rattle.std.proofs.Common.{length}
use Rattle.rv32_image.specs.ImageText.{pieces}
use Rattle.replay_command.proofs.costs.+keys_read.Given as goal

-- each call has a key fewer
abbrev pub decreases-keys_read : goal.decreases-keys_read
decreases-keys_read l = length (pieces 44 l.keys.now)
