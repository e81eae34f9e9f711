use Rattle.replay_command.proofs.Digits.{parsed, unparsed}
use Rattle.replay_command.proofs.words.number_of_64_bits.Goals as goal

pub returns-in-Ok : goal.returns-in-Ok
returns-in-Ok c = parsed c.args.digits.now c.in-Ok.number c.requires c.in-Ok.ensures.value.0

pub returns-in-Err : goal.returns-in-Err
returns-in-Err c = unparsed c.args.digits.now c.requires c.in-Err.ensures.value.0
