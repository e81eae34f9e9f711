use Rattle.std.proofs.Common.{ap, bit_or}
use Rattle.spec_states.specs.Mask.{with_bytes}
use Rattle.spec_states.proofs.line.Marks.with_bytes.Goals as goal

pub returns : goal.returns
unfolding with_bytes
returns c = ap (bit_or c.args.self.bytes) c.span.ensures
