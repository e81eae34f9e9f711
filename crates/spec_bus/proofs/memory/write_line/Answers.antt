use Rattle.std.proofs.Common.{◌≡◌, ◌∙◌, ℕ, slice_index, ap, arith}
use Rattle.std.proofs.Math.Path.{fun_ext}
use Rattle.bus_states.specs.Messages.{with_line}
use Rattle.spec_bus.proofs.memory.write_line.Goals as goal

pub returns : goal.returns
returns c =
    let all : c.loop-x.x ≡ c.args.line_length = omega arith in
    fun_ext (λ p. c.loop-x.invariant p
    ∙ ap (λ (n : ℕ). with_line n c.args.addr (slice_index c.args.line.now) (slice_index c.args.memory.now) p) all)
