-- What `run` printed is found legal.
use Rattle.std.proofs.Common.{◌≡◌, ℕ, ◌≤◌, nat_lt, nat_le, ◌&&◌, true, sym, ◌∙◌, arith}
use Rattle.std.proofs.lemmas.Bool.Decides.{nat_tests}
use Rattle.rv32_image.proofs.Bounds.{most_few}
use Rattle.trace_commands.proofs.FoundLegal.{printed_is_legal}
use Rattle.trace_commands.specs.Stores.{machine_with}
use Rattle.run_command.specs.Laws.{TracedRunIsLegal}
use Rattle.run_command.proofs.AnyMachine.{replay_same}
use Rattle.run_command.proofs.Lengths.{traced_short}

allowed : (n most : ℕ) → 1 ≤ n → n ≤ most → (nat_lt 0 n && nat_le n most) ≡ true
allowed n most least few = grind (arith, nat_tests)

pub traced_run_is_legal : TracedRunIsLegal
traced_run_is_legal lines image asked options history said count room whole =
    let replays = sym (replay_same image (machine_with asked image.machine) options.cores history) ∙ whole.replays in
    printed_is_legal lines image options.cores history whole.state said (allowed options.cores _ count.least count.most) whole.numbers replays
    (traced_short lines image options.cores history whole.state said (omega (arith, count.most, most_few image.version)) whole.numbers replays (omega (arith, whole.within, room)))
