use Rattle.std.proofs.Common.{◌≡◌, ◌<◌, ap, sym, ◌∙◌, arith, add-one}
use Rattle.rv32_exec.specs.Sequential.{SequentialResult, epoch_outcome}
use Rattle.rv32_exec.specs.declared.sequential.End.TheVariants.{Done}
use Rattle.rv32_exec.proofs.Epochs.{first_epochs-none, one_more_epoch, done_counts, is_last, sequential_result-last, sequential_result-done}
use Rattle.rv32_exec.proofs.sequential.run_epochs.Goals as goal

pub loop-epoch-init : goal.loop-epoch-init
loop-epoch-init c = rw c.requires (first_epochs-none c.args.image.now)

pub loop-epoch-preserved : goal.loop-epoch-preserved
loop-epoch-preserved c =
    let image = c.args.image.now in
    let counted = done_counts image c.loop-epoch.epoch (epoch_outcome image c.loop-epoch.epoch c.loop-epoch.bytes) c.in-Done.field-0 (ap (λ (r : SequentialResult). r.end) c.in-Done.ensures) in
    rw (add-one c.loop-epoch.epoch) (one_more_epoch image c.loop-epoch.epoch c.loop-epoch.epoch c.loop-epoch.bytes c.loop-epoch.invariant
    ∙ (c.in-Done.ensures ∙ ap (λ n. record { end = Done n; bytes = c.run_epoch.new.bytes }) (rw (← add-one c.loop-epoch.epoch) counted)))

pub returns-in_default : goal.returns-in_default
returns-in_default c =
    let image = c.args.image.now in
    let within : c.loop-epoch.epoch < image.epochs = omega (arith, c.epochs-epoch-end.ensures.epochs, c.loop-epoch-test.true) in
    let all = sequential_result-last image c.loop-epoch.epoch (record { end = c.run_epoch.result; bytes = c.run_epoch.new.bytes }) within
    (is_last c.run_epoch.result c.in_default.not-Done)
    (one_more_epoch image c.loop-epoch.epoch c.loop-epoch.epoch c.loop-epoch.bytes c.loop-epoch.invariant ∙ c.run_epoch.ensures) in
    record {
      end = sym (ap (λ (r : SequentialResult). r.end) all);
      bytes = sym (ap (λ (r : SequentialResult). r.bytes) all);
    }

pub returns-clause-end : goal.returns-clause-end
returns-clause-end c =
    let last : c.loop-epoch.epoch ≡ c.args.image.now.epochs = omega (arith, c.epochs-epoch-end.ensures.epochs) in
    let done = sequential_result-done c.args.image.now c.loop-epoch.bytes (rw last at c.loop-epoch.invariant) in
    rw c.epochs.ensures.epochs (sym (ap (λ (r : SequentialResult). r.end) done))

pub returns-clause-bytes : goal.returns-clause-bytes
returns-clause-bytes c =
    let last : c.loop-epoch.epoch ≡ c.args.image.now.epochs = omega (arith, c.epochs-epoch-end.ensures.epochs) in
    let done = sequential_result-done c.args.image.now c.loop-epoch.bytes (rw last at c.loop-epoch.invariant) in
    sym (ap (λ (r : SequentialResult). r.bytes) done)
