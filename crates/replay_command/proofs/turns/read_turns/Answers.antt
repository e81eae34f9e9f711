use Rattle.std.proofs.Common.{◌≡◌, ◌∷◌, ◌+◌, length, ap, sym, ◌∙◌, Ok, arith}
use Rattle.std.proofs.lemmas.List.{append-nil}
use Rattle.std.proofs.lemmas.Result.{err_from_is_err_and}
use Rattle.rv32_image.specs.Cutting.{pieces_after}
use Rattle.replay_command.specs.Turns.{joined, lines_read}
use Rattle.replay_command.proofs.Lines.{fault_of_line, lines_read-none, lines_read-ok, onto_none}
use Rattle.replay_command.proofs.turns.read_turns.Goals as goal

pub loop-number-init : goal.loop-number-init
loop-number-init c = record {
  same = rw c.new-schedule.ensures.items (onto_none (lines_read c.args.cores c.args.lines.number (pieces_after 10 c.args.lines.rest)));
  few = c.requires;
}

pub returns-in_err-push_line : goal.returns-in_err-push_line
returns-in_err-push_line c =
    let cores = c.args.cores in
    let line = c.in-Some.ensures.line in
    let left = pieces_after 10 c.next.new.self.rest in
    let whole = ap (λ n. joined (Ok c.loop-number.schedule.items) (lines_read cores n (c.in-Some.line.now ∷ left))) c.in-Some.ensures.number
    ∙ (ap (λ l. joined (Ok c.loop-number.schedule.items) (lines_read cores c.loop-number.lines.number l)) (sym line) ∙ c.loop-number.invariant.same) in
    let p = err_from_is_err_and c.from_residual.result c.from_residual.ensures.1 in
    rw (p.1, p.2) (fault_of_line _ _ cores c.loop-number.schedule.items c.in-Some.number c.in-Some.line.now left _ whole c.in_err-push_line.ensures)

pub loop-number-preserved : goal.loop-number-preserved
loop-number-preserved c =
    let cores = c.args.cores in
    let line = c.in-Some.ensures.line in
    let same = c.in-Some.ensures.number in
    let left = pieces_after 10 c.next.new.self.rest in
    let more : c.next.new.self.number ≡ c.in-Some.number + 1 = c.in-Some.ensures.more ∙ sym (ap (λ n. n + 1) same) in
    let step = lines_read-ok cores c.loop-number.schedule.items c.push_line.new.schedule.items c.in-Some.number c.in-Some.line.now left c.in_ok-push_line.ensures in
    let whole = ap (λ n. joined (Ok c.loop-number.schedule.items) (lines_read cores n (c.in-Some.line.now ∷ left))) same
    ∙ (ap (λ l. joined (Ok c.loop-number.schedule.items) (lines_read cores c.loop-number.lines.number l)) (sym line) ∙ c.loop-number.invariant.same) in
    record {
      same = ap (λ n. joined (Ok c.push_line.new.schedule.items) (lines_read cores n left)) more ∙ (sym step ∙ whole);
      few = omega (arith, c.loop-number.invariant.few, ap length line, c.in-Some.ensures.more);
    }

pub returns : goal.returns
returns c =
    let cores = c.args.cores in
    sym c.loop-number.invariant.same
    ∙ (ap (λ l. joined (Ok c.loop-number.schedule.items) (lines_read cores c.loop-number.lines.number l)) c.in_default.ensures.none
    ∙ (lines_read-none cores c.loop-number.schedule.items c.loop-number.lines.number ∙ ap Ok (append-nil c.loop-number.schedule.items)))
