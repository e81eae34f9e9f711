use Rattle.std.proofs.Common.{◌≡◌, ◌∷◌, ◌+◌, length, ap, sym, ◌∙◌, arith}
use Rattle.std.proofs.lemmas.Result.{err_from_is_err_and}
use Rattle.rv32_image.specs.ImageText.{lines_read, pieces}
use Rattle.rv32_image.specs.Cutting.{pieces_after}
use Rattle.rv32_image.proofs.Lines.{lines_read-ok, lines_read-none, fault_of_line, few_lines}
use Rattle.rv32_image.proofs.text.read_lines.Goals as goal

pub loop-number-init : goal.loop-number-init
loop-number-init c =
    let text = c.args.text.now in
    let draft = c.blank-draft.result in
    let all : pieces_after 10 c.of-lines.result.rest ≡ pieces 10 text = ap (pieces_after 10) c.of-lines.ensures.rest in
    record {
      same = ap (λ n. lines_read n draft (pieces_after 10 c.of-lines.result.rest)) c.of-lines.ensures.number
          ∙ (ap (lines_read 1 draft) all ∙ ap (λ d. lines_read 1 d (pieces 10 text)) c.blank-draft.ensures);
      few = omega (arith, c.of-lines.ensures.number, ap length all, few_lines text, c.requires);
    }

pub loop-number-preserved : goal.loop-number-preserved
loop-number-preserved c =
    let line = c.in-Some.ensures.line in
    let same = c.in-Some.ensures.number in
    let left = pieces_after 10 c.next.new.self.rest in
    let more : c.next.new.self.number ≡ c.in-Some.number + 1 = c.in-Some.ensures.more ∙ sym (ap (λ n. n + 1) same) in
    let step = lines_read-ok c.in-Some.number c.loop-number.draft c.read_numbered.new.draft c.in-Some.line.now left c.in_ok-read_numbered.ensures in
    let whole = ap (λ n. lines_read n c.loop-number.draft (c.in-Some.line.now ∷ left)) same ∙ (ap (lines_read c.loop-number.lines.number c.loop-number.draft) (sym line) ∙ c.loop-number.invariant.same) in
    record {
      same = ap (λ n. lines_read n c.read_numbered.new.draft left) more ∙ (sym step ∙ whole);
      few = omega (arith, c.loop-number.invariant.few, ap length line, c.in-Some.ensures.more);
    }

pub returns-in_err-read_numbered : goal.returns-in_err-read_numbered
returns-in_err-read_numbered c =
    let line = c.in-Some.ensures.line in
    let left = pieces_after 10 c.next.new.self.rest in
    let whole = ap (λ n. lines_read n c.loop-number.draft (c.in-Some.line.now ∷ left)) c.in-Some.ensures.number ∙ (ap (lines_read c.loop-number.lines.number c.loop-number.draft) (sym line) ∙ c.loop-number.invariant.same) in
    let p = err_from_is_err_and c.from_residual.result c.from_residual.ensures.1 in
    rw (p.1, p.2) (fault_of_line _ _ c.in-Some.number c.loop-number.draft c.in-Some.line.now left _ whole c.in_err-read_numbered.ensures)

pub returns : goal.returns
returns c =
    sym c.loop-number.invariant.same ∙ (ap (lines_read c.loop-number.lines.number c.loop-number.draft) c.in_default.ensures.none ∙ lines_read-none c.loop-number.lines.number c.loop-number.draft)
