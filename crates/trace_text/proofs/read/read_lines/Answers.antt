use Rattle.std.proofs.Common.{◌≡◌, ◌+◌, ◌∷◌, drop, length, ap, sym, ◌∙◌, Ok, arith}
use Rattle.std.proofs.lemmas.List.{append-nil}
use Rattle.std.proofs.lemmas.Result.{err_from_is_err_and}
use Rattle.rv32_image.specs.Cutting.{pieces_after}
use Rattle.trace_text.specs.TraceText.{joined, lines_read}
use Rattle.trace_text.specs.Front.{below, first_line}
use Rattle.trace_text.proofs.FirstWords.{lines}
use Rattle.trace_text.proofs.Lines.{fault_of_line, lines_read-none, lines_read-ok, onto_none}
use Rattle.trace_text.proofs.read.read_lines.Goals as goal

pub loop-number-init : goal.loop-number-init
loop-number-init c = record {
  same = rw c.new-entries.ensures.items (onto_none (lines_read c.args.lines.number (pieces_after 10 c.args.lines.rest)));
  few = c.requires;
}

pub pass-requires-clause-below : goal.pass-requires-clause-below
pass-requires-clause-below c = c.in_ok-rest.ensures.below ∙ sym (ap (drop 1) (ap (pieces_after 10) c.in-Some.ensures.text ∙ lines c.in-Some.text.now))

pub pass-requires-clause-number : goal.pass-requires-clause-number
pass-requires-clause-number c = omega (arith, c.loop-number.invariant.few, ap length (ap (pieces_after 10) c.in-Some.ensures.text ∙ lines c.in-Some.text.now))

pub loop-number-smaller : goal.loop-number-smaller
loop-number-smaller c =
    omega (arith, ap length (ap (pieces_after 10) c.in-Some.ensures.text ∙ lines c.in-Some.text.now), ap length c.in_ok-rest.ensures.below, ap length (ap (pieces_after 10) c.pass.ensures.rest))

pub returns-in_err-rest : goal.returns-in_err-rest
returns-in_err-rest c =
    let text = c.in-Some.text.now in
    let old = c.loop-number.entries.items in
    let cut : pieces_after 10 c.loop-number.lines.rest ≡ first_line text ∷ below text = ap (pieces_after 10) c.in-Some.ensures.text ∙ lines text in
    let whole = ap (λ n. joined (Ok old) (lines_read n (first_line text ∷ below text))) c.in-Some.ensures.number
    ∙ (ap (λ l. joined (Ok old) (lines_read c.loop-number.lines.number l)) (sym cut) ∙ c.loop-number.invariant.same) in
    let p = err_from_is_err_and c.from_residual.result c.from_residual.ensures.1 in
    rw (p.1, p.2) (fault_of_line _ _ old c.in-Some.number (first_line text) (below text) _ whole c.in_err-rest.ensures.reads)

pub loop-number-preserved : goal.loop-number-preserved
loop-number-preserved c =
    let text = c.in-Some.text.now in
    let old = c.loop-number.entries.items in
    let new = c.push_line.new.entries.items in
    let cut : pieces_after 10 c.loop-number.lines.rest ≡ first_line text ∷ below text = ap (pieces_after 10) c.in-Some.ensures.text ∙ lines text in
    let left : pieces_after 10 c.pass.new.self.rest ≡ below text = ap (pieces_after 10) c.pass.ensures.rest ∙ c.in_ok-rest.ensures.below in
    let more : c.pass.new.self.number ≡ c.in-Some.number + 1 = c.pass.ensures.number ∙ sym (ap (λ n. n + 1) c.in-Some.ensures.number) in
    let step = lines_read-ok old new c.in-Some.number (first_line text) (below text) c.in_ok-rest.ensures.reads in
    let whole = ap (λ n. joined (Ok old) (lines_read n (first_line text ∷ below text))) c.in-Some.ensures.number
    ∙ (ap (λ l. joined (Ok old) (lines_read c.loop-number.lines.number l)) (sym cut) ∙ c.loop-number.invariant.same) in
    record {
      same = ap (λ n. joined (Ok new) (lines_read n (pieces_after 10 c.pass.new.self.rest))) more
          ∙ (ap (λ l. joined (Ok new) (lines_read (c.in-Some.number + 1) l)) left ∙ (sym step ∙ whole));
      few = omega (arith, c.loop-number.invariant.few, ap length cut, ap length left, c.pass.ensures.number);
    }

pub returns : goal.returns
returns c =
    sym c.loop-number.invariant.same
    ∙ (ap (λ r. joined (Ok c.loop-number.entries.items) (lines_read c.loop-number.lines.number (pieces_after 10 r))) c.in_default.ensures.none
    ∙ (lines_read-none c.loop-number.entries.items c.loop-number.lines.number ∙ ap Ok (append-nil c.loop-number.entries.items)))
