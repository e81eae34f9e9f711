use Rattle.std.proofs.Common.{◌≡◌, ◌/◌, ◌%◌, ◌||◌, sym, ap, ◌∙◌, arith, true≢false}
use Rattle.std.proofs.lemmas.Result.{on_ok_weaker}
use Rattle.rv32_image.specs.Places.{place}
use Rattle.spec_states.specs.Mask.{has}
use Rattle.spec_states.proofs.MaskLaws.{has-zero}
use Rattle.turn_steps.specs.Caches.{is_of_five}
use Rattle.turn_steps.proofs.BusRows.{has_five}
use Rattle.turn_steps.proofs.Near.{in_first_rows}
use Rattle.turn_steps.proofs.caches.push_own_rows_of.Goals as goal

-- a line without stored bytes has none of them
pub returns-then-line-eq0-clause-own : goal.returns-then-line-eq0-clause-own
returns-then-line-eq0-clause-own c = λ a inside lies stored.
    let x = place c.args.layout.machine c.args.layout.size a % c.args.layout.machine.line_length in
    let none : c.args.line.now.marks.bytes ≡ 0 = omega (arith, c.if-line-eq0.true) in
    absurd (true≢false (sym stored ∙ (ap (λ bytes. has bytes x) none ∙ has-zero x)))

pub returns-clause-kept : goal.returns-clause-kept
returns-clause-kept c = on_ok_weaker c.push_five_rows.result (λ adds row there. adds row ∙ ap (λ b. b || is_of_five c.first_row.result row) there) c.push_five_rows.ensures

pub returns-clause-own : goal.returns-clause-own
returns-clause-own c =
    on_ok_weaker c.push_five_rows.result
    (λ adds a inside lies stored.
    let found = in_first_rows c.args.layout.machine c.args.layout.size c.args.line.now.addr c.args.layout.allowed a inside lies in
    let row = c.first_row.ensures.row in
    has_five c.args.rows.now c.push_five_rows.new.rows c.first_row.result (a / 16) adds (omega (arith, found.0, row)) (omega (arith, found.1, row)))
    c.push_five_rows.ensures
