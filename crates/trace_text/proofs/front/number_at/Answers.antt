use Rattle.std.proofs.Common.{◌≡◌, ◌-◌, drop, length, take, take_all, length-drop, sym, ◌∙◌, arith}
use Rattle.trace_text.proofs.OneDigit.{one_digit}
use Rattle.trace_text.proofs.front.number_at.Goals as goal

pub returns-then-is_one_digit : goal.returns-then-is_one_digit
returns-then-is_one_digit c =
    let text = c.args.text.now in
    let whole : take (length text - 1) (drop 1 text) ≡ drop 1 text = take_all _ (drop 1 text) (omega (arith, length-drop 1 text)) in
    one_digit text _ c.from.result (sym c.is_one_digit.ensures ∙ c.if-is_one_digit.true) c.from.ensures whole
