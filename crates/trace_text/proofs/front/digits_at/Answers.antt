use Rattle.std.proofs.Common.{◌≡◌, ◌-◌, sym, ◌∙◌, length, take, drop, take_all, length-drop, arith}
use Rattle.trace_text.proofs.EightDigits.{just_eight, no_digits, too_long, too_short}
use Rattle.trace_text.proofs.front.digits_at.Goals as goal

pub returns-then-text-lt8 : goal.returns-then-text-lt8
returns-then-text-lt8 c = too_short c.args.text.now c.if-text-lt8.true

pub returns-in_err-n : goal.returns-in_err-n
returns-in_err-n c = rw c.from_residual.ensures (no_digits c.args.text.now (sym c.in_err-n.ensures))

pub returns-then-is_end : goal.returns-then-is_end
returns-then-is_end c =
    let text = c.args.text.now in
    let whole : take (length text - 8) (drop 8 text) ≡ drop 8 text = take_all _ (drop 8 text) (omega (arith, length-drop 8 text)) in
    just_eight text _ c.in_ok-n.n whole (sym c.in_ok-n.ensures) (sym c.is_end.ensures ∙ c.if-is_end.true)

pub returns-else-is_end : goal.returns-else-is_end
returns-else-is_end c =
    let text = c.args.text.now in
    let whole : take (length text - 8) (drop 8 text) ≡ drop 8 text = take_all _ (drop 8 text) (omega (arith, length-drop 8 text)) in
    too_long text _ c.in_ok-n.n whole (sym c.in_ok-n.ensures) (sym c.is_end.ensures ∙ c.if-is_end.false)
