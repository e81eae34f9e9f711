use Rattle.std.proofs.Common.{◌≡◌, ◌-◌, drop, length, take, take_all, length-drop, sym, ◌∙◌, arith}
use Rattle.trace_text.proofs.Accesses.{begins_load, begins_store}
use Rattle.trace_text.proofs.entry.access_in.Goals as goal

pub returns-then-starts_with : goal.returns-then-starts_with
returns-then-starts_with c =
    let text = c.args.text.now in
    let whole : take (length text - 5) (drop 5 text) ≡ drop 5 text = take_all _ (drop 5 text) (omega (arith, length-drop 5 text)) in
    begins_load text _ (sym c.starts_with.ensures.value ∙ c.if-starts_with.true) whole

pub returns-then-starts_with-2 : goal.returns-then-starts_with-2
returns-then-starts_with-2 c =
    let text = c.args.text.now in
    let whole : take (length text - 6) (drop 6 text) ≡ drop 6 text = take_all _ (drop 6 text) (omega (arith, length-drop 6 text)) in
    begins_store text _ (sym c.starts_with-else-starts_with.ensures.value ∙ c.if-starts_with-2.true) whole
