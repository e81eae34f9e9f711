use Rattle.std.proofs.Common.{slice_index, is_some, sym, ap, ◌∙◌, rules}
use Rattle.violations.proofs.core_state.CoreState.guards_any.Goals as goal

pub returns-then-is_some-2-clause-found : goal.returns-then-is_some-2-clause-found
returns-then-is_some-2-clause-found c found = record {
  runs = search rules;
  at = slice_index c.touched-addr-items.result.now c.loop-addr.addr-index;
  byte = ap is_some (sym c.get.ensures) ∙ (sym c.is_some.ensures ∙ c.if-is_some.true);
  guarded = ap is_some (sym c.get-then-is_some.ensures) ∙ (sym c.is_some-then-is_some.ensures ∙ c.if-is_some-2.true);
}
