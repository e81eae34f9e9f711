use Rattle.std.proofs.Common.{refl, sym, ◌∙◌, inl, inr}
use Rattle.depends.proofs.OnMachines.{seen_on}
use Rattle.depends.proofs.lines.push_store.Goals.{then-asks_nothing, else-asks_nothing}
use Rattle.depends.proofs.lines.push_store.Goals as goal

pub line_of-requires : goal.line_of-requires
line_of-requires c = record {
  seen = rw c.count.ensures.value
      (seen_on c.args.image.now c.in_ok-store.on_machine c.in_ok-store.store c.args.cores c.args.seen _ c.in_ok-store.ensures.image c.requires.seen refl (elim c.if-asks_nothing.branch [
        | then-asks_nothing w ↦ inl (w.over_caches-is, sym c.asked.ensures ∙ c.asks_nothing.ensures w.if-asks_nothing.true)
        | else-asks_nothing w ↦ inr w.over_caches-is
      ]));
}
