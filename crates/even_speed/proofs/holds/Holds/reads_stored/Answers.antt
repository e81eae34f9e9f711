use Rattle.std.proofs.Common.{◌+◌, ◌&&◌, is_none, sym, ◌∙◌}
use Rattle.memory_bytes.specs.Shadow.{byte_in}
use Rattle.spec_history.proofs.Searches.Tests.{one_passes}
use Rattle.even_speed.specs.Held.{is_stored}
use Rattle.even_speed.specs.Holds.{holding_of}
use Rattle.even_speed.proofs.Finding.{none_more, none_yet}
use Rattle.even_speed.proofs.holds.Holds.reads_stored.Goals as goal

pub loop-i-init : goal.loop-i-init
loop-i-init c = none_yet _

pub returns-then-reads_byte : goal.returns-then-reads_byte
returns-then-reads_byte c =
    let h = holding_of c.args.self.now in
    sym (one_passes c.args.width (λ i. is_none (byte_in c.args.own.now.cells (c.args.addr + i)) && is_stored h c.args.homefree c.args.epoch (h.piece (c.args.addr + i))) c.loop-i.i c.loop-i-test.true
    (sym c.reads_byte.ensures ∙ c.if-reads_byte.true))

pub loop-i-preserved : goal.loop-i-preserved
loop-i-preserved c = none_more c.loop-i.i _ c.loop-i.invariant (sym c.reads_byte.ensures ∙ c.if-reads_byte.false)
