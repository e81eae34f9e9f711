use Rattle.std.proofs.Common.{◌≡◌, sym, arith, ◌∙◌}
use Rattle.rv32_exec.specs.declared.stop.Stop.TheVariants as stop
use Rattle.rv32_exec.specs.Execute.{IsAccess}
use Rattle.rv32_exec.specs.NextEvent.{next_event}
use Rattle.rv32_exec.proofs.Accesses.{stop_of_event}
use Rattle.even_speed.proofs.run.waits_at.Goals as goal

pub reads_stored-requires : goal.reads_stored-requires
reads_stored-requires c =
    let image = c.args.image.now in
    let h = c.args.arrived.now.base in
    let is : (next_event image h).at ≡ stop.Load c.in-Load.addr c.in-Load.width c.in-Load.signed c.in-Load.rd = sym c.requires.1 ∙ (sym c.at.ensures.at ∙ c.in-Load.is) in
    let access : IsAccess image (next_event image h).now c.in-Load.addr c.in-Load.width = rw is at (stop_of_event image h) in
    let within = access.within in omega (arith, within, c.size.ensures.limits.size_most)
