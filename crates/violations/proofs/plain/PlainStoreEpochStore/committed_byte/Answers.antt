use Rattle.std.proofs.Common.{◌<◌, length, sym, subst}
use Rattle.std.proofs.lemmas.List.{get_or_read}
use Rattle.violations.proofs.plain.PlainStoreEpochStore.committed_byte.Goals as goal

pub returns : goal.returns
returns c =
    let within = subst (λ v. c.args.addr < length v.committed) (sym c.self.view_is) c.requires in
    rw (← c.self.view_is) (get_or_read c.self.inside.committed.items c.args.addr c.index.result.now within c.index.ensures 0)
