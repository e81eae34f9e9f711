use Rattle.std.proofs.Common.{subst}
use Rattle.homefree.specs.Retraced.{IsRetraced}
use Rattle.homefree.proofs.book.Book.look_back.Goals as goal

pub returns : goal.returns
returns g c = subst (IsRetraced g.S.EpochStore.starts g.S.EpochStore.makes g.S.EpochStore.view g.S.EpochStore.waits) c.self.view_is c.self.invariant.1
