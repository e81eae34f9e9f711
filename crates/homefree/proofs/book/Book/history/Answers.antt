use Rattle.std.proofs.Common.{rules}
use Rattle.homefree.proofs.book.Book.history.Goals as goal

pub returns : goal.returns
returns g c = search rules
