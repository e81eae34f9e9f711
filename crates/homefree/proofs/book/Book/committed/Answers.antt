use Rattle.std.proofs.Common.{rules}
use Rattle.homefree.proofs.book.Book.committed.Goals as goal

pub returns-then-addr-size : goal.returns-then-addr-size
returns-then-addr-size g c = search rules
