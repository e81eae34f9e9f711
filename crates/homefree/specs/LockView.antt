-- What a lock keeps of a book: the loop that it is of, which stays, and its history, which grows.
use Rattle.std.specs.Prelude.{ℕ, List, map}
use Rattle.spec_history.specs.declared.entry.Entry.{Entry}
use Rattle.spec_history.specs.declared.entry.What.{What}
use Rattle.homefree.specs.declared.book.Loop.{Loop}
use Rattle.homefree.specs.BookView.{BookView}

abbrev pub loop_of : {S : Type 0} → BookView S → Loop
loop_of b = record { image = b.image; cores = b.cores; room = b.room }

-- an entry as a pair of the core and what its turn did
abbrev pub pair_of : Entry → ℕ × What
pair_of e = (e.by, e.what)

abbrev pub past_of : List Entry → List (ℕ × What)
past_of history = map pair_of history

abbrev pub entry_of : ℕ × What → Entry
entry_of p = record { by = p.0; what = p.1 }

-- the history of which this is the past
abbrev pub history_of : List (ℕ × What) → List Entry
history_of past = map entry_of past
