-- What a turn at the book's parts did: what the register noted of it, and what its calls made of the store.
use Rattle.std.specs.Prelude.{ℕ, Option}
use Rattle.rv32_exec.specs.Arrival.{Arrival}
use Rattle.run_ledger.specs.declared.counts.Counts.{Counts}
use Rattle.violations.specs.View.{StoreView, Waits}
use Rattle.homefree.specs.declared.answer.Came.{Came}
use Rattle.homefree.specs.declared.parts.Parts.{Parts}
use Rattle.homefree.specs.Acted.{Acted}
use Rattle.homefree.specs.Came.{answer_of}

-- the turn is acted, and came to this, while its calls made the one store of the other
abbrev pub Takes : {S : Type 0} → (S → StoreView) → (S → Waits) → Parts S → Parts S → Counts → Counts → ℕ → Option Arrival → Came → (S → S → Type 0) → Type 0
Takes view waits old new shares shares' core next came makes =
    Acted old.register new.register (waits old.store) (view old.store) (view new.store) shares shares' core next (answer_of new.register.running.items core came)
    × makes old.store new.store
