-- The numbers of entries are of 32 bits.
use Rattle.std.proofs.Common.{ℕ, ◌+◌, ◌<◌, ◌^◌, List, [], ◌∷◌, ◌++◌, length, get_or, take, sym, subst}
use Rattle.std.proofs.lemmas.List.{take_more}
use Rattle.spec_history.specs.declared.entry.Entry.{Entry}
use Rattle.trace_text.specs.Laws.{IsWhat, AreEntries}

one_more : (entries : List Entry) (entry : Entry) → AreEntries entries → entry.by < 2 ^ 32 → IsWhat entry.what → AreEntries (entries ++ entry ∷ [])
one_more [] entry are by what = (by, what, tt)
one_more (first ∷ rest) entry are by what = (are.0, are.1, one_more rest entry are.2 by what)

-- of one entry more
pub numbers_more : (entries : List Entry) (i : ℕ) (d : Entry) → i < length entries → AreEntries (take i entries) → (get_or entries i d).by < 2 ^ 32
    → IsWhat (get_or entries i d).what → AreEntries (take (i + 1) entries)
numbers_more entries i d below are by what =
    subst AreEntries (sym (take_more entries i d below)) (one_more (take i entries) (get_or entries i d) are by what)
