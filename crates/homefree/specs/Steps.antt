-- What the methods of the book's register do: they note entries, and follow the flat machine.
use Rattle.std.specs.Prelude.{◌≡◌, ◌≤◌, ◌+◌, ◌++◌, List, length, Some, vec_len, vec_capacity}
use Rattle.rv32_image.specs.Image.{IsImage}
use Rattle.run_ledger.specs.declared.counts.Counts.{Counts}
use Rattle.run_ledger.specs.Counts.{sum_of}
use Rattle.spec_history.specs.declared.entry.Entry.{Entry}
use Rattle.spec_history.specs.FlatState.{FlatState}
use Rattle.spec_history.specs.Replay.{replay_from}
use Rattle.spec_history.specs.View.{IsReached}
use Rattle.homefree.specs.declared.register.Register.{Register}
use Rattle.homefree.specs.Counted.{counted_in}
use Rattle.homefree.specs.Kept.{Shows}

-- the history has these entries more, which are counted in the totals and in the shares; where the fields were those of a
-- state, they are those of the state to which the entries lead from there
pub record Steps (old new : Register) (shares shares' : Counts) (entries : List Entry) : Type 0 where
  pub image : new.image ≡ old.image
  pub cores : length new.running.items ≡ length old.running.items
  pub history : new.history.items ≡ old.history.items ++ entries
  pub totals : new.totals ≡ sum_of old.totals (counted_in entries)
  pub held : shares' ≡ sum_of shares (counted_in entries)
  pub room : vec_capacity old.history ≤ vec_capacity new.history
  pub used : vec_len new.history ≡ vec_len old.history + length entries
  pub follows : (s t : FlatState) → IsImage old.image → IsReached old.image (length old.running.items) s → Shows old s
      → replay_from old.image (length old.running.items) s entries ≡ Some t → Shows new t
