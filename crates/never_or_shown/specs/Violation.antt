-- That a history has a violation, or none behind a place.
-- Source: this project.
use Rattle.std.specs.Prelude.{◌≡◌, ℕ, ◌≤◌, true, false, List, Some, slice_get}
use Rattle.spec_history.specs.declared.entry.Entry.{Entry}
use Rattle.spec_history.specs.Conflict.{is_hurt}

-- one of its entries violates an epoch
pub record HasViolation (history : List Entry) : Type 0 where
  pub place : ℕ
  pub entry : Entry
  pub at : slice_get history place ≡ Some entry
  pub violates : is_hurt entry.what ≡ true

-- none does at this place or behind it
abbrev pub IsCalmFrom : List Entry → ℕ → Type 0
IsCalmFrom history from = (place : ℕ) (entry : Entry) → from ≤ place → slice_get history place ≡ Some entry → is_hurt entry.what ≡ false
