-- What every row of the tables does beside the copy's bytes: who is exclusive, which marks stay, what is written to
-- memory, what the ownership required buffer lists.
use Rattle.std.specs.Prelude.{◌≡◌, ℕ, Bool, true, false, not, ◌&&◌, ◌||◌}
use Rattle.spec_states.specs.declared.line.LineState.{LineState}
use Rattle.spec_states.specs.declared.line.LineState.TheVariants.{I, S, E, M, SpS, SpE}
use Rattle.spec_states.specs.declared.line.Marks.{Marks}
use Rattle.spec_states.specs.declared.next.Next.{Next}
use Rattle.spec_states.specs.declared.next.Order.{Order}
use Rattle.spec_states.specs.declared.next.Order.TheVariants.{Earlier, Later}
use Rattle.spec_states.specs.Mask.{has, is_within}
use Rattle.spec_states.specs.States.{is_valid, is_exclusive, is_modified, is_speculative}
use Rattle.spec_states.specs.Tables.{is_written, marks_of, no_marks}

-- a publish has to ask for the line: it has speculatively modified bytes and other cores may hold it. Just these lines
-- stand in their owner's ownership required buffer
abbrev pub requires_ownership : LineState → Marks → Bool
requires_ownership I _ = false
requires_ownership S _ = false
requires_ownership E _ = false
requires_ownership M _ = false
requires_ownership SpS marks = is_written marks
requires_ownership SpE _ = false

-- the owner may store to the line and tell nobody: no other core holds it, or the others know of a store
abbrev pub owns_line : LineState → Marks → Bool
owns_line I _ = false
owns_line S _ = false
owns_line E _ = false
owns_line M _ = false
owns_line SpS marks = is_written marks
owns_line SpE _ = true

-- the copy's owner runs a later epoch
abbrev pub is_later : Order → Bool
is_later Earlier = false
is_later Later = true

-- the copy's owner has speculatively loaded the line
abbrev pub was_loaded : LineState → Marks → Bool
was_loaded state marks = is_speculative state && marks.loaded

-- what a message of another core leaves of a copy
pub record GivesWay (state : LineState) (marks : Marks) (next : Next) : Type 0 where
  -- it is not exclusive
  pub shared : is_exclusive next.state ≡ false
  -- it is not valid where it was not
  pub no_revival : is_valid next.state ≡ true → is_valid state ≡ true
  -- an unmarked copy stays unmarked
  pub unmarked : is_speculative state ≡ false → is_speculative next.state ≡ false
  -- a marked copy whose owner is not violated stays marked, with its marks
  pub stays_marked : next.violated ≡ false → is_speculative state ≡ true → is_speculative next.state ≡ true
  pub keeps_marks : next.violated ≡ false → next.marks ≡ marks_of state marks
  -- the copy of an owner who is violated goes
  pub goes : next.violated ≡ true → next.state ≡ I
  -- an M copy is written to memory, since it is M no longer
  pub writes_back : next.write_back ≡ is_modified state
  -- the line enters the buffer just as it comes to require ownership, and stays there
  pub enters : next.enters ≡ (requires_ownership next.state next.marks && not (requires_ownership state marks))
  pub stays_required : next.violated ≡ false → requires_ownership state marks ≡ true
      → requires_ownership next.state next.marks ≡ true

-- what its owner's speculative access leaves of a copy. `alone` says that no other copy remains
pub record TakesHold (state : LineState) (marks : Marks) (alone : Bool) (next : Next) : Type 0 where
  -- it is marked
  pub marked : is_speculative next.state ≡ true
  -- it is exclusive only where it was, or where no other copy remains
  pub exclusive : is_exclusive next.state ≡ true → (is_exclusive state || alone) ≡ true
  -- an M copy is written to memory first
  pub writes_back : next.write_back ≡ is_modified state
  -- nobody is violated
  pub violates_none : next.violated ≡ false
  -- the line enters the buffer just as it comes to require ownership, and stays there
  pub enters : next.enters ≡ (requires_ownership next.state next.marks && not (requires_ownership state marks))
  pub stays_required : requires_ownership state marks ≡ true → requires_ownership next.state next.marks ≡ true

-- what the violation of its owner's epoch leaves of a copy
pub record RollsBack (state : LineState) (next : Next) : Type 0 where
  pub unmarked : is_speculative next.state ≡ false
  pub clears_marks : next.marks ≡ no_marks
  -- it is valid, exclusive, M only where it was
  pub no_revival : is_valid next.state ≡ true → is_valid state ≡ true
  pub exclusive : is_exclusive next.state ≡ true → is_exclusive state ≡ true
  pub modified : is_modified next.state ≡ is_modified state
  -- nothing is written, and nothing enters a buffer
  pub writes_none : next.write_back ≡ false
  pub enters_none : next.enters ≡ false

-- what its owner's publish leaves of a copy. `alone` says that no other copy remains
pub record Settles (state : LineState) (marks : Marks) (alone : Bool) (next : Next) : Type 0 where
  pub unmarked : is_speculative next.state ≡ false
  pub clears_marks : next.marks ≡ no_marks
  -- it is valid where it was
  pub valid : is_valid next.state ≡ is_valid state
  -- it is exclusive only where it was, or where no other copy remains
  pub exclusive : is_exclusive next.state ≡ true → (is_exclusive state || alone) ≡ true
  -- where it had modified bytes, it is M now or it is written to memory
  pub carries_on : (is_speculative state && is_written marks) ≡ true
      → (is_modified next.state || next.write_back) ≡ true
  -- an M copy stays M
  pub modified : is_modified state ≡ true → is_modified next.state ≡ true
  -- nothing enters a buffer
  pub enters_none : next.enters ≡ false

-- a byte that was read and that the owner has not stored is one of a line that is marked as loaded
abbrev pub MarksRead : ℕ → ℕ → Next → Type 0
MarksRead offset width next =
    (x : ℕ) → is_within offset width x ≡ true → has next.marks.bytes x ≡ false → next.marks.loaded ≡ true
