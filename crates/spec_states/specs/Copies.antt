-- A core's copy of one line beside the committed line.
use Rattle.std.specs.Prelude.{◌≡◌, ◌≢◌, ℕ, true, false, if◌then◌else◌}
use Rattle.spec_states.specs.declared.line.LineState.{LineState}
use Rattle.spec_states.specs.declared.line.LineState.TheVariants.{I}
use Rattle.spec_states.specs.declared.line.Marks.{Marks}
use Rattle.spec_states.specs.declared.next.Next.{Next}
use Rattle.spec_states.specs.States.{is_valid, is_speculative}
use Rattle.spec_states.specs.Tables.{no_marks}
use Rattle.spec_states.specs.Mask.{has}

-- a core's copy of a line: its state, its marks, and the byte at each offset
pub record LineCopy : Type 0 where
  pub state : LineState
  pub marks : Marks
  pub cell : ℕ → ℕ

-- the copy of these
abbrev pub copy_of : LineState → Marks → (ℕ → ℕ) → LineCopy
copy_of state marks cell = record { state = state; marks = marks; cell = cell }

-- no copy
abbrev pub no_copy : LineCopy
no_copy = copy_of I no_marks (λ _. 0)

-- the copy is marked: speculatively loaded, or speculatively modified, or both
abbrev pub IsMarked : Marks → Type 0
IsMarked marks = marks.loaded ≡ false → marks.bytes ≢ 0

-- the copy is up to date with the committed line: SpS and SpE are just the states of marked copies, and a valid copy
-- has the committed byte at each offset outside its mask
pub record IsUpToDate (copy : LineCopy) (committed : ℕ → ℕ) : Type 0 where
  pub not_loaded : is_speculative copy.state ≡ false → copy.marks.loaded ≡ false
  pub not_modified : is_speculative copy.state ≡ false → copy.marks.bytes ≡ 0
  pub marked : is_speculative copy.state ≡ true → IsMarked copy.marks
  pub agrees : (x : ℕ) → is_valid copy.state ≡ true → has copy.marks.bytes x ≡ false → copy.cell x ≡ committed x

-- the bytes of the mask from the cells, the others from the line: what a core sees of a line, what its publish makes of
-- the committed line, and a copy that a publish of another core refreshes
abbrev pub merged_line : ℕ → (ℕ → ℕ) → (ℕ → ℕ) → ℕ → ℕ
merged_line bytes cell line x = if has bytes x then cell x else line x

-- the change keeps the copy up to date with a committed line that stays
abbrev pub KeepsUpToDate : LineState → Marks → Next → Type 0
KeepsUpToDate state marks next =
    (cell committed : ℕ → ℕ) → IsUpToDate (copy_of state marks cell) committed
    → IsUpToDate (copy_of next.state next.marks cell) committed

-- a copy that is filled with the committed line is up to date
abbrev pub FilledIsUpToDate : Next → Type 0
FilledIsUpToDate next = (committed : ℕ → ℕ) → IsUpToDate (copy_of next.state next.marks committed) committed

-- the change keeps the copy up to date where the cells change inside the new mask alone
abbrev pub KeepsUpToDateAtStore : LineState → Marks → Next → Type 0
KeepsUpToDateAtStore state marks next =
    (cell stored committed : ℕ → ℕ) → IsUpToDate (copy_of state marks cell) committed
    → ((x : ℕ) → has next.marks.bytes x ≡ false → stored x ≡ cell x)
    → IsUpToDate (copy_of next.state next.marks stored) committed

-- the same of a copy that is filled with the committed line and then stored to
abbrev pub StoredIsUpToDate : Next → Type 0
StoredIsUpToDate next =
    (stored committed : ℕ → ℕ) → ((x : ℕ) → has next.marks.bytes x ≡ false → stored x ≡ committed x)
    → IsUpToDate (copy_of next.state next.marks stored) committed

-- the change, and a refresh of the cells, keep the copy up to date with the line that another core published
abbrev pub FollowsPublish : LineState → Marks → Next → Type 0
FollowsPublish state marks next =
    (cell committed published : ℕ → ℕ) → IsUpToDate (copy_of state marks cell) committed
    → IsUpToDate (copy_of next.state next.marks (merged_line next.marks.bytes cell published)) published

-- the change keeps the copy up to date with the line as the owner's own publish leaves it
abbrev pub Publishes : LineState → Marks → Next → Type 0
Publishes state marks next =
    (cell committed : ℕ → ℕ) → IsUpToDate (copy_of state marks cell) committed
    → IsUpToDate (copy_of next.state next.marks cell) (merged_line marks.bytes cell committed)
