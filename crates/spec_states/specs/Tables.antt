-- What becomes of a copy of a line: the transitions of the protocol, one table per event with a row per case.
use Rattle.std.specs.Prelude.{ℕ, Bool, true, false, not, ◌||◌, ◌==◌, if◌then◌else◌}
use Rattle.spec_states.specs.declared.line.LineState.{LineState}
use Rattle.spec_states.specs.declared.line.LineState.TheVariants.{I, S, E, M, SpS, SpE}
use Rattle.spec_states.specs.declared.line.Marks.{Marks}
use Rattle.spec_states.specs.declared.next.Next.{Next}
use Rattle.spec_states.specs.declared.next.Order.{Order}
use Rattle.spec_states.specs.declared.next.Order.TheVariants.{Earlier, Later}
use Rattle.spec_states.specs.States.{is_speculative}
use Rattle.spec_states.specs.Mask.{has_all, with_bytes}

-- ---- the cells of the tables

-- the state afterwards, and what comes with it
pub record Change : Type 0 where
  pub state : LineState
  -- the line is written to memory
  pub write_back : Bool
  -- the line enters its owner's ownership required buffer
  pub enters : Bool
  -- its owner's epoch is violated
  pub violated : Bool

abbrev pub to : LineState → Change
to state = record { state = state; write_back = false; enters = false; violated = false }

abbrev pub to_with_write_back : LineState → Change
to_with_write_back state = record { state = state; write_back = true; enters = false; violated = false }

abbrev pub to_with_entry : LineState → Change
to_with_entry state = record { state = state; write_back = false; enters = true; violated = false }

abbrev pub to_with_both : LineState → Change
to_with_both state = record { state = state; write_back = true; enters = true; violated = false }

abbrev pub to_violation : Change
to_violation = record { state = I; write_back = false; enters = false; violated = true }

-- ---- the tables: a row for each state and for what else decides. "Loaded" and "modified" are the marks that the copy
-- carries: the line was speculatively loaded, some of its bytes were speculatively modified. "Alone" says that no other
-- copy remains after the transaction.

-- a core's own speculative load. Columns: state, alone
abbrev pub own_load_table : LineState → Bool → Change
own_load_table I true = to SpE
own_load_table I false = to SpS
own_load_table S _ = to SpS
own_load_table E _ = to SpE
own_load_table M _ = to_with_write_back SpE
own_load_table SpS _ = to SpS
own_load_table SpE _ = to SpE

-- a core's own speculative store. Columns: state, modified before, alone
abbrev pub own_store_table : LineState → Bool → Bool → Change
own_store_table I _ true = to SpE
own_store_table I _ false = to_with_entry SpS
own_store_table S _ true = to SpE
own_store_table S _ false = to_with_entry SpS
own_store_table E _ true = to SpE
own_store_table E _ false = to_with_entry SpS
own_store_table M _ true = to_with_write_back SpE
own_store_table M _ false = to_with_both SpS
own_store_table SpS true _ = to SpS
own_store_table SpS false true = to SpE
own_store_table SpS false false = to_with_entry SpS
own_store_table SpE _ _ = to SpE

-- what a message of another core makes of a copy. A publish and a store of an epoch that has published are straight:
-- they go to committed memory
pub record ByMessage : Type 0 where
  pub load : Change
  -- a speculative store, where the copy's owner runs an earlier epoch
  pub store_earlier : Change
  -- a speculative store, where the copy's owner runs a later epoch
  pub store_later : Change
  pub publish : Change

abbrev pub row : Change → Change → Change → Change → ByMessage
row load store_earlier store_later publish =
    record { load = load; store_earlier = store_earlier; store_later = store_later; publish = publish }

-- a copy that another core's message reaches. Columns: state, loaded, modified; then what a load makes of it, a
-- speculative store where its owner is earlier, a speculative store where its owner is later, a publish or straight store
abbrev pub others_table : LineState → Bool → Bool → ByMessage
others_table I _ _ = row (to I) (to I) (to I) (to I)
others_table S _ _ = row (to S) (to I) (to I) (to I)
others_table E _ _ = row (to S) (to I) (to I) (to I)
others_table M _ _ = row (to_with_write_back S) (to_with_write_back I) (to_with_write_back I) (to_with_write_back I)
others_table SpS true _ = row (to SpS) (to SpS) to_violation to_violation
others_table SpS false _ = row (to SpS) (to SpS) (to SpS) (to SpS)
others_table SpE true false = row (to SpS) (to SpS) to_violation to_violation
others_table SpE true true = row (to_with_entry SpS) (to_with_entry SpS) to_violation to_violation
others_table SpE false _ = row (to_with_entry SpS) (to_with_entry SpS) (to_with_entry SpS) (to_with_entry SpS)

-- the copies of a core whose epoch is violated. Columns: state, modified
abbrev pub violation_table : LineState → Bool → Change
violation_table I _ = to I
violation_table S _ = to S
violation_table E _ = to E
violation_table M _ = to M
violation_table SpS true = to I
violation_table SpS false = to S
violation_table SpE true = to I
violation_table SpE false = to E

-- the copies of a core that publishes. Columns: state, modified, alone
abbrev pub settlement_table : LineState → Bool → Bool → Change
settlement_table I _ _ = to I
settlement_table S _ _ = to S
settlement_table E _ _ = to E
settlement_table M _ _ = to M
settlement_table SpS true true = to M
settlement_table SpS true false = to_with_write_back S
settlement_table SpS false _ = to S
settlement_table SpE true _ = to M
settlement_table SpE false _ = to E

-- ---- what the calls answer

abbrev pub no_marks : Marks
no_marks = record { loaded = false; bytes = 0 }

-- the marks that a copy carries: SpS and SpE alone have any
abbrev pub marks_of : LineState → Marks → Marks
marks_of state marks = if is_speculative state then marks else no_marks

-- some byte is speculatively modified
abbrev pub is_written : Marks → Bool
is_written marks = not (marks.bytes == 0)

-- a change of the state, with the marks that the copy would carry as SpS or SpE
abbrev pub next : Change → Marks → Next
next change marks =
    record {
      state = change.state;
      marks = marks_of change.state marks;
      write_back = change.write_back;
      enters = change.enters;
      violated = change.violated;
    }

-- the marks after a load of `width` bytes: it marks the line unless each of them is in the own mask
abbrev pub marks_after_load : Marks → ℕ → ℕ → Marks
marks_after_load marks offset width =
    record marks { loaded = marks.loaded || not (has_all marks.bytes offset width) }

-- the marks after a store of `width` bytes: it puts just these into the mask
abbrev pub marks_after_store : Marks → ℕ → ℕ → Marks
marks_after_store marks offset width = record marks { bytes = with_bytes marks.bytes offset width }

abbrev pub own_load : LineState → Marks → ℕ → ℕ → Bool → Next
own_load state marks offset width alone =
    next (own_load_table state alone) (marks_after_load (marks_of state marks) offset width)

abbrev pub own_store : LineState → Marks → ℕ → ℕ → Bool → Next
own_store state marks offset width alone =
    next (own_store_table state (is_written (marks_of state marks)) alone)
    (marks_after_store (marks_of state marks) offset width)

abbrev pub by_message : LineState → Marks → ByMessage
by_message state marks = others_table state marks.loaded (is_written marks)

abbrev pub other_load : LineState → Marks → Next
other_load state marks = next (by_message state marks).load marks

abbrev pub other_store : LineState → Marks → Order → Next
other_store state marks Earlier = next (by_message state marks).store_earlier marks
other_store state marks Later = next (by_message state marks).store_later marks

abbrev pub other_publish : LineState → Marks → Next
other_publish state marks = next (by_message state marks).publish marks

abbrev pub violation : LineState → Marks → Next
violation state marks = next (violation_table state (is_written marks)) no_marks

abbrev pub settlement : LineState → Marks → Bool → Next
settlement state marks alone = next (settlement_table state (is_written marks) alone) no_marks
