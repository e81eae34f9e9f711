-- What the rows of the tables do beside the bytes of a copy.
use Rattle.std.proofs.Common.{◌≡◌, ◌≢◌, ℕ, ◌==◌, ◌&&◌, Bool, true, false, not, refl, arith}
use Rattle.std.proofs.lemmas.Bool.Decides.{nat_tests}
use Rattle.spec_states.specs.declared.line.LineState.{LineState}
use Rattle.spec_states.specs.declared.line.LineState.TheVariants.{I, S, E, M, SpS, SpE}
use Rattle.spec_states.specs.declared.line.Marks.{Marks}
use Rattle.spec_states.specs.declared.next.Order.{Order}
use Rattle.spec_states.specs.declared.next.Order.TheVariants.{Earlier, Later}
use Rattle.spec_states.specs.Copies.{IsMarked}
use Rattle.memory_bytes.specs.Bytes.{IsWidth}
use Rattle.spec_states.specs.Mask.{with_bytes}
use Rattle.spec_states.specs.States.{is_valid, is_exclusive, is_modified, is_speculative}
use Rattle.spec_states.specs.Tables
use Rattle.spec_states.specs.Rows.{owns_line, is_later, was_loaded, GivesWay, TakesHold, RollsBack, Settles}
use Rattle.spec_states.proofs.MaskLaws.{with_bytes-nonzero, width-bounds}

-- ---- whether a line enters the buffer

-- a line that is in the buffer, or not, stays so
stays : (b : Bool) → false ≡ (b && not b)
stays true = refl
stays false = refl

-- a line that comes to require ownership
comes : (b : Bool) → b ≡ true → true ≡ (b && true)
comes b e = rw e refl

-- a line whose mask is empty
empty : (b : Bool) → b ≡ false → false ≡ (b && true)
empty b e = rw e refl

pub nonzero : (n : ℕ) → n ≢ 0 → not (n == 0) ≡ true
nonzero n h = grind (arith, nat_tests)

-- a marked copy that was not loaded is modified
modified : (state : LineState) (marks : Marks) → (is_speculative state ≡ true → IsMarked marks)
    → is_speculative state ≡ true → marks.loaded ≡ false → Tables.is_written marks ≡ true
modified state marks marked speculative e = nonzero marks.bytes (marked speculative e)

-- ---- the messages of other cores

load_row : (s : LineState) (l m : Bool) (marks : Marks) → Tables.is_written marks ≡ m
    → (marks.loaded ≡ false → is_speculative s ≡ true → Tables.is_written marks ≡ true) → marks.loaded ≡ l
    → GivesWay s marks (Tables.next (Tables.others_table s l m).load marks)
load_row I l m marks e marked el = record { shared = refl; no_revival = λ v. v; unmarked = λ v. refl; stays_marked = λ v w. cc; keeps_marks = λ v. refl; goes = λ v. cc; writes_back = refl; enters = refl; stays_required = λ v r. cc }
load_row S l m marks e marked el = record { shared = refl; no_revival = λ v. refl; unmarked = λ v. refl; stays_marked = λ v w. cc; keeps_marks = λ v. refl; goes = λ v. cc; writes_back = refl; enters = refl; stays_required = λ v r. cc }
load_row E l m marks e marked el = record { shared = refl; no_revival = λ v. refl; unmarked = λ v. refl; stays_marked = λ v w. cc; keeps_marks = λ v. refl; goes = λ v. cc; writes_back = refl; enters = refl; stays_required = λ v r. cc }
load_row M l m marks e marked el = record { shared = refl; no_revival = λ v. refl; unmarked = λ v. refl; stays_marked = λ v w. cc; keeps_marks = λ v. refl; goes = λ v. cc; writes_back = refl; enters = refl; stays_required = λ v r. cc }
load_row SpS true m marks e marked el = record { shared = refl; no_revival = λ v. refl; unmarked = λ v. cc; stays_marked = λ v w. refl; keeps_marks = λ v. refl; goes = λ v. cc; writes_back = refl; enters = stays (Tables.is_written marks); stays_required = λ v r. r }
load_row SpS false m marks e marked el = record { shared = refl; no_revival = λ v. refl; unmarked = λ v. cc; stays_marked = λ v w. refl; keeps_marks = λ v. refl; goes = λ v. cc; writes_back = refl; enters = stays (Tables.is_written marks); stays_required = λ v r. r }
load_row SpE true false marks e marked el = record { shared = refl; no_revival = λ v. refl; unmarked = λ v. cc; stays_marked = λ v w. refl; keeps_marks = λ v. refl; goes = λ v. cc; writes_back = refl; enters = empty (Tables.is_written marks) e; stays_required = λ v r. cc }
load_row SpE true true marks e marked el = record { shared = refl; no_revival = λ v. refl; unmarked = λ v. cc; stays_marked = λ v w. refl; keeps_marks = λ v. refl; goes = λ v. cc; writes_back = refl; enters = comes (Tables.is_written marks) e; stays_required = λ v r. cc }
load_row SpE false m marks e marked el = record { shared = refl; no_revival = λ v. refl; unmarked = λ v. cc; stays_marked = λ v w. refl; keeps_marks = λ v. refl; goes = λ v. cc; writes_back = refl; enters = comes (Tables.is_written marks) (marked el refl); stays_required = λ v r. cc }

earlier_row : (s : LineState) (l m : Bool) (marks : Marks) → Tables.is_written marks ≡ m
    → (marks.loaded ≡ false → is_speculative s ≡ true → Tables.is_written marks ≡ true) → marks.loaded ≡ l
    → GivesWay s marks (Tables.next (Tables.others_table s l m).store_earlier marks)
earlier_row I l m marks e marked el = record { shared = refl; no_revival = λ v. v; unmarked = λ v. refl; stays_marked = λ v w. cc; keeps_marks = λ v. refl; goes = λ v. cc; writes_back = refl; enters = refl; stays_required = λ v r. cc }
earlier_row S l m marks e marked el = record { shared = refl; no_revival = λ v. refl; unmarked = λ v. refl; stays_marked = λ v w. cc; keeps_marks = λ v. refl; goes = λ v. cc; writes_back = refl; enters = refl; stays_required = λ v r. cc }
earlier_row E l m marks e marked el = record { shared = refl; no_revival = λ v. refl; unmarked = λ v. refl; stays_marked = λ v w. cc; keeps_marks = λ v. refl; goes = λ v. cc; writes_back = refl; enters = refl; stays_required = λ v r. cc }
earlier_row M l m marks e marked el = record { shared = refl; no_revival = λ v. refl; unmarked = λ v. refl; stays_marked = λ v w. cc; keeps_marks = λ v. refl; goes = λ v. cc; writes_back = refl; enters = refl; stays_required = λ v r. cc }
earlier_row SpS true m marks e marked el = record { shared = refl; no_revival = λ v. refl; unmarked = λ v. cc; stays_marked = λ v w. refl; keeps_marks = λ v. refl; goes = λ v. cc; writes_back = refl; enters = stays (Tables.is_written marks); stays_required = λ v r. r }
earlier_row SpS false m marks e marked el = record { shared = refl; no_revival = λ v. refl; unmarked = λ v. cc; stays_marked = λ v w. refl; keeps_marks = λ v. refl; goes = λ v. cc; writes_back = refl; enters = stays (Tables.is_written marks); stays_required = λ v r. r }
earlier_row SpE true false marks e marked el = record { shared = refl; no_revival = λ v. refl; unmarked = λ v. cc; stays_marked = λ v w. refl; keeps_marks = λ v. refl; goes = λ v. cc; writes_back = refl; enters = empty (Tables.is_written marks) e; stays_required = λ v r. cc }
earlier_row SpE true true marks e marked el = record { shared = refl; no_revival = λ v. refl; unmarked = λ v. cc; stays_marked = λ v w. refl; keeps_marks = λ v. refl; goes = λ v. cc; writes_back = refl; enters = comes (Tables.is_written marks) e; stays_required = λ v r. cc }
earlier_row SpE false m marks e marked el = record { shared = refl; no_revival = λ v. refl; unmarked = λ v. cc; stays_marked = λ v w. refl; keeps_marks = λ v. refl; goes = λ v. cc; writes_back = refl; enters = comes (Tables.is_written marks) (marked el refl); stays_required = λ v r. cc }

later_row : (s : LineState) (l m : Bool) (marks : Marks) → Tables.is_written marks ≡ m
    → (marks.loaded ≡ false → is_speculative s ≡ true → Tables.is_written marks ≡ true) → marks.loaded ≡ l
    → GivesWay s marks (Tables.next (Tables.others_table s l m).store_later marks)
later_row I l m marks e marked el = record { shared = refl; no_revival = λ v. v; unmarked = λ v. refl; stays_marked = λ v w. cc; keeps_marks = λ v. refl; goes = λ v. cc; writes_back = refl; enters = refl; stays_required = λ v r. cc }
later_row S l m marks e marked el = record { shared = refl; no_revival = λ v. refl; unmarked = λ v. refl; stays_marked = λ v w. cc; keeps_marks = λ v. refl; goes = λ v. cc; writes_back = refl; enters = refl; stays_required = λ v r. cc }
later_row E l m marks e marked el = record { shared = refl; no_revival = λ v. refl; unmarked = λ v. refl; stays_marked = λ v w. cc; keeps_marks = λ v. refl; goes = λ v. cc; writes_back = refl; enters = refl; stays_required = λ v r. cc }
later_row M l m marks e marked el = record { shared = refl; no_revival = λ v. refl; unmarked = λ v. refl; stays_marked = λ v w. cc; keeps_marks = λ v. refl; goes = λ v. cc; writes_back = refl; enters = refl; stays_required = λ v r. cc }
later_row SpS true m marks e marked el = record { shared = refl; no_revival = λ v. refl; unmarked = λ v. refl; stays_marked = λ v w. cc; keeps_marks = λ v. cc; goes = λ v. refl; writes_back = refl; enters = refl; stays_required = λ v r. cc }
later_row SpS false m marks e marked el = record { shared = refl; no_revival = λ v. refl; unmarked = λ v. cc; stays_marked = λ v w. refl; keeps_marks = λ v. refl; goes = λ v. cc; writes_back = refl; enters = stays (Tables.is_written marks); stays_required = λ v r. r }
later_row SpE true false marks e marked el = record { shared = refl; no_revival = λ v. refl; unmarked = λ v. refl; stays_marked = λ v w. cc; keeps_marks = λ v. cc; goes = λ v. refl; writes_back = refl; enters = refl; stays_required = λ v r. cc }
later_row SpE true true marks e marked el = record { shared = refl; no_revival = λ v. refl; unmarked = λ v. refl; stays_marked = λ v w. cc; keeps_marks = λ v. cc; goes = λ v. refl; writes_back = refl; enters = refl; stays_required = λ v r. cc }
later_row SpE false m marks e marked el = record { shared = refl; no_revival = λ v. refl; unmarked = λ v. cc; stays_marked = λ v w. refl; keeps_marks = λ v. refl; goes = λ v. cc; writes_back = refl; enters = comes (Tables.is_written marks) (marked el refl); stays_required = λ v r. cc }

publish_row : (s : LineState) (l m : Bool) (marks : Marks) → Tables.is_written marks ≡ m
    → (marks.loaded ≡ false → is_speculative s ≡ true → Tables.is_written marks ≡ true) → marks.loaded ≡ l
    → GivesWay s marks (Tables.next (Tables.others_table s l m).publish marks)
publish_row I l m marks e marked el = record { shared = refl; no_revival = λ v. v; unmarked = λ v. refl; stays_marked = λ v w. cc; keeps_marks = λ v. refl; goes = λ v. cc; writes_back = refl; enters = refl; stays_required = λ v r. cc }
publish_row S l m marks e marked el = record { shared = refl; no_revival = λ v. refl; unmarked = λ v. refl; stays_marked = λ v w. cc; keeps_marks = λ v. refl; goes = λ v. cc; writes_back = refl; enters = refl; stays_required = λ v r. cc }
publish_row E l m marks e marked el = record { shared = refl; no_revival = λ v. refl; unmarked = λ v. refl; stays_marked = λ v w. cc; keeps_marks = λ v. refl; goes = λ v. cc; writes_back = refl; enters = refl; stays_required = λ v r. cc }
publish_row M l m marks e marked el = record { shared = refl; no_revival = λ v. refl; unmarked = λ v. refl; stays_marked = λ v w. cc; keeps_marks = λ v. refl; goes = λ v. cc; writes_back = refl; enters = refl; stays_required = λ v r. cc }
publish_row SpS true m marks e marked el = record { shared = refl; no_revival = λ v. refl; unmarked = λ v. refl; stays_marked = λ v w. cc; keeps_marks = λ v. cc; goes = λ v. refl; writes_back = refl; enters = refl; stays_required = λ v r. cc }
publish_row SpS false m marks e marked el = record { shared = refl; no_revival = λ v. refl; unmarked = λ v. cc; stays_marked = λ v w. refl; keeps_marks = λ v. refl; goes = λ v. cc; writes_back = refl; enters = stays (Tables.is_written marks); stays_required = λ v r. r }
publish_row SpE true false marks e marked el = record { shared = refl; no_revival = λ v. refl; unmarked = λ v. refl; stays_marked = λ v w. cc; keeps_marks = λ v. cc; goes = λ v. refl; writes_back = refl; enters = refl; stays_required = λ v r. cc }
publish_row SpE true true marks e marked el = record { shared = refl; no_revival = λ v. refl; unmarked = λ v. refl; stays_marked = λ v w. cc; keeps_marks = λ v. cc; goes = λ v. refl; writes_back = refl; enters = refl; stays_required = λ v r. cc }
publish_row SpE false m marks e marked el = record { shared = refl; no_revival = λ v. refl; unmarked = λ v. cc; stays_marked = λ v w. refl; keeps_marks = λ v. refl; goes = λ v. cc; writes_back = refl; enters = comes (Tables.is_written marks) (marked el refl); stays_required = λ v r. cc }

-- another core's load, speculative or straight
pub other_load-gives_way : (s : LineState) (marks : Marks) → (is_speculative s ≡ true → IsMarked marks)
    → GivesWay s marks (Tables.other_load s marks)
other_load-gives_way s marks marked =
    load_row s marks.loaded (Tables.is_written marks) marks refl (λ e v. modified s marks marked v e) refl

-- another core's speculative store
pub other_store-gives_way : (s : LineState) (marks : Marks) (owner : Order)
    → (is_speculative s ≡ true → IsMarked marks) → GivesWay s marks (Tables.other_store s marks owner)
other_store-gives_way s marks Earlier marked =
    earlier_row s marks.loaded (Tables.is_written marks) marks refl (λ e v. modified s marks marked v e) refl
other_store-gives_way s marks Later marked =
    later_row s marks.loaded (Tables.is_written marks) marks refl (λ e v. modified s marks marked v e) refl

-- another core's publish or straight store
pub other_publish-gives_way : (s : LineState) (marks : Marks) → (is_speculative s ≡ true → IsMarked marks)
    → GivesWay s marks (Tables.other_publish s marks)
other_publish-gives_way s marks marked =
    publish_row s marks.loaded (Tables.is_written marks) marks refl (λ e v. modified s marks marked v e) refl

-- ---- who is violated

load_violates : (s : LineState) (l m : Bool) → (Tables.others_table s l m).load.violated ≡ false
load_violates I l m = refl
load_violates S l m = refl
load_violates E l m = refl
load_violates M l m = refl
load_violates SpS true m = refl
load_violates SpS false m = refl
load_violates SpE true true = refl
load_violates SpE true false = refl
load_violates SpE false m = refl

earlier_violates : (s : LineState) (l m : Bool) → (Tables.others_table s l m).store_earlier.violated ≡ false
earlier_violates I l m = refl
earlier_violates S l m = refl
earlier_violates E l m = refl
earlier_violates M l m = refl
earlier_violates SpS true m = refl
earlier_violates SpS false m = refl
earlier_violates SpE true true = refl
earlier_violates SpE true false = refl
earlier_violates SpE false m = refl

later_violates : (s : LineState) (l m : Bool) → (Tables.others_table s l m).store_later.violated ≡ (is_speculative s && l)
later_violates I l m = refl
later_violates S l m = refl
later_violates E l m = refl
later_violates M l m = refl
later_violates SpS true m = refl
later_violates SpS false m = refl
later_violates SpE true true = refl
later_violates SpE true false = refl
later_violates SpE false m = refl

publish_violates : (s : LineState) (l m : Bool) → (Tables.others_table s l m).publish.violated ≡ (is_speculative s && l)
publish_violates I l m = refl
publish_violates S l m = refl
publish_violates E l m = refl
publish_violates M l m = refl
publish_violates SpS true m = refl
publish_violates SpS false m = refl
publish_violates SpE true true = refl
publish_violates SpE true false = refl
publish_violates SpE false m = refl

-- a load violates nobody
pub other_load-violates : (s : LineState) (marks : Marks) → (Tables.other_load s marks).violated ≡ false
other_load-violates s marks = load_violates s marks.loaded (Tables.is_written marks)

-- a speculative store violates just the later epochs that have loaded the line
pub other_store-violates : (s : LineState) (marks : Marks) (owner : Order)
    → (Tables.other_store s marks owner).violated ≡ (is_later owner && was_loaded s marks)
other_store-violates s marks Earlier = earlier_violates s marks.loaded (Tables.is_written marks)
other_store-violates s marks Later = later_violates s marks.loaded (Tables.is_written marks)

-- a publish violates just the epochs that have loaded the line
pub other_publish-violates : (s : LineState) (marks : Marks) → (Tables.other_publish s marks).violated ≡ was_loaded s marks
other_publish-violates s marks = publish_violates s marks.loaded (Tables.is_written marks)

-- ---- a core's own accesses

pub own_load-takes_hold : (s : LineState) (marks : Marks) (offset width : ℕ) (alone : Bool)
    → TakesHold s marks alone (Tables.own_load s marks offset width alone)
own_load-takes_hold I marks offset width true = record { marked = refl; exclusive = λ e. refl; writes_back = refl; violates_none = refl; enters = refl; stays_required = λ r. cc }
own_load-takes_hold I marks offset width false = record { marked = refl; exclusive = λ e. e; writes_back = refl; violates_none = refl; enters = refl; stays_required = λ r. cc }
own_load-takes_hold S marks offset width alone = record { marked = refl; exclusive = λ e. cc; writes_back = refl; violates_none = refl; enters = refl; stays_required = λ r. cc }
own_load-takes_hold E marks offset width alone = record { marked = refl; exclusive = λ e. refl; writes_back = refl; violates_none = refl; enters = refl; stays_required = λ r. cc }
own_load-takes_hold M marks offset width alone = record { marked = refl; exclusive = λ e. refl; writes_back = refl; violates_none = refl; enters = refl; stays_required = λ r. cc }
own_load-takes_hold SpS marks offset width alone = record { marked = refl; exclusive = λ e. cc; writes_back = refl; violates_none = refl; enters = stays (Tables.is_written marks); stays_required = λ r. r }
own_load-takes_hold SpE marks offset width alone = record { marked = refl; exclusive = λ e. refl; writes_back = refl; violates_none = refl; enters = refl; stays_required = λ r. cc }

-- a load enters no buffer
pub own_load-enters_none : (s : LineState) (marks : Marks) (offset width : ℕ) (alone : Bool)
    → (Tables.own_load s marks offset width alone).enters ≡ false
own_load-enters_none I marks offset width true = refl
own_load-enters_none I marks offset width false = refl
own_load-enters_none S marks offset width alone = refl
own_load-enters_none E marks offset width alone = refl
own_load-enters_none M marks offset width alone = refl
own_load-enters_none SpS marks offset width alone = refl
own_load-enters_none SpE marks offset width alone = refl

-- a load of a line that the core holds asks nobody: the copy is exclusive only where it was
pub own_load-held : (s : LineState) (marks : Marks) (offset width : ℕ) (alone : Bool) → is_valid s ≡ true
    → is_exclusive (Tables.own_load s marks offset width alone).state ≡ true → is_exclusive s ≡ true
own_load-held I marks offset width alone v e = cc
own_load-held S marks offset width alone v e = e
own_load-held E marks offset width alone v e = refl
own_load-held M marks offset width alone v e = refl
own_load-held SpS marks offset width alone v e = e
own_load-held SpE marks offset width alone v e = refl

-- the mask after a store is not empty
written : (m : Marks) (offset width : ℕ) → IsWidth width → Tables.is_written (Tables.marks_after_store m offset width) ≡ true
written m offset width w =
    nonzero (with_bytes m.bytes offset width) (with_bytes-nonzero m.bytes offset width (width-bounds width w).0)

held : (b d : Bool) → d ≡ true → false ≡ (b && not d)
held b d q = grind (arith, nat_tests)

entered : (b d : Bool) → b ≡ true → d ≡ false → true ≡ (b && not d)
entered b d p q = rw (p, q) refl

clash : (b : Bool) → b ≡ true → b ≡ false → false ≡ true
clash b p q = cc

-- a row of an own store, with the mask that it leaves
store_row : (s : LineState) (modified alone : Bool) (marks after : Marks) → Tables.is_written after ≡ true
    → (is_speculative s ≡ true → Tables.is_written marks ≡ modified)
    → TakesHold s marks alone (Tables.next (Tables.own_store_table s modified alone) after)
store_row I m true marks after w same = record { marked = refl; exclusive = λ e. refl; writes_back = refl; violates_none = refl; enters = refl; stays_required = λ r. cc }
store_row I m false marks after w same = record { marked = refl; exclusive = λ e. cc; writes_back = refl; violates_none = refl; enters = comes (Tables.is_written after) w; stays_required = λ r. cc }
store_row S m true marks after w same = record { marked = refl; exclusive = λ e. refl; writes_back = refl; violates_none = refl; enters = refl; stays_required = λ r. cc }
store_row S m false marks after w same = record { marked = refl; exclusive = λ e. cc; writes_back = refl; violates_none = refl; enters = comes (Tables.is_written after) w; stays_required = λ r. cc }
store_row E m true marks after w same = record { marked = refl; exclusive = λ e. refl; writes_back = refl; violates_none = refl; enters = refl; stays_required = λ r. cc }
store_row E m false marks after w same = record { marked = refl; exclusive = λ e. cc; writes_back = refl; violates_none = refl; enters = comes (Tables.is_written after) w; stays_required = λ r. cc }
store_row M m true marks after w same = record { marked = refl; exclusive = λ e. refl; writes_back = refl; violates_none = refl; enters = refl; stays_required = λ r. cc }
store_row M m false marks after w same = record { marked = refl; exclusive = λ e. cc; writes_back = refl; violates_none = refl; enters = comes (Tables.is_written after) w; stays_required = λ r. cc }
store_row SpS true alone marks after w same = record { marked = refl; exclusive = λ e. cc; writes_back = refl; violates_none = refl; enters = held (Tables.is_written after) (Tables.is_written marks) (same refl); stays_required = λ r. w }
store_row SpS false true marks after w same = record { marked = refl; exclusive = λ e. refl; writes_back = refl; violates_none = refl; enters = refl; stays_required = λ r. clash (Tables.is_written marks) r (same refl) }
store_row SpS false false marks after w same = record { marked = refl; exclusive = λ e. cc; writes_back = refl; violates_none = refl; enters = entered (Tables.is_written after) (Tables.is_written marks) w (same refl); stays_required = λ r. w }
store_row SpE m alone marks after w same = record { marked = refl; exclusive = λ e. refl; writes_back = refl; violates_none = refl; enters = refl; stays_required = λ r. cc }

-- the marks that a copy carries in a marked state are its marks
carried_written : (s : LineState) (marks : Marks) → is_speculative s ≡ true
    → Tables.is_written marks ≡ Tables.is_written (Tables.marks_of s marks)
carried_written s marks e = rw e refl

pub own_store-takes_hold : (s : LineState) (marks : Marks) (offset width : ℕ) (alone : Bool) → IsWidth width
    → TakesHold s marks alone (Tables.own_store s marks offset width alone)
own_store-takes_hold s marks offset width alone w =
    store_row s (Tables.is_written (Tables.marks_of s marks)) alone marks
    (Tables.marks_after_store (Tables.marks_of s marks) offset width)
    (written (Tables.marks_of s marks) offset width w) (carried_written s marks)

-- ---- a store to a line that the core owns

-- it holds it
pub owned-valid : (s : LineState) (marks : Marks) → owns_line s marks ≡ true → is_valid s ≡ true
owned-valid I marks h = cc
owned-valid S marks h = cc
owned-valid E marks h = cc
owned-valid M marks h = cc
owned-valid SpS marks h = refl
owned-valid SpE marks h = refl

-- the copy is exclusive only where it was
pub owned-exclusive : (s : LineState) (marks : Marks) (offset width : ℕ) (alone : Bool) → owns_line s marks ≡ true
    → is_exclusive (Tables.own_store s marks offset width alone).state ≡ true → is_exclusive s ≡ true
owned-exclusive I marks offset width alone h = cc
owned-exclusive S marks offset width alone h = cc
owned-exclusive E marks offset width alone h = cc
owned-exclusive M marks offset width alone h = cc
owned-exclusive SpS marks offset width alone h = rw h (λ e. e)
owned-exclusive SpE marks offset width alone h = λ e. refl

-- nothing enters the buffer
pub owned-enters_none : (s : LineState) (marks : Marks) (offset width : ℕ) (alone : Bool) → owns_line s marks ≡ true
    → (Tables.own_store s marks offset width alone).enters ≡ false
owned-enters_none I marks offset width alone h = cc
owned-enters_none S marks offset width alone h = cc
owned-enters_none E marks offset width alone h = cc
owned-enters_none M marks offset width alone h = cc
owned-enters_none SpS marks offset width alone h = rw h refl
owned-enters_none SpE marks offset width alone h = refl

-- ---- the violation and the publish of the owner's epoch

violation_row : (s : LineState) (m : Bool) → RollsBack s (Tables.next (Tables.violation_table s m) Tables.no_marks)
violation_row I m = record { unmarked = refl; clears_marks = refl; no_revival = λ e. e; exclusive = λ e. e; modified = refl; writes_none = refl; enters_none = refl }
violation_row S m = record { unmarked = refl; clears_marks = refl; no_revival = λ e. refl; exclusive = λ e. e; modified = refl; writes_none = refl; enters_none = refl }
violation_row E m = record { unmarked = refl; clears_marks = refl; no_revival = λ e. refl; exclusive = λ e. e; modified = refl; writes_none = refl; enters_none = refl }
violation_row M m = record { unmarked = refl; clears_marks = refl; no_revival = λ e. refl; exclusive = λ e. e; modified = refl; writes_none = refl; enters_none = refl }
violation_row SpS true = record { unmarked = refl; clears_marks = refl; no_revival = λ e. refl; exclusive = λ e. e; modified = refl; writes_none = refl; enters_none = refl }
violation_row SpS false = record { unmarked = refl; clears_marks = refl; no_revival = λ e. refl; exclusive = λ e. e; modified = refl; writes_none = refl; enters_none = refl }
violation_row SpE true = record { unmarked = refl; clears_marks = refl; no_revival = λ e. refl; exclusive = λ e. refl; modified = refl; writes_none = refl; enters_none = refl }
violation_row SpE false = record { unmarked = refl; clears_marks = refl; no_revival = λ e. refl; exclusive = λ e. refl; modified = refl; writes_none = refl; enters_none = refl }

pub violation-rolls_back : (s : LineState) (marks : Marks) → RollsBack s (Tables.violation s marks)
violation-rolls_back s marks = violation_row s (Tables.is_written marks)

settlement_row : (s : LineState) (m alone : Bool) (marks : Marks) → Tables.is_written marks ≡ m
    → Settles s marks alone (Tables.next (Tables.settlement_table s m alone) Tables.no_marks)
settlement_row I m alone marks e = record { unmarked = refl; clears_marks = refl; valid = refl; exclusive = λ e. cc; carries_on = λ e. cc; modified = λ e. cc; enters_none = refl }
settlement_row S m alone marks e = record { unmarked = refl; clears_marks = refl; valid = refl; exclusive = λ e. cc; carries_on = λ e. cc; modified = λ e. cc; enters_none = refl }
settlement_row E m alone marks e = record { unmarked = refl; clears_marks = refl; valid = refl; exclusive = λ e. refl; carries_on = λ e. cc; modified = λ e. cc; enters_none = refl }
settlement_row M m alone marks e = record { unmarked = refl; clears_marks = refl; valid = refl; exclusive = λ e. refl; carries_on = λ e. cc; modified = λ e. refl; enters_none = refl }
settlement_row SpS true true marks e = record { unmarked = refl; clears_marks = refl; valid = refl; exclusive = λ e. refl; carries_on = λ e. refl; modified = λ e. cc; enters_none = refl }
settlement_row SpS true false marks e = record { unmarked = refl; clears_marks = refl; valid = refl; exclusive = λ e. cc; carries_on = λ e. refl; modified = λ e. cc; enters_none = refl }
settlement_row SpS false alone marks e = record { unmarked = refl; clears_marks = refl; valid = refl; exclusive = λ e. cc; carries_on = λ w. clash (Tables.is_written marks) w e; modified = λ e. cc; enters_none = refl }
settlement_row SpE true alone marks e = record { unmarked = refl; clears_marks = refl; valid = refl; exclusive = λ e. refl; carries_on = λ e. refl; modified = λ e. cc; enters_none = refl }
settlement_row SpE false alone marks e = record { unmarked = refl; clears_marks = refl; valid = refl; exclusive = λ e. refl; carries_on = λ w. clash (Tables.is_written marks) w e; modified = λ e. cc; enters_none = refl }

pub settlement-settles : (s : LineState) (marks : Marks) (alone : Bool)
    → Settles s marks alone (Tables.settlement s marks alone)
settlement-settles s marks alone = settlement_row s (Tables.is_written marks) alone marks refl

-- ---- states

pub speculative-valid : (s : LineState) → is_speculative s ≡ true → is_valid s ≡ true
speculative-valid I e = cc
speculative-valid S e = refl
speculative-valid E e = refl
speculative-valid M e = refl
speculative-valid SpS e = refl
speculative-valid SpE e = refl

-- a line that isn't valid carries no marks
pub invalid-unmarked : (s : LineState) → is_valid s ≡ false → is_speculative s ≡ false
invalid-unmarked I e = refl
invalid-unmarked S e = refl
invalid-unmarked E e = refl
invalid-unmarked M e = refl
invalid-unmarked SpS e = cc
invalid-unmarked SpE e = cc

pub modified-valid : (s : LineState) → is_modified s ≡ true → is_valid s ≡ true
modified-valid I e = cc
modified-valid S e = refl
modified-valid E e = refl
modified-valid M e = refl
modified-valid SpS e = refl
modified-valid SpE e = refl
