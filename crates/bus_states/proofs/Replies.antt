-- What a notice makes of a copy.
use Rattle.std.proofs.Common.{◌≡◌, ◌≢◌, ℕ, Bool, true, false, refl, sym, subst}
use Rattle.spec_states.specs.declared.line.LineState.{LineState}
use Rattle.spec_states.specs.declared.line.LineState.TheVariants.{I, S, E, M, SpS, SpE}
use Rattle.spec_states.specs.declared.line.Marks.{Marks}
use Rattle.spec_states.specs.declared.next.Order.{Order}
use Rattle.spec_states.specs.declared.next.Order.TheVariants.{Earlier, Later}
use Rattle.spec_states.specs.Copies.{copy_of, IsUpToDate, IsMarked}
use Rattle.spec_states.specs.Rows.{GivesWay}
use Rattle.spec_states.specs.States.{is_exclusive, is_speculative}
use Rattle.spec_states.specs.Tables.{others_table, by_message, is_written}
use Rattle.spec_states.specs.Mask.{IsWithinLine}
use Rattle.spec_states.proofs.CopyLaws.{other_load-keeps, other_store-keeps, other_publish-follows, marks_of-within_line}
use Rattle.spec_states.proofs.RowLaws.{other_load-gives_way, other_store-gives_way, other_publish-gives_way}
use Rattle.bus_states.specs.declared.notice.Notice.{Notice}
use Rattle.bus_states.specs.declared.notice.Notice.TheVariants.{Load, Store, Publish}
use Rattle.bus_states.specs.Messages.{reply_to, bytes_after}

pub reply-gives_way : (notice : Notice) (s : LineState) (marks : Marks) (owner : Order)
    → (is_speculative s ≡ true → IsMarked marks) → GivesWay s marks (reply_to notice s marks owner)
reply-gives_way Load s marks owner marked = other_load-gives_way s marks marked
reply-gives_way Store s marks owner marked = other_store-gives_way s marks owner marked
reply-gives_way Publish s marks owner marked = other_publish-gives_way s marks marked

-- the copy is up to date with the line that was sent, which only a publish changes
pub reply-follows : (notice : Notice) (s : LineState) (marks : Marks) (owner : Order) (cell c line : ℕ → ℕ)
    → (notice ≢ Publish → line ≡ c) → IsUpToDate (copy_of s marks cell) c
    → IsUpToDate (copy_of (reply_to notice s marks owner).state (reply_to notice s marks owner).marks
    (bytes_after notice (reply_to notice s marks owner).marks.bytes cell line)) line
reply-follows Load s marks owner cell c line same h =
    subst (λ (c : ℕ → ℕ). IsUpToDate (copy_of (reply_to Load s marks owner).state (reply_to Load s marks owner).marks cell) c)
    (sym (same (λ e. cc))) (other_load-keeps s marks cell c h)
reply-follows Store s marks owner cell c line same h =
    subst (λ (c : ℕ → ℕ). IsUpToDate (copy_of (reply_to Store s marks owner).state (reply_to Store s marks owner).marks cell) c)
    (sym (same (λ e. cc))) (other_store-keeps s marks owner cell c h)
reply-follows Publish s marks owner cell c line same h = other_publish-follows s marks cell c line h

-- no mark past the line's end comes in
pub reply-within : (notice : Notice) (s : LineState) (marks : Marks) (owner : Order) (length : ℕ) → IsWithinLine length marks.bytes
    → IsWithinLine length (reply_to notice s marks owner).marks.bytes
reply-within Load s marks owner length h = marks_of-within_line (by_message s marks).load.state marks length h
reply-within Store s marks Earlier length h = marks_of-within_line (by_message s marks).store_earlier.state marks length h
reply-within Store s marks Later length h = marks_of-within_line (by_message s marks).store_later.state marks length h
reply-within Publish s marks owner length h = marks_of-within_line (by_message s marks).publish.state marks length h

-- only an exclusive copy has to enter a buffer
pub reply-enters : (notice : Notice) (s : LineState) (marks : Marks) (owner : Order)
    → (reply_to notice s marks owner).enters ≡ true → is_exclusive s ≡ true
reply-enters Load s marks owner = load_enters s marks.loaded (is_written marks)
  where
    load_enters : (s : LineState) (l m : Bool) → (others_table s l m).load.enters ≡ true → is_exclusive s ≡ true
    load_enters I l m e = e
    load_enters S l m e = e
    load_enters E l m e = refl
    load_enters M l m e = refl
    load_enters SpS true m e = e
    load_enters SpS false m e = e
    load_enters SpE l m e = refl
reply-enters Store s marks Earlier = earlier_enters s marks.loaded (is_written marks)
  where
    earlier_enters : (s : LineState) (l m : Bool) → (others_table s l m).store_earlier.enters ≡ true → is_exclusive s ≡ true
    earlier_enters I l m e = e
    earlier_enters S l m e = e
    earlier_enters E l m e = refl
    earlier_enters M l m e = refl
    earlier_enters SpS true m e = e
    earlier_enters SpS false m e = e
    earlier_enters SpE l m e = refl
reply-enters Store s marks Later = later_enters s marks.loaded (is_written marks)
  where
    later_enters : (s : LineState) (l m : Bool) → (others_table s l m).store_later.enters ≡ true → is_exclusive s ≡ true
    later_enters I l m e = e
    later_enters S l m e = e
    later_enters E l m e = refl
    later_enters M l m e = refl
    later_enters SpS true m e = e
    later_enters SpS false m e = e
    later_enters SpE l m e = refl
reply-enters Publish s marks owner = publish_enters s marks.loaded (is_written marks)
  where
    publish_enters : (s : LineState) (l m : Bool) → (others_table s l m).publish.enters ≡ true → is_exclusive s ≡ true
    publish_enters I l m e = e
    publish_enters S l m e = e
    publish_enters E l m e = refl
    publish_enters M l m e = refl
    publish_enters SpS true m e = e
    publish_enters SpS false m e = e
    publish_enters SpE l m e = refl
