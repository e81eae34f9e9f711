-- Every row of the tables keeps a copy up to date.
use Rattle.std.proofs.Common.{◌≡◌, ℕ, ◌<◌, ◌==◌, ◌||◌, Bool, true, false, not, refl, sym, ap, arith, cond, ◌+◌, ◌≤◌, ◌∙◌}
use Rattle.std.proofs.lemmas.Bool.{eqb-true, not-false, not_from_false, or_right}
use Rattle.std.proofs.lemmas.Bool.Decides.{nat_tests}
use Rattle.std.proofs.lemmas.Nat.{pow_pos}
use Rattle.spec_states.specs.declared.line.LineState.{LineState}
use Rattle.spec_states.specs.declared.line.LineState.TheVariants.{I, S, E, M, SpS, SpE}
use Rattle.spec_states.specs.declared.line.Marks.{Marks}
use Rattle.spec_states.specs.declared.next.Order.{Order}
use Rattle.spec_states.specs.declared.next.Order.TheVariants.{Earlier, Later}
use Rattle.spec_states.specs.States.{is_valid, is_modified, is_speculative}
use Rattle.memory_bytes.specs.Bytes.{IsWidth}
use Rattle.spec_states.specs.Mask.{has, has_all, with_bytes, is_within, IsWithinLine}
use Rattle.spec_states.specs.Tables
use Rattle.spec_states.specs.Rows.{MarksRead}
use Rattle.spec_states.specs.Copies.{LineCopy, copy_of, IsUpToDate, merged_line, KeepsUpToDate, FilledIsUpToDate, KeepsUpToDateAtStore, StoredIsUpToDate, FollowsPublish, Publishes}
use Rattle.spec_states.proofs.MaskLaws.{has-zero, has-nonzero, has-with_bytes, has-before, has_all-true, has_all-false, is_within-first, with_bytes-nonzero, with_bytes-within, width-bounds}

-- ---- the three ways of a row: the copy goes, it loses its marks, it keeps them

-- a copy that is gone is up to date with any line
pub IsUpToDate-gone : (cell committed : ℕ → ℕ) → IsUpToDate (copy_of I Tables.no_marks cell) committed
IsUpToDate-gone cell committed =
    record {
      not_loaded = λ _. refl;
      not_modified = λ _. refl;
      marked = λ e. cc;
      agrees = λ x v _. cc;
    }

-- a copy with an empty mask may lose its marks
pub IsUpToDate-unmarked : (s s' : LineState) (marks : Marks) (cell committed : ℕ → ℕ)
    → IsUpToDate (copy_of s marks cell) committed → is_valid s ≡ true → marks.bytes ≡ 0 → is_speculative s' ≡ false
    → IsUpToDate (copy_of s' Tables.no_marks cell) committed
IsUpToDate-unmarked s s' marks cell committed h valid empty calm =
    record {
      not_loaded = λ _. refl;
      not_modified = λ _. refl;
      marked = λ e. cc;
      agrees = λ x v out. h.agrees x valid (rw empty (has-zero x));
    }

-- a marked copy may be SpS or SpE
pub IsUpToDate-marked : (s s' : LineState) (marks : Marks) (cell committed : ℕ → ℕ)
    → IsUpToDate (copy_of s marks cell) committed → is_speculative s ≡ true → is_valid s ≡ true
    → is_speculative s' ≡ true → IsUpToDate (copy_of s' marks cell) committed
IsUpToDate-marked s s' marks cell committed h speculative valid speculative' =
    record {
      not_loaded = λ e. cc;
      not_modified = λ e. cc;
      marked = λ _. h.marked speculative;
      agrees = λ x v out. h.agrees x valid out;
    }

-- a marked copy that takes the published line outside its mask
IsUpToDate-refreshed : (s s' : LineState) (marks : Marks) (cell committed published : ℕ → ℕ)
    → IsUpToDate (copy_of s marks cell) committed → is_speculative s ≡ true → is_speculative s' ≡ true
    → IsUpToDate (copy_of s' marks (merged_line marks.bytes cell published)) published
IsUpToDate-refreshed s s' marks cell committed published h speculative speculative' =
    record {
      not_loaded = λ e. cc;
      not_modified = λ e. cc;
      marked = λ _. h.marked speculative;
      agrees = λ x v out. rw out refl;
    }

-- a byte of a valid copy is what its owner sees of the line
seen_byte : (s : LineState) (marks : Marks) (cell committed : ℕ → ℕ) → IsUpToDate (copy_of s marks cell) committed
    → is_valid s ≡ true → (x : ℕ) (b : Bool) → has marks.bytes x ≡ b → cell x ≡ cond b (cell x) (committed x)
seen_byte s marks cell committed h valid x true _ = refl
seen_byte s marks cell committed h valid x false out = h.agrees x valid out

-- a copy whose owner publishes
IsUpToDate-settled : (s s' : LineState) (marks : Marks) (cell committed : ℕ → ℕ)
    → IsUpToDate (copy_of s marks cell) committed → is_valid s ≡ true → is_speculative s' ≡ false
    → IsUpToDate (copy_of s' Tables.no_marks cell) (merged_line marks.bytes cell committed)
IsUpToDate-settled s s' marks cell committed h valid calm =
    record {
      not_loaded = λ _. refl;
      not_modified = λ _. refl;
      marked = λ e. cc;
      agrees = λ x v _. seen_byte s marks cell committed h valid x (has marks.bytes x) refl;
    }

-- a copy that is marked by a load, whose cells agree outside the mask
IsUpToDate-loaded : (s' : LineState) (m : Marks) (offset width : ℕ) (cell committed : ℕ → ℕ)
    → is_speculative s' ≡ true → 0 < width → ((x : ℕ) → has m.bytes x ≡ false → cell x ≡ committed x)
    → IsUpToDate (copy_of s' (Tables.marks_after_load m offset width) cell) committed
IsUpToDate-loaded s' m offset width cell committed speculative some agrees =
    record {
      not_loaded = λ e. cc;
      not_modified = λ e. cc;
      marked =
          λ _ e. has-nonzero m.bytes offset
          (has_all-true m.bytes offset width offset (inside m.loaded (has_all m.bytes offset width) e) (is_within-first offset width some));
      agrees = λ x v out. agrees x out;
    }
  where
    inside : (l b : Bool) → (l || not b) ≡ false → b ≡ true
    inside l b e = grind (arith, nat_tests)

-- a copy that is marked by a store, whose cells agree outside the new mask
IsUpToDate-stored : (s' : LineState) (m : Marks) (offset width : ℕ) (cell committed : ℕ → ℕ)
    → is_speculative s' ≡ true → 0 < width
    → ((x : ℕ) → has (with_bytes m.bytes offset width) x ≡ false → cell x ≡ committed x)
    → IsUpToDate (copy_of s' (Tables.marks_after_store m offset width) cell) committed
IsUpToDate-stored s' m offset width cell committed speculative some agrees =
    record {
      not_loaded = λ e. cc;
      not_modified = λ e. cc;
      marked = λ _ _. with_bytes-nonzero m.bytes offset width some;
      agrees = λ x v out. agrees x out;
    }

-- ---- what a copy that is up to date shows

-- a byte of a valid copy is what its owner sees of the line
pub seen_is : (copy : LineCopy) (committed : ℕ → ℕ) → IsUpToDate copy committed → is_valid copy.state ≡ true
    → (x : ℕ) → copy.cell x ≡ merged_line copy.marks.bytes copy.cell committed x
seen_is copy committed h valid x =
    seen_byte copy.state copy.marks copy.cell committed h valid x (has copy.marks.bytes x) refl

-- an M copy is the committed line
pub modified_is : (copy : LineCopy) (committed : ℕ → ℕ) → IsUpToDate copy committed → is_modified copy.state ≡ true
    → (x : ℕ) → copy.cell x ≡ committed x
modified_is copy committed h modified x = by_state copy.state copy.marks copy.cell committed h modified x
  where
    by_state : (s : LineState) (marks : Marks) (cell committed : ℕ → ℕ) → IsUpToDate (copy_of s marks cell) committed
        → is_modified s ≡ true → (x : ℕ) → cell x ≡ committed x
    by_state I marks cell committed h e x = cc
    by_state S marks cell committed h e x = cc
    by_state E marks cell committed h e x = cc
    by_state M marks cell committed h e x = h.agrees x refl (rw (h.not_modified refl) (has-zero x))
    by_state SpS marks cell committed h e x = cc
    by_state SpE marks cell committed h e x = cc

-- ---- the rows

-- a copy that carries no marks agrees everywhere
outside-empty : (s : LineState) (marks : Marks) (cell committed : ℕ → ℕ)
    → IsUpToDate (copy_of s marks cell) committed → is_valid s ≡ true → is_speculative s ≡ false → (x : ℕ)
    → has 0 x ≡ false → cell x ≡ committed x
outside-empty s marks cell committed h valid calm x _ = h.agrees x valid (rw (h.not_modified calm) (has-zero x))

load-keeps : (s : LineState) (loaded modified : Bool) (marks : Marks)
    → KeepsUpToDate s marks (Tables.next (Tables.others_table s loaded modified).load marks)
load-keeps I _ _ marks cell c h = IsUpToDate-gone cell c
load-keeps S _ _ marks cell c h = IsUpToDate-unmarked S S marks cell c h refl (h.not_modified refl) refl
load-keeps E _ _ marks cell c h = IsUpToDate-unmarked E S marks cell c h refl (h.not_modified refl) refl
load-keeps M _ _ marks cell c h = IsUpToDate-unmarked M S marks cell c h refl (h.not_modified refl) refl
load-keeps SpS true _ marks cell c h = IsUpToDate-marked SpS SpS marks cell c h refl refl refl
load-keeps SpS false _ marks cell c h = IsUpToDate-marked SpS SpS marks cell c h refl refl refl
load-keeps SpE true true marks cell c h = IsUpToDate-marked SpE SpS marks cell c h refl refl refl
load-keeps SpE true false marks cell c h = IsUpToDate-marked SpE SpS marks cell c h refl refl refl
load-keeps SpE false _ marks cell c h = IsUpToDate-marked SpE SpS marks cell c h refl refl refl

store_earlier-keeps : (s : LineState) (loaded modified : Bool) (marks : Marks)
    → KeepsUpToDate s marks (Tables.next (Tables.others_table s loaded modified).store_earlier marks)
store_earlier-keeps I _ _ marks cell c h = IsUpToDate-gone cell c
store_earlier-keeps S _ _ marks cell c h = IsUpToDate-gone cell c
store_earlier-keeps E _ _ marks cell c h = IsUpToDate-gone cell c
store_earlier-keeps M _ _ marks cell c h = IsUpToDate-gone cell c
store_earlier-keeps SpS true _ marks cell c h = IsUpToDate-marked SpS SpS marks cell c h refl refl refl
store_earlier-keeps SpS false _ marks cell c h = IsUpToDate-marked SpS SpS marks cell c h refl refl refl
store_earlier-keeps SpE true true marks cell c h = IsUpToDate-marked SpE SpS marks cell c h refl refl refl
store_earlier-keeps SpE true false marks cell c h = IsUpToDate-marked SpE SpS marks cell c h refl refl refl
store_earlier-keeps SpE false _ marks cell c h = IsUpToDate-marked SpE SpS marks cell c h refl refl refl

store_later-keeps : (s : LineState) (loaded modified : Bool) (marks : Marks)
    → KeepsUpToDate s marks (Tables.next (Tables.others_table s loaded modified).store_later marks)
store_later-keeps I _ _ marks cell c h = IsUpToDate-gone cell c
store_later-keeps S _ _ marks cell c h = IsUpToDate-gone cell c
store_later-keeps E _ _ marks cell c h = IsUpToDate-gone cell c
store_later-keeps M _ _ marks cell c h = IsUpToDate-gone cell c
store_later-keeps SpS true _ marks cell c h = IsUpToDate-gone cell c
store_later-keeps SpS false _ marks cell c h = IsUpToDate-marked SpS SpS marks cell c h refl refl refl
store_later-keeps SpE true true marks cell c h = IsUpToDate-gone cell c
store_later-keeps SpE true false marks cell c h = IsUpToDate-gone cell c
store_later-keeps SpE false _ marks cell c h = IsUpToDate-marked SpE SpS marks cell c h refl refl refl

-- another core's load, speculative or straight
pub other_load-keeps : (s : LineState) (marks : Marks) → KeepsUpToDate s marks (Tables.other_load s marks)
other_load-keeps s marks = load-keeps s marks.loaded (Tables.is_written marks) marks

-- another core's speculative store, which leaves the committed line as it was
pub other_store-keeps : (s : LineState) (marks : Marks) (owner : Order)
    → KeepsUpToDate s marks (Tables.other_store s marks owner)
other_store-keeps s marks Earlier = store_earlier-keeps s marks.loaded (Tables.is_written marks) marks
other_store-keeps s marks Later = store_later-keeps s marks.loaded (Tables.is_written marks) marks

publish-follows : (s : LineState) (loaded modified : Bool) (marks : Marks)
    → FollowsPublish s marks (Tables.next (Tables.others_table s loaded modified).publish marks)
publish-follows I _ _ marks cell c p h = IsUpToDate-gone _ p
publish-follows S _ _ marks cell c p h = IsUpToDate-gone _ p
publish-follows E _ _ marks cell c p h = IsUpToDate-gone _ p
publish-follows M _ _ marks cell c p h = IsUpToDate-gone _ p
publish-follows SpS true _ marks cell c p h = IsUpToDate-gone _ p
publish-follows SpS false _ marks cell c p h = IsUpToDate-refreshed SpS SpS marks cell c p h refl refl
publish-follows SpE true true marks cell c p h = IsUpToDate-gone _ p
publish-follows SpE true false marks cell c p h = IsUpToDate-gone _ p
publish-follows SpE false _ marks cell c p h = IsUpToDate-refreshed SpE SpS marks cell c p h refl refl

-- another core's publish or straight store, against the line as it is after it
pub other_publish-follows : (s : LineState) (marks : Marks) → FollowsPublish s marks (Tables.other_publish s marks)
other_publish-follows s marks = publish-follows s marks.loaded (Tables.is_written marks) marks

-- a copy whose test of modified words fails has an empty mask
empty_mask : (marks : Marks) → Tables.is_written marks ≡ false → marks.bytes ≡ 0
empty_mask marks e = eqb-true marks.bytes 0 (not-false (marks.bytes == 0) e)

violation_by : (s : LineState) (modified : Bool) (marks : Marks) → Tables.is_written marks ≡ modified
    → KeepsUpToDate s marks (Tables.next (Tables.violation_table s modified) Tables.no_marks)
violation_by I _ marks e cell c h = IsUpToDate-gone cell c
violation_by S _ marks e cell c h = IsUpToDate-unmarked S S marks cell c h refl (h.not_modified refl) refl
violation_by E _ marks e cell c h = IsUpToDate-unmarked E E marks cell c h refl (h.not_modified refl) refl
violation_by M _ marks e cell c h = IsUpToDate-unmarked M M marks cell c h refl (h.not_modified refl) refl
violation_by SpS true marks e cell c h = IsUpToDate-gone cell c
violation_by SpS false marks e cell c h = IsUpToDate-unmarked SpS S marks cell c h refl (empty_mask marks e) refl
violation_by SpE true marks e cell c h = IsUpToDate-gone cell c
violation_by SpE false marks e cell c h = IsUpToDate-unmarked SpE E marks cell c h refl (empty_mask marks e) refl

-- the violation of the owner's epoch
pub violation-keeps : (s : LineState) (marks : Marks) → KeepsUpToDate s marks (Tables.violation s marks)
violation-keeps s marks = violation_by s (Tables.is_written marks) marks refl

settled_by : (s : LineState) (modified alone : Bool) (marks : Marks)
    → Publishes s marks (Tables.next (Tables.settlement_table s modified alone) Tables.no_marks)
settled_by I _ _ marks cell c h = IsUpToDate-gone cell _
settled_by S _ _ marks cell c h = IsUpToDate-settled S S marks cell c h refl refl
settled_by E _ _ marks cell c h = IsUpToDate-settled E E marks cell c h refl refl
settled_by M _ _ marks cell c h = IsUpToDate-settled M M marks cell c h refl refl
settled_by SpS true true marks cell c h = IsUpToDate-settled SpS M marks cell c h refl refl
settled_by SpS true false marks cell c h = IsUpToDate-settled SpS S marks cell c h refl refl
settled_by SpS false _ marks cell c h = IsUpToDate-settled SpS S marks cell c h refl refl
settled_by SpE true _ marks cell c h = IsUpToDate-settled SpE M marks cell c h refl refl
settled_by SpE false _ marks cell c h = IsUpToDate-settled SpE E marks cell c h refl refl

-- the owner's own publish, against the line as it is after it
pub settlement-publishes : (s : LineState) (marks : Marks) (alone : Bool)
    → Publishes s marks (Tables.settlement s marks alone)
settlement-publishes s marks alone = settled_by s (Tables.is_written marks) alone marks

-- the owner's load of a line that it holds
pub own_load-keeps : (s : LineState) (marks : Marks) (offset width : ℕ) (alone : Bool) → IsWidth width
    → is_valid s ≡ true → KeepsUpToDate s marks (Tables.own_load s marks offset width alone)
own_load-keeps I marks offset width alone w v cell c h = cc
own_load-keeps S marks offset width alone w v cell c h =
    IsUpToDate-loaded SpS Tables.no_marks offset width cell c refl (width-bounds width w).0 (outside-empty S marks cell c h refl refl)
own_load-keeps E marks offset width alone w v cell c h =
    IsUpToDate-loaded SpE Tables.no_marks offset width cell c refl (width-bounds width w).0 (outside-empty E marks cell c h refl refl)
own_load-keeps M marks offset width alone w v cell c h =
    IsUpToDate-loaded SpE Tables.no_marks offset width cell c refl (width-bounds width w).0 (outside-empty M marks cell c h refl refl)
own_load-keeps SpS marks offset width alone w v cell c h =
    IsUpToDate-loaded SpS marks offset width cell c refl (width-bounds width w).0 (λ x out. h.agrees x refl out)
own_load-keeps SpE marks offset width alone w v cell c h =
    IsUpToDate-loaded SpE marks offset width cell c refl (width-bounds width w).0 (λ x out. h.agrees x refl out)

-- the owner's load of a line that it fetches
pub own_load-filled : (s : LineState) (marks : Marks) (offset width : ℕ) (alone : Bool) → IsWidth width
    → is_valid s ≡ false → FilledIsUpToDate (Tables.own_load s marks offset width alone)
own_load-filled I marks offset width true w v c =
    IsUpToDate-loaded SpE Tables.no_marks offset width c c refl (width-bounds width w).0 (λ x _. refl)
own_load-filled I marks offset width false w v c =
    IsUpToDate-loaded SpS Tables.no_marks offset width c c refl (width-bounds width w).0 (λ x _. refl)
own_load-filled S marks offset width alone w v c = cc
own_load-filled E marks offset width alone w v c = cc
own_load-filled M marks offset width alone w v c = cc
own_load-filled SpS marks offset width alone w v c = cc
own_load-filled SpE marks offset width alone w v c = cc

-- every row of the table of an own load, and of an own store, leads to a marked state
own_load-speculative : (s : LineState) (alone : Bool) → is_speculative (Tables.own_load_table s alone).state ≡ true
own_load-speculative I true = refl
own_load-speculative I false = refl
own_load-speculative S _ = refl
own_load-speculative E _ = refl
own_load-speculative M _ = refl
own_load-speculative SpS _ = refl
own_load-speculative SpE _ = refl

own_store-speculative : (s : LineState) (modified alone : Bool)
    → is_speculative (Tables.own_store_table s modified alone).state ≡ true
own_store-speculative I _ true = refl
own_store-speculative I _ false = refl
own_store-speculative S _ true = refl
own_store-speculative S _ false = refl
own_store-speculative E _ true = refl
own_store-speculative E _ false = refl
own_store-speculative M _ true = refl
own_store-speculative M _ false = refl
own_store-speculative SpS true _ = refl
own_store-speculative SpS false true = refl
own_store-speculative SpS false false = refl
own_store-speculative SpE _ _ = refl

-- in a marked state the marks stay
marks_stay : (s' : LineState) (m : Marks) → is_speculative s' ≡ true → Tables.marks_of s' m ≡ m
marks_stay s' m e = rw e refl

-- the marks after a load
pub own_load-marks : (s : LineState) (marks : Marks) (offset width : ℕ) (alone : Bool)
    → (Tables.own_load s marks offset width alone).marks
    ≡ Tables.marks_after_load (Tables.marks_of s marks) offset width
own_load-marks s marks offset width alone =
    marks_stay (Tables.own_load_table s alone).state (Tables.marks_after_load (Tables.marks_of s marks) offset width)
    (own_load-speculative s alone)

-- a byte that a load reads and that the owner has not stored marks the line as loaded
pub own_load-read : (s : LineState) (marks : Marks) (offset width : ℕ) (alone : Bool)
    → MarksRead offset width (Tables.own_load s marks offset width alone)
own_load-read s marks offset width alone x within out =
    let m : Marks = Tables.marks_of s marks in
    let e : (Tables.own_load s marks offset width alone).marks ≡ Tables.marks_after_load m offset width =
    own_load-marks s marks offset width alone in
    ap (λ (marks : Marks). marks.loaded) e
    ∙ or_right m.loaded (not (has_all m.bytes offset width))
    (not_from_false (has_all m.bytes offset width) (has_all-false m.bytes offset width x within (sym (ap (λ (marks : Marks). has marks.bytes x) e) ∙ out)))

-- the marks after a store
pub own_store-marks : (s : LineState) (marks : Marks) (offset width : ℕ) (alone : Bool)
    → (Tables.own_store s marks offset width alone).marks
    ≡ Tables.marks_after_store (Tables.marks_of s marks) offset width
own_store-marks s marks offset width alone =
    marks_stay (Tables.own_store_table s (Tables.is_written (Tables.marks_of s marks)) alone).state
    (Tables.marks_after_store (Tables.marks_of s marks) offset width)
    (own_store-speculative s (Tables.is_written (Tables.marks_of s marks)) alone)

-- the mask after a store
pub own_store-mask : (s : LineState) (marks : Marks) (offset width : ℕ) (alone : Bool) (x : ℕ)
    → has (Tables.own_store s marks offset width alone).marks.bytes x
    ≡ (has (Tables.marks_of s marks).bytes x || is_within offset width x)
own_store-mask s marks offset width alone x =
    ap (λ (marks : Marks). has marks.bytes x) (own_store-marks s marks offset width alone)
    ∙ has-with_bytes (Tables.marks_of s marks).bytes offset width x

-- the mask after a store within a line
pub own_store-within_line : (s : LineState) (marks : Marks) (offset width : ℕ) (alone : Bool) (length : ℕ)
    → offset + width ≤ length → IsWithinLine length (Tables.marks_of s marks).bytes
    → IsWithinLine length (Tables.own_store s marks offset width alone).marks.bytes
own_store-within_line s marks offset width alone length inside within =
    rw (own_store-marks s marks offset width alone)
    (with_bytes-within length (Tables.marks_of s marks).bytes offset width within inside)

-- the marks that a copy carries are within the line where its marks are
pub marks_of-within_line : (s : LineState) (marks : Marks) (length : ℕ) → IsWithinLine length marks.bytes
    → IsWithinLine length (Tables.marks_of s marks).bytes
marks_of-within_line s marks length within = choice (is_speculative s)
  where
    choice : (b : Bool) → IsWithinLine length (cond b marks Tables.no_marks).bytes
    choice true = within
    choice false = pow_pos length

-- a valid copy agrees outside the mask that it carries
carried-agrees : (s : LineState) (marks : Marks) (cell c : ℕ → ℕ) → IsUpToDate (copy_of s marks cell) c
    → is_valid s ≡ true → (x : ℕ) → has (Tables.marks_of s marks).bytes x ≡ false → cell x ≡ c x
carried-agrees I marks cell c h v x out = cc
carried-agrees S marks cell c h v x out = outside-empty S marks cell c h refl refl x out
carried-agrees E marks cell c h v x out = outside-empty E marks cell c h refl refl x out
carried-agrees M marks cell c h v x out = outside-empty M marks cell c h refl refl x out
carried-agrees SpS marks cell c h v x out = h.agrees x refl out
carried-agrees SpE marks cell c h v x out = h.agrees x refl out

-- a store in a marked state
stored_in : (s' : LineState) (m : Marks) (offset width : ℕ) (cell committed : ℕ → ℕ) → is_speculative s' ≡ true
    → 0 < width
    → ((x : ℕ) → has (Tables.marks_of s' (Tables.marks_after_store m offset width)).bytes x ≡ false → cell x ≡ committed x)
    → IsUpToDate (copy_of s' (Tables.marks_of s' (Tables.marks_after_store m offset width)) cell) committed
stored_in I m offset width cell c e = cc
stored_in S m offset width cell c e = cc
stored_in E m offset width cell c e = cc
stored_in M m offset width cell c e = cc
stored_in SpS m offset width cell c e = IsUpToDate-stored SpS m offset width cell c refl
stored_in SpE m offset width cell c e = IsUpToDate-stored SpE m offset width cell c refl

-- the owner's store to a line that it holds
pub own_store-keeps : (s : LineState) (marks : Marks) (offset width : ℕ) (alone : Bool) → IsWidth width
    → is_valid s ≡ true → KeepsUpToDateAtStore s marks (Tables.own_store s marks offset width alone)
own_store-keeps s marks offset width alone w v cell stored c h same =
    let s' : LineState = (Tables.own_store_table s (Tables.is_written (Tables.marks_of s marks)) alone).state in
    let m : Marks = Tables.marks_of s marks in
    let e : is_speculative s' ≡ true = own_store-speculative s (Tables.is_written (Tables.marks_of s marks)) alone in
    stored_in s' m offset width stored c e (width-bounds width w).0
    (λ x out. same x out
    ∙ carried-agrees s marks cell c h v x
    (has-before m.bytes offset width x (rw (marks_stay s' (Tables.marks_after_store m offset width) e) at out)))

-- the owner's store to a line that it fetches
pub own_store-filled : (s : LineState) (marks : Marks) (offset width : ℕ) (alone : Bool) → IsWidth width
    → is_valid s ≡ false → StoredIsUpToDate (Tables.own_store s marks offset width alone)
own_store-filled I marks offset width alone w v stored c same =
    stored_in (Tables.own_store_table I false alone).state Tables.no_marks offset width stored c
    (own_store-speculative I false alone) (width-bounds width w).0 same
own_store-filled S marks offset width alone w v stored c same = cc
own_store-filled E marks offset width alone w v stored c same = cc
own_store-filled M marks offset width alone w v stored c same = cc
own_store-filled SpS marks offset width alone w v stored c same = cc
own_store-filled SpE marks offset width alone w v stored c same = cc
