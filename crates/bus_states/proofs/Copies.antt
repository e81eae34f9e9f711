-- One copy: what a change of its state, its marks and its bytes keeps.
use Rattle.std.proofs.Common.{◌≡◌, ℕ, ◌%◌, ◌≤◌, ◌==◌, Bool, true, false, cond, refl, ap, ◌∙◌, arith}
use Rattle.std.proofs.lemmas.Bool.{both_ways}
use Rattle.std.proofs.lemmas.Bool.Decides.{nat_tests}
use Rattle.std.proofs.lemmas.Nat.{pow_pos}
use Rattle.spec_states.specs.declared.line.LineState.{LineState}
use Rattle.spec_states.specs.declared.line.LineState.TheVariants.{I, S, E, M, SpS, SpE}
use Rattle.spec_states.specs.declared.line.Marks.{Marks}
use Rattle.spec_states.specs.Copies.{LineCopy, copy_of, no_copy, IsUpToDate}
use Rattle.spec_states.specs.Mask.{IsWithinLine}
use Rattle.spec_states.specs.Rows.{requires_ownership}
use Rattle.spec_states.specs.States.{is_valid, is_exclusive, is_modified, is_speculative}
use Rattle.spec_states.specs.Tables.{violation}
use Rattle.spec_states.proofs.CopyLaws.{IsUpToDate-gone}
use Rattle.spec_states.proofs.RowLaws.{violation-rolls_back}
use Rattle.cache_lines.specs.Protocol.{IsInPlace, rolled_back_copy}
use Rattle.cache_lines.proofs.CopyLaws.{IsUpToDate-rolled_back}

pub itself : (n : ℕ) → (n == n) ≡ true
itself n = grind (arith, nat_tests)

pub not_so : (a b : Bool) → (a ≡ true → b ≡ true) → b ≡ false → a ≡ false
not_so true b up e = let x : b ≡ true = up refl in cc
not_so false b up e = refl

-- the copy of these, which is none where the state is not valid
abbrev pub made : LineState → Marks → (ℕ → ℕ) → LineCopy
made s marks cell = cond (is_valid s) (copy_of s marks cell) no_copy

pub made-state : (s : LineState) (marks : Marks) (cell : ℕ → ℕ) → (made s marks cell).state ≡ s
made-state I marks cell = refl
made-state S marks cell = refl
made-state E marks cell = refl
made-state M marks cell = refl
made-state SpS marks cell = refl
made-state SpE marks cell = refl

pub made-up_to_date : (s : LineState) (marks : Marks) (cell c : ℕ → ℕ) → IsUpToDate (copy_of s marks cell) c
    → IsUpToDate (made s marks cell) c
made-up_to_date s marks cell c h = pick (is_valid s)
  where
    pick : (b : Bool) → IsUpToDate (cond b (copy_of s marks cell) no_copy) c
    pick true = h
    pick false = IsUpToDate-gone (λ _. 0) c

pub made-required : (s : LineState) (marks : Marks) (cell : ℕ → ℕ)
    → requires_ownership (made s marks cell).state (made s marks cell).marks ≡ requires_ownership s marks
made-required I marks cell = refl
made-required S marks cell = refl
made-required E marks cell = refl
made-required M marks cell = refl
made-required SpS marks cell = refl
made-required SpE marks cell = refl

pub unrequired : (s : LineState) (marks : Marks) → is_speculative s ≡ false → requires_ownership s marks ≡ false
unrequired I marks e = refl
unrequired S marks e = refl
unrequired E marks e = refl
unrequired M marks e = refl
unrequired SpS marks e = cc
unrequired SpE marks e = refl

pub required-valid : (s : LineState) (marks : Marks) → requires_ownership s marks ≡ true → is_valid s ≡ true
required-valid I marks e = cc
required-valid S marks e = refl
required-valid E marks e = refl
required-valid M marks e = refl
required-valid SpS marks e = refl
required-valid SpE marks e = refl

pub exclusive-valid : (s : LineState) → is_exclusive s ≡ true → is_valid s ≡ true
exclusive-valid I e = cc
exclusive-valid S e = refl
exclusive-valid E e = refl
exclusive-valid M e = refl
exclusive-valid SpS e = refl
exclusive-valid SpE e = refl

-- ---- in its place

pub none-in_place : (length addr : ℕ) → IsInPlace length addr no_copy
none-in_place length addr = record { aligned = λ v. cc; mask = pow_pos length; cells = λ x past. refl }

pub made-in_place : (length addr : ℕ) (s : LineState) (marks : Marks) (cell : ℕ → ℕ)
    → (is_valid s ≡ true → addr % length ≡ 0) → IsWithinLine length marks.bytes
    → ((x : ℕ) → length ≤ x → cell x ≡ 0) → IsInPlace length addr (made s marks cell)
made-in_place length addr s marks cell aligned mask past = pick (is_valid s) aligned refl
  where
    pick : (b : Bool) → (b ≡ true → addr % length ≡ 0) → is_valid s ≡ b
        → IsInPlace length addr (cond b (copy_of s marks cell) no_copy)
    pick true f e = record { aligned = λ _. f refl; mask = mask; cells = past }
    pick false f e = none-in_place length addr

pub rolled_back-valid : (copy : LineCopy) → is_valid (rolled_back_copy copy).state ≡ true → is_valid copy.state ≡ true
rolled_back-valid copy =
    rw (made-state (violation copy.state copy.marks).state (violation copy.state copy.marks).marks copy.cell)
    (violation-rolls_back copy.state copy.marks).no_revival

pub rolled_back-exclusive : (copy : LineCopy) → is_exclusive (rolled_back_copy copy).state ≡ true → is_exclusive copy.state ≡ true
rolled_back-exclusive copy =
    rw (made-state (violation copy.state copy.marks).state (violation copy.state copy.marks).marks copy.cell)
    (violation-rolls_back copy.state copy.marks).exclusive

pub rolled_back-modified : (copy : LineCopy) → is_modified (rolled_back_copy copy).state ≡ is_modified copy.state
rolled_back-modified copy =
    ap is_modified (made-state (violation copy.state copy.marks).state (violation copy.state copy.marks).marks copy.cell)
    ∙ (violation-rolls_back copy.state copy.marks).modified

pub rolled_back-in_place : (length addr : ℕ) (copy : LineCopy) → IsInPlace length addr copy
    → IsInPlace length addr (rolled_back_copy copy)
rolled_back-in_place length addr copy h =
    let r = violation-rolls_back copy.state copy.marks in
    made-in_place length addr (violation copy.state copy.marks).state (violation copy.state copy.marks).marks copy.cell
    (λ v. h.aligned (r.no_revival v)) (rw r.clears_marks (pow_pos length)) h.cells

-- ---- a copy that stays, goes or loses its marks

pub record Fades (old new : LineCopy) (c : ℕ → ℕ) : Type 0 where
  pub up_to_date : IsUpToDate new c
  pub valid : is_valid new.state ≡ true → is_valid old.state ≡ true
  pub exclusive : is_exclusive new.state ≡ true → is_exclusive old.state ≡ true

pub Fades-same : (copy : LineCopy) (c : ℕ → ℕ) → IsUpToDate copy c → Fades copy copy c
Fades-same copy c h = record { up_to_date = h; valid = λ e. e; exclusive = λ e. e }

pub Fades-none : (copy : LineCopy) (c : ℕ → ℕ) → Fades copy no_copy c
Fades-none copy c = record { up_to_date = IsUpToDate-gone (λ _. 0) c; valid = λ e. cc; exclusive = λ e. cc }

pub Fades-rolled_back : (copy : LineCopy) (c : ℕ → ℕ) → IsUpToDate copy c → Fades copy (rolled_back_copy copy) c
Fades-rolled_back copy c h =
    record {
      up_to_date = IsUpToDate-rolled_back copy c h;
      valid = rolled_back-valid copy;
      exclusive = rolled_back-exclusive copy;
    }

-- an invalid copy is up to date with any line
pub up_to_date-invalid : (copy : LineCopy) (c d : ℕ → ℕ) → IsUpToDate copy c → is_valid copy.state ≡ false → IsUpToDate copy d
up_to_date-invalid copy c d h e =
    record {
      not_loaded = h.not_loaded;
      not_modified = h.not_modified;
      marked = h.marked;
      agrees = λ x v out. absurd (both_ways (is_valid copy.state) e v);
    }
