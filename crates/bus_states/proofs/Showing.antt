-- What a core shows of its lines stays: the marks of each copy, and its bytes where they are the core's own.
use Rattle.std.proofs.Common.{◌≡◌, ℕ, ◌%◌, Bool, true, false, cond, refl, sym, ap, ◌∙◌}
use Rattle.std.proofs.lemmas.Bool.{both_ways}
use Rattle.spec_states.specs.declared.line.Marks.{Marks}
use Rattle.spec_states.specs.declared.next.Next.{Next}
use Rattle.spec_states.specs.Copies.{LineCopy, copy_of, no_copy, merged_line, IsUpToDate}
use Rattle.spec_states.specs.Mask.{has}
use Rattle.spec_states.specs.Rows.{GivesWay}
use Rattle.spec_states.specs.States.{is_valid, is_speculative}
use Rattle.spec_states.specs.Tables.{no_marks}
use Rattle.spec_states.proofs.MaskLaws.{has-zero}
use Rattle.spec_states.proofs.RowLaws.{speculative-valid}
use Rattle.rv32_image.specs.Machine.{is_line_length}
use Rattle.violations.specs.Rule.{IsSameCore, IsSpared}
use Rattle.bus_states.specs.declared.notice.Notice.{Notice}
use Rattle.bus_states.specs.declared.notice.Notice.TheVariants.{Load, Store, Publish}
use Rattle.bus_states.specs.Bus.{Bus, committed, sees, line_of, offset_of}
use Rattle.bus_states.specs.Coherent.{IsCoherent}
use Rattle.bus_states.specs.Messages.{bytes_after}
use Rattle.bus_states.specs.Views.{view_of}
use Rattle.bus_states.proofs.Addresses.{line-aligned}
use Rattle.bus_states.proofs.Copies.{made}

-- ---- one copy

pub record Shows (old new : LineCopy) : Type 0 where
  pub loaded : new.marks.loaded ≡ old.marks.loaded
  pub bytes : new.marks.bytes ≡ old.marks.bytes
  pub own_cells : (x : ℕ) → has old.marks.bytes x ≡ true → new.cell x ≡ old.cell x

pub Shows-same : (copy : LineCopy) → Shows copy copy
Shows-same copy = record { loaded = refl; bytes = refl; own_cells = λ x own. refl }

-- an empty mask has no byte
pub none_in : (mask x : ℕ) → mask ≡ 0 → has mask x ≡ false
none_in mask x e = rw e (has-zero x)

-- an unmarked copy that goes
pub Shows-gone : (copy : LineCopy) (c : ℕ → ℕ) → IsUpToDate copy c → is_speculative copy.state ≡ false → Shows copy no_copy
Shows-gone copy c h calm =
    record {
      loaded = sym (h.not_loaded calm);
      bytes = sym (h.not_modified calm);
      own_cells = λ x own. absurd (both_ways (has copy.marks.bytes x) (none_in copy.marks.bytes x (h.not_modified calm)) own);
    }

-- the copy of a core that a message reaches and does not violate
pub Shows-reply : (copy : LineCopy) (c : ℕ → ℕ) (next : Next) (cell : ℕ → ℕ) → IsUpToDate copy c
    → GivesWay copy.state copy.marks next → next.violated ≡ false
    → ((x : ℕ) → has next.marks.bytes x ≡ true → cell x ≡ copy.cell x) → Shows copy (made next.state next.marks cell)
Shows-reply copy c next cell h row spared same = by_mark (is_speculative copy.state) refl
  where
    unmarked : is_speculative copy.state ≡ false → next.marks ≡ no_marks → (b : Bool)
        → Shows copy (cond b (copy_of next.state next.marks cell) no_copy)
    unmarked calm marks true =
        record {
          loaded = ap (λ (m : Marks). m.loaded) marks ∙ sym (h.not_loaded calm);
          bytes = ap (λ (m : Marks). m.bytes) marks ∙ sym (h.not_modified calm);
          own_cells = λ x own. absurd (both_ways (has copy.marks.bytes x) (none_in copy.marks.bytes x (h.not_modified calm)) own);
        }
    unmarked calm marks false = Shows-gone copy c h calm

    by_mark : (b : Bool) → is_speculative copy.state ≡ b → Shows copy (made next.state next.marks cell)
    by_mark true e =
        let valid : is_valid next.state ≡ true = speculative-valid next.state (row.stays_marked spared e) in
        let marks : next.marks ≡ copy.marks = row.keeps_marks spared ∙ rw e refl in
        rw valid
        (record {
          loaded = ap (λ (m : Marks). m.loaded) marks;
          bytes = ap (λ (m : Marks). m.bytes) marks;
          own_cells = λ x own. same x (ap (λ (m : Marks). has m.bytes x) marks ∙ own);
        })
    by_mark false e = unmarked e (row.keeps_marks spared ∙ rw e refl) (is_valid next.state)

-- a message leaves the bytes of the mask
pub bytes_after-own : (notice : Notice) (mask : ℕ) (cell line : ℕ → ℕ) (x : ℕ) → has mask x ≡ true
    → bytes_after notice mask cell line x ≡ cell x
bytes_after-own Load mask cell line x own = refl
bytes_after-own Store mask cell line x own = refl
bytes_after-own Publish mask cell line x own = rw own refl

-- ---- what the core sees

merged-own : (old new : LineCopy) (c d : ℕ → ℕ) (x : ℕ) → Shows old new → has old.marks.bytes x ≡ true
    → merged_line new.marks.bytes new.cell d x ≡ merged_line old.marks.bytes old.cell c x
merged-own old new c d x s own =
    let there : has new.marks.bytes x ≡ true = ap (λ (mask : ℕ). has mask x) s.bytes ∙ own in
    rw (there, own) (s.own_cells x own)

merged-rest : (old new : LineCopy) (d : ℕ → ℕ) (x : ℕ) → Shows old new → has old.marks.bytes x ≡ false
    → merged_line new.marks.bytes new.cell d x ≡ d x
merged-rest old new d x s out =
    let there : has new.marks.bytes x ≡ false = ap (λ (mask : ℕ). has mask x) s.bytes ∙ out in
    rw there refl

pub merged-same : (old new : LineCopy) (c d : ℕ → ℕ) (x : ℕ) → Shows old new → d x ≡ c x
    → merged_line new.marks.bytes new.cell d x ≡ merged_line old.marks.bytes old.cell c x
merged-same old new c d x s same =
    elim (has old.marks.bytes x) as (λ b. has old.marks.bytes x ≡ b → merged_line new.marks.bytes new.cell d x ≡ cond b (old.cell x) (c x)) [
      | true ↦ λ e. merged-own old new c d x s e ∙ rw e refl
      | false ↦ λ e. merged-rest old new d x s e ∙ same
    ] refl

-- ---- the core, as the store's rule sees it

-- the line in which a byte lies, and its place there
abbrev pub line_at : Bus → ℕ → ℕ
line_at bus a = line_of bus.line_length a

abbrev pub place_at : Bus → ℕ → ℕ
place_at bus a = offset_of bus.line_length a

pub aligned_at : (bus : Bus) → IsCoherent bus → (a : ℕ) → line_at bus a % bus.line_length ≡ 0
aligned_at bus h a = line-aligned bus.line_length a h.length_is

-- the core shows each of its lines as before
pub record ShowsSame (old new : Bus) (k : ℕ) : Type 0 where
  pub length_is : is_line_length old.line_length ≡ true
  pub length : new.line_length ≡ old.line_length
  pub copies : (a : ℕ) → a % old.line_length ≡ 0 → Shows ((old.core k).copy a) ((new.core k).copy a)

-- which bytes of the lines the core has modified and loaded, at an address, on a bus with lines as long
pub own_at : (old new : Bus) → new.line_length ≡ old.line_length → (k a : ℕ)
    → (view_of new).own k a ≡ has ((new.core k).copy (line_of old.line_length a)).marks.bytes (offset_of old.line_length a)
own_at old new e k a = ap (λ (n : ℕ). has ((new.core k).copy (line_of n a)).marks.bytes (offset_of n a)) e

pub guarded_at : (old new : Bus) → new.line_length ≡ old.line_length → (k a : ℕ)
    → (view_of new).guarded k a ≡ ((new.core k).copy (line_of old.line_length a)).marks.loaded
guarded_at old new e k a = ap (λ (n : ℕ). ((new.core k).copy (line_of n a)).marks.loaded) e

pub own_stays : (old new : Bus) (k : ℕ) → ShowsSame old new k → (a : ℕ) → (view_of new).own k a ≡ (view_of old).own k a
own_stays old new k s a =
    own_at old new s.length k a
    ∙ ap (λ (mask : ℕ). has mask (offset_of old.line_length a)) (s.copies (line_of old.line_length a) (line-aligned old.line_length a s.length_is)).bytes

pub guarded_stays : (old new : Bus) (k : ℕ) → ShowsSame old new k → (a : ℕ) → (view_of new).guarded k a ≡ (view_of old).guarded k a
guarded_stays old new k s a =
    guarded_at old new s.length k a
    ∙ (s.copies (line_of old.line_length a) (line-aligned old.line_length a s.length_is)).loaded

-- what is committed at an address, on a bus with lines as long
pub committed_at : (old new : Bus) → new.line_length ≡ old.line_length → (a : ℕ)
    → (view_of new).committed a ≡ committed new (line_of old.line_length a) (offset_of old.line_length a)
committed_at old new e a = ap (λ (n : ℕ). committed new (line_of n a) (offset_of n a)) e

-- what a core sees there
pub sees_at : (old new : Bus) → new.line_length ≡ old.line_length → (k a : ℕ)
    → (view_of new).sees k a ≡ sees new k (line_of old.line_length a) (offset_of old.line_length a)
sees_at old new e k a = ap (λ (n : ℕ). sees new k (line_of n a) (offset_of n a)) e

-- a core that shows the same, and of which no line that it has loaded is committed otherwise, is spared
pub spared : (old new : Bus) (k : ℕ) → ShowsSame old new k → (new.core k).attempt ≡ (old.core k).attempt
    → ((a : ℕ) → a % old.line_length ≡ 0 → ((old.core k).copy a).marks.loaded ≡ true → (x : ℕ) → committed new a x ≡ committed old a x)
    → IsSpared (view_of old) (view_of new) k
spared old new k s attempt stands =
    record {
      attempt = attempt;
      own = own_stays old new k s;
      guarded = guarded_stays old new k s;
      sees_own =
          λ a own. sees_at old new s.length k a
          ∙ merged-own ((old.core k).copy (line a)) ((new.core k).copy (line a)) (committed old (line a)) (committed new (line a)) (place a) (s.copies (line a) (aligned a)) own;
      sees_rest =
          λ a out. sees_at old new s.length k a
          ∙ merged-rest ((old.core k).copy (line a)) ((new.core k).copy (line a)) (committed new (line a)) (place a) (s.copies (line a) (aligned a)) out
          ∙ sym (committed_at old new s.length a);
      stands = λ a guarded. committed_at old new s.length a ∙ stands (line a) (aligned a) guarded (place a);
    }
  where
    line : ℕ → ℕ
    line a = line_of old.line_length a

    place : ℕ → ℕ
    place a = offset_of old.line_length a

    aligned : (a : ℕ) → line_of old.line_length a % old.line_length ≡ 0
    aligned a = line-aligned old.line_length a s.length_is

-- beside its own bytes a core sees what is committed
pub unowned-sees : (bus : Bus) (k a : ℕ) → (view_of bus).own k a ≡ false → (view_of bus).sees k a ≡ (view_of bus).committed a
unowned-sees bus k a out = rw out refl

-- where nothing is committed otherwise, it sees what it saw
pub sees_stays : (old new : Bus) (k : ℕ) → ShowsSame old new k
    → ((a : ℕ) → a % old.line_length ≡ 0 → (x : ℕ) → committed new a x ≡ committed old a x)
    → (a : ℕ) → (view_of new).sees k a ≡ (view_of old).sees k a
sees_stays old new k s same a =
    let line : ℕ = line_of old.line_length a in
    let aligned : line % old.line_length ≡ 0 = line-aligned old.line_length a s.length_is in
    sees_at old new s.length k a
    ∙ merged-same ((old.core k).copy line) ((new.core k).copy line) (committed old line) (committed new line) (offset_of old.line_length a)
    (s.copies line aligned) (same line aligned (offset_of old.line_length a))

-- and is as it was
pub same_core : (old new : Bus) (k : ℕ) → ShowsSame old new k → (new.core k).attempt ≡ (old.core k).attempt
    → ((a : ℕ) → a % old.line_length ≡ 0 → (x : ℕ) → committed new a x ≡ committed old a x)
    → IsSameCore (view_of old) (view_of new) k
same_core old new k s attempt same =
    record {
      attempt = attempt;
      own = own_stays old new k s;
      guarded = guarded_stays old new k s;
      sees = sees_stays old new k s same;
    }
