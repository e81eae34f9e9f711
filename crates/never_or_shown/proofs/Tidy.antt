-- One core of the bus: what its marks and its buffer say of the path of its epoch.
use Rattle.std.proofs.Common.{◌≡◌, ℕ, ◌==◌, ◌||◌, ◌&&◌, not, Bool, true, false, cond, List, [], ◌∷◌, ◌++◌, Option, refl, sym, ap, subst, ◌∙◌, inl, inr, arith, eqb-true}
use Rattle.std.proofs.lemmas.Bool.{cases_Bool}
use Rattle.std.proofs.lemmas.Bool.Decides.{nat_tests}
use Rattle.memory_bytes.proofs.SmallFacts.{enters_new, or_and_false, or_and_true, was_or_enters}
use Rattle.spec_states.specs.declared.line.LineState.{LineState}
use Rattle.spec_states.specs.declared.line.LineState.TheVariants.{I, S, E, M, SpS, SpE}
use Rattle.spec_states.specs.declared.line.Marks.{Marks}
use Rattle.spec_states.specs.declared.next.Next.{Next}
use Rattle.spec_states.specs.Copies.{LineCopy, copy_of, no_copy, IsMarked, IsUpToDate}
use Rattle.spec_states.specs.Mask.{has}
use Rattle.spec_states.specs.Rows.{requires_ownership}
use Rattle.spec_states.specs.States.{is_valid, is_speculative}
use Rattle.spec_states.specs.Tables.{is_written, marks_of, no_marks}
use Rattle.spec_states.proofs.MaskLaws.{has-zero}
use Rattle.orb.specs.Lines.{Buffer, holds, IsEachOnce}
use Rattle.orb.proofs.EachOnce.{holds-push, IsEachOnce-push}
use Rattle.violations.specs.declared.attempt.Attempt.{Attempt}
use Rattle.bus_states.specs.Bus.{CoreState}
use Rattle.bus_states.specs.Coherent.{speculates}
use Rattle.bus_states.specs.Messages.{Room, with_copy, with_entry, changed_core, leaves, without_line}
use Rattle.bus_states.proofs.Copies.{made, made-required, made-state, unrequired}
use Rattle.bus_states.proofs.Cores.{entry-holds}

-- ---- copies

-- the marks of a copy go with its state
pub record IsRight (state : LineState) (marks : Marks) : Type 0 where
  pub not_loaded : is_speculative state ≡ false → marks.loaded ≡ false
  pub not_modified : is_speculative state ≡ false → marks.bytes ≡ 0
  pub marked : is_speculative state ≡ true → IsMarked marks

abbrev pub no_bytes : ℕ → ℕ
no_bytes x = 0

pub as_copy : (state : LineState) (marks : Marks) → IsRight state marks → IsUpToDate (copy_of state marks no_bytes) no_bytes
as_copy state marks r = record { not_loaded = r.not_loaded; not_modified = r.not_modified; marked = r.marked; agrees = λ x v out. refl }

pub from_copy : (copy : LineCopy) (c : ℕ → ℕ) → IsUpToDate copy c → IsRight copy.state copy.marks
from_copy copy c up = record { not_loaded = up.not_loaded; not_modified = up.not_modified; marked = up.marked }

-- and say what the epoch has read and stored in the line
pub record IsFit (reads writes : Type 0) (state : LineState) (marks : Marks) : Type 0 where
  pub right : IsRight state marks
  pub read : marks.loaded ≡ true → reads
  pub written : is_written marks ≡ true → writes

pub none-fit : (reads writes : Type 0) → IsFit reads writes no_copy.state no_copy.marks
none-fit reads writes = record {
  right = record { not_loaded = λ e. refl; not_modified = λ e. refl; marked = λ e. absurd cc };
  read = λ e. absurd cc;
  written = λ e. absurd cc;
}

pub made-fit : (reads writes : Type 0) (s : LineState) (marks : Marks) (cell : ℕ → ℕ) → IsFit reads writes s marks
    → IsFit reads writes (made s marks cell).state (made s marks cell).marks
made-fit reads writes s marks cell fit = pick (is_valid s)
  where
    pick : (b : Bool) → IsFit reads writes (cond b (copy_of s marks cell) no_copy).state (cond b (copy_of s marks cell) no_copy).marks
    pick true = fit
    pick false = none-fit reads writes

-- ---- cores

-- the buffer lists, each once, the lines whose publish has to be told, and these are shared; a core that doesn't speculate has no marks
pub record IsTidy (reads writes shared : ℕ → Type 0) (core : CoreState) : Type 0 where
  pub listed : (a : ℕ) → holds core.buffer.lines a ≡ requires_ownership (core.copy a).state (core.copy a).marks
  pub once : IsEachOnce core.buffer.lines
  pub share : (a : ℕ) → holds core.buffer.lines a ≡ true → shared a
  pub fit : (a : ℕ) → IsFit (reads a) (writes a) (core.copy a).state (core.copy a).marks
  pub unmarked : speculates core.attempt ≡ false → (a : ℕ) → is_speculative (core.copy a).state ≡ false

-- no byte that the core has stored goes
abbrev pub KeepsMasks : CoreState → CoreState → Type 0
KeepsMasks old new = (a x : ℕ) → has (old.copy a).marks.bytes x ≡ true → has (new.copy a).marks.bytes x ≡ true

-- the copy at any address, where one has changed
pub by_addr : (P : ℕ → LineCopy → Type 0) (old : ℕ → LineCopy) (addr : ℕ) (copy : LineCopy) (a : ℕ) → P addr copy → P a (old a) → P a (cond (addr == a) copy (old a))
by_addr P old addr copy a here there =
    elim (addr == a) as (λ b. (addr == a) ≡ b → P a (cond b copy (old a))) [
      | true ↦ λ e. let at : addr ≡ a = grind (arith, nat_tests) in subst (λ (x : ℕ). P x copy) at here
      | false ↦ λ e. there
    ] refl

-- ---- buffers

entry-once : (enters : Bool) (addr : ℕ) (buffer : Buffer) → IsEachOnce buffer.lines → (enters ≡ true → holds buffer.lines addr ≡ false)
    → IsEachOnce (with_entry enters addr buffer).lines
entry-once true addr buffer once out = IsEachOnce-push buffer.lines addr once (out refl)
entry-once false addr buffer once out = once

entry-share : (H : ℕ → Type 0) (lines : List ℕ) (addr a : ℕ) → ((x : ℕ) → holds lines x ≡ true → H x) → H addr → holds (lines ++ addr ∷ []) a ≡ true → H a
entry-share H lines addr a old new is = elim (cases_Bool (holds lines a)) [
  | inl held ↦ old a held
  | inr out ↦ let same : addr ≡ a = eqb-true addr a (sym (ap (λ b. b || (addr == a)) out) ∙ (sym (holds-push lines addr a) ∙ is)) in subst H same new
]

share-after : (H : ℕ → Type 0) (enters : Bool) (addr a : ℕ) (buffer : Buffer) → ((x : ℕ) → holds buffer.lines x ≡ true → H x) → (enters ≡ true → H addr)
    → holds (with_entry enters addr buffer).lines a ≡ true → H a
share-after H true addr a buffer old new is = entry-share H buffer.lines addr a old (new refl) is
share-after H false addr a buffer old new is = old a is

-- ---- one copy of a core changes

-- what a change says of the line
pub record IsChange (reads writes shared : Type 0) (attempt : Option Attempt) (copy : LineCopy) (next : Next) : Type 0 where
  pub enters : next.enters ≡ (requires_ownership next.state next.marks && not (requires_ownership copy.state copy.marks))
  pub stays_required : requires_ownership copy.state copy.marks ≡ true → requires_ownership next.state next.marks ≡ true
  pub fit : IsFit reads writes next.state next.marks
  pub entered : next.enters ≡ true → shared
  pub unmarked : speculates attempt ≡ false → is_speculative next.state ≡ false

module _ (R W H : ℕ → Type 0) (core : CoreState) (h : IsTidy R W H core) where
  pub changed-tidy : (addr : ℕ) (next : Next) (cell : ℕ → ℕ) → IsChange (R addr) (W addr) (H addr) core.attempt (core.copy addr) next → IsTidy R W H (changed_core addr next cell core)
  changed-tidy addr next cell t =
      record {
        listed =
            λ a. entry-holds next.enters addr a core.buffer
            ∙ elim (addr == a) as (λ b. (addr == a) ≡ b → (holds core.buffer.lines a || (next.enters && b)) ≡ requires_ownership (cond b (made next.state next.marks cell) (core.copy a)).state (cond b (made next.state next.marks cell) (core.copy a)).marks) [
              | true ↦ λ e.
                  let at : addr ≡ a = grind (arith, nat_tests) in
                  rw (← at) (or_and_true next.enters _ _ (was_or_enters (holds core.buffer.lines addr) _ _ next.enters (h.listed addr) t.enters t.stays_required) ∙ sym (made-required next.state next.marks cell))
              | false ↦ λ e. or_and_false (holds core.buffer.lines a) next.enters ∙ h.listed a
            ] refl;
        once = entry-once next.enters addr core.buffer h.once (enters_new (holds core.buffer.lines addr) _ _ next.enters (h.listed addr) t.enters);
        share = λ a. share-after H next.enters addr a core.buffer h.share t.entered;
        fit = λ a. by_addr (λ x copy. IsFit (R x) (W x) copy.state copy.marks) core.copy addr (made next.state next.marks cell) a
            (made-fit (R addr) (W addr) next.state next.marks cell t.fit) (h.fit a);
        unmarked = λ s a. by_addr (λ x copy. is_speculative copy.state ≡ false) core.copy addr (made next.state next.marks cell) a
            (ap is_speculative (made-state next.state next.marks cell) ∙ t.unmarked s) (h.unmarked s a);
      }

  -- the buffer is as it was
  pub with_copy-tidy : (addr : ℕ) (copy : LineCopy) → IsFit (R addr) (W addr) copy.state copy.marks
      → requires_ownership copy.state copy.marks ≡ requires_ownership (core.copy addr).state (core.copy addr).marks
      → (speculates core.attempt ≡ false → is_speculative copy.state ≡ false) → IsTidy R W H (with_copy addr copy core)
  with_copy-tidy addr copy fit same unmarked =
      record {
        listed = λ a. by_addr (λ x c. holds core.buffer.lines x ≡ requires_ownership c.state c.marks) core.copy addr copy a (h.listed addr ∙ sym same) (h.listed a);
        once = h.once;
        share = h.share;
        fit = λ a. by_addr (λ x c. IsFit (R x) (W x) c.state c.marks) core.copy addr copy a fit (h.fit a);
        unmarked = λ s a. by_addr (λ x c. is_speculative c.state ≡ false) core.copy addr copy a (unmarked s) (h.unmarked s a);
      }

  -- an unmarked line leaves
  pub without_line-tidy : (addr : ℕ) (room : Option Room) → ((a : ℕ) → leaves room a ≡ true → is_speculative (core.copy a).state ≡ false)
      → IsTidy R W H (without_line addr room core)
  without_line-tidy addr room unmarked =
      record {
        listed = λ a. gone (λ c. holds core.buffer.lines a ≡ requires_ownership c.state c.marks) a
            (λ e. h.listed a ∙ unrequired (core.copy a).state (core.copy a).marks (unmarked a e)) (h.listed a);
        once = h.once;
        share = h.share;
        fit = λ a. gone (λ c. IsFit (R a) (W a) c.state c.marks) a (λ e. none-fit (R a) (W a)) (h.fit a);
        unmarked = λ s a. gone (λ c. is_speculative c.state ≡ false) a (λ e. refl) (h.unmarked s a);
      }
    where
      gone : (P : LineCopy → Type 0) (a : ℕ) → (leaves room a ≡ true → P no_copy) → P (core.copy a) → P (cond (leaves room a) no_copy (core.copy a))
      gone P a none there = elim (leaves room a) as (λ b. leaves room a ≡ b → P (cond b no_copy (core.copy a))) [
        | true ↦ λ e. none e
        | false ↦ λ e. there
      ] refl

  pub without_line-masks : (addr : ℕ) (room : Option Room) → ((a : ℕ) → leaves room a ≡ true → is_speculative (core.copy a).state ≡ false)
      → KeepsMasks core (without_line addr room core)
  without_line-masks addr room unmarked a x had = pick (leaves room a) refl
    where
      pick : (b : Bool) → leaves room a ≡ b → has (cond b no_copy (core.copy a)).marks.bytes x ≡ true
      pick true e =
          let none : (core.copy a).marks.bytes ≡ 0 = (h.fit a).right.not_modified (unmarked a e) in
          let out = sym (has-zero x) ∙ (ap (λ n. has n x) (sym none) ∙ had) in absurd cc
      pick false e = had

  -- a core without marks says the same of any epoch
  pub clear-tidy : (R' W' H' : ℕ → Type 0) → ((a : ℕ) → is_speculative (core.copy a).state ≡ false) → IsTidy R' W' H' core
  clear-tidy R' W' H' clear =
      record {
        listed = h.listed;
        once = h.once;
        share = λ a is. let out = sym (unrequired (core.copy a).state (core.copy a).marks (clear a)) ∙ (sym (h.listed a) ∙ is) in absurd cc;
        fit = λ a. record {
          right = (h.fit a).right;
          read = λ is. let out = sym ((h.fit a).right.not_loaded (clear a)) ∙ is in absurd cc;
          written = λ is. let none = (h.fit a).right.not_modified (clear a) in let out = sym (ap (λ n. not (n == 0)) none) ∙ is in absurd cc;
        };
        unmarked = λ s. clear;
      }

-- ---- masks

pub with_copy-masks : (core : CoreState) (addr : ℕ) (copy : LineCopy)
    → ((x : ℕ) → has (core.copy addr).marks.bytes x ≡ true → has copy.marks.bytes x ≡ true) → KeepsMasks core (with_copy addr copy core)
with_copy-masks core addr copy keeps a x had =
    by_addr (λ y c. has (core.copy y).marks.bytes x ≡ true → has c.marks.bytes x ≡ true) core.copy addr copy a (keeps x) (λ was. was) had

pub made-mask : (s : LineState) (marks : Marks) (cell : ℕ → ℕ) (x : ℕ) → is_valid s ≡ true → has marks.bytes x ≡ true → has (made s marks cell).marks.bytes x ≡ true
made-mask s marks cell x valid is = ap (λ b. has (cond b (copy_of s marks cell) no_copy).marks.bytes x) valid ∙ is

pub changed-masks : (core : CoreState) (addr : ℕ) (next : Next) (cell : ℕ → ℕ)
    → ((x : ℕ) → has (core.copy addr).marks.bytes x ≡ true → (is_valid next.state ≡ true) × (has next.marks.bytes x ≡ true)) → KeepsMasks core (changed_core addr next cell core)
changed-masks core addr next cell keeps =
    with_copy-masks core addr (made next.state next.marks cell) (λ x had. let kept = keeps x had in made-mask next.state next.marks cell x kept.0 kept.1)

-- a byte of the mask is one of a marked copy
pub mask-marked : (s : LineState) (marks : Marks) (x : ℕ) → IsRight s marks → has marks.bytes x ≡ true → is_speculative s ≡ true
mask-marked s marks x right had = elim (cases_Bool (is_speculative s)) [
  | inl marked ↦ marked
  | inr clear ↦ let out = sym (has-zero x) ∙ (ap (λ n. has n x) (sym (right.not_modified clear)) ∙ had) in absurd cc
]

-- the marks that a copy carries
pub carried-loaded : (s : LineState) (marks : Marks) → (marks_of s marks).loaded ≡ true → marks.loaded ≡ true
carried-loaded s marks = pick (is_speculative s)
  where
    pick : (b : Bool) → (cond b marks no_marks).loaded ≡ true → marks.loaded ≡ true
    pick true is = is
    pick false is = absurd cc

pub carried-written : (s : LineState) (marks : Marks) → is_written (marks_of s marks) ≡ true → (is_speculative s ≡ true) × (is_written marks ≡ true)
carried-written s marks = pick (is_speculative s)
  where
    pick : (b : Bool) → is_written (cond b marks no_marks) ≡ true → (b ≡ true) × (is_written marks ≡ true)
    pick true is = (refl, is)
    pick false is = absurd cc

pub carried-mask : (s : LineState) (marks : Marks) (x : ℕ) → IsRight s marks → has marks.bytes x ≡ true → has (marks_of s marks).bytes x ≡ true
carried-mask s marks x right had = ap (λ b. has (cond b marks no_marks).bytes x) (mask-marked s marks x right had) ∙ had

pub required-written : (s : LineState) (marks : Marks) → requires_ownership s marks ≡ true → is_written marks ≡ true
required-written I marks e = absurd cc
required-written S marks e = absurd cc
required-written E marks e = absurd cc
required-written M marks e = absurd cc
required-written SpS marks e = e
required-written SpE marks e = absurd cc

-- ---- a core in a call of another, or in one of its own

-- its marks and its buffer are still in order, it has its attempt, and no byte that it has stored goes
pub record Stays (reads writes shared : ℕ → Type 0) (old new : CoreState) : Type 0 where
  pub tidy : IsTidy reads writes shared new
  pub masks : KeepsMasks old new
  pub attempt : new.attempt ≡ old.attempt
  pub limit : new.buffer.limit ≡ old.buffer.limit

pub stays-same : (R W H : ℕ → Type 0) (core : CoreState) → IsTidy R W H core → Stays R W H core core
stays-same R W H core h = record { tidy = h; masks = λ a x had. had; attempt = refl; limit = refl }

pub stays-then : (R W H : ℕ → Type 0) (a b c : CoreState) → Stays R W H a b → Stays R W H b c → Stays R W H a c
stays-then R W H a b c first second = record {
  tidy = second.tidy;
  masks = λ x y had. second.masks x y (first.masks x y had);
  attempt = second.attempt ∙ first.attempt;
  limit = second.limit ∙ first.limit;
}
