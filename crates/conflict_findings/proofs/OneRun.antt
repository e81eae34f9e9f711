-- What a run is, and where none is.
use Rattle.std.proofs.Common.{◌≡◌, ℕ, not, ◌&&◌, Bool, true, false, List, [], ◌++◌, Option, Some, None, if◌then◌else◌, refl, sym, ap, ◌∙◌}
use Rattle.std.proofs.lemmas.List.{append-nil, append_assoc}
use Rattle.rv32_image.specs.Image.{LoadedImage}
use Rattle.spec_history.specs.declared.entry.Entry.{Entry}
use Rattle.spec_history.specs.declared.entry.What.{What}
use Rattle.spec_history.specs.FlatState.{FlatState}
use Rattle.spec_history.specs.Refusal.{any_below}
use Rattle.conflicts.specs.declared.explanation.Blame.{Blame}
use Rattle.conflicts.specs.declared.explanation.ByteRange.{ByteRange}
use Rattle.conflicts.specs.declared.explanation.Explanation.{Explanation}
use Rattle.spec_history.specs.declared.kind.Kind.TheVariants.{TrueSharing}
use Rattle.conflicts.specs.Attempts.{covers}
use Rattle.conflicts.specs.Blame.{Violation, blamed_range}
use Rattle.spec_history.specs.Conflict.{is_changed, is_shared}
use Rattle.conflict_findings.specs.declared.run.Run.{Run}
use Rattle.conflict_findings.specs.Runs.{begins_blamed, is_falsely_shared, line_run, run_from, run_kind, run_with, runs_by, shared_run}

-- the run that was made
pub made : (image : LoadedImage) (entries : List Entry) (v : Violation) (load a store : ℕ) (bytes : ByteRange) (changes : Bool)
    → bytes ≡ blamed_range image entries v load store a → changes ≡ any_below image.size (λ x. covers bytes.first bytes.length x && is_changed v.bytes x)
    → record { kind = if changes then TrueSharing else v.kind; load = load; store = store; bytes = bytes } ≡ run_with image entries v load a store
made image entries v load a store bytes changes by_range by_changes =
    ap (λ (b : Bool). record { kind = if b then TrueSharing else v.kind; load = load; store = store; bytes = bytes }) by_changes
    ∙ ap (λ (r : ByteRange). record { kind = run_kind image v.bytes v.kind r; load = load; store = store; bytes = r }) by_range

-- ---- none

pub unshared : (image : LoadedImage) (entries : List Entry) (blame : Option Blame) (v : Violation) (a : ℕ) → is_shared v.bytes a ≡ false → shared_run image entries blame v a ≡ None
unshared image entries blame v a is = rw is refl

pub no_line : (image : LoadedImage) (entries : List Entry) (blame : Option Blame) (v : Violation) (line : ℕ) → is_falsely_shared image v.bytes line ≡ false → line_run image entries blame v line ≡ None
no_line image entries blame v line is = rw is refl

either_none : (b : Bool) (run : Option Run) → run ≡ None → (if b then run else None) ≡ None
either_none true run is = is
either_none false run is = refl

-- where no run begins
pub unshared_within : (image : LoadedImage) (entries : List Entry) (blame : Option Blame) (v : Violation) (a : ℕ) → run_from image entries v a ≡ None → shared_run image entries blame v a ≡ None
unshared_within image entries blame v a none = either_none (is_shared v.bytes a && not (begins_blamed blame a)) (run_from image entries v a) none

no_what : (image : LoadedImage) (s : FlatState) (entries : List Entry) (e : Explanation) (cause : Option ℕ) → runs_by image s entries e cause None ≡ []
no_what image s entries e None = refl
no_what image s entries e (Some cause) = refl

pub without_entry : (image : LoadedImage) (s : FlatState) (entries : List Entry) (e : Explanation) (what : Option What) → what ≡ None → runs_by image s entries e e.cause what ≡ []
without_entry image s entries e what none = ap (runs_by image s entries e e.cause) none ∙ no_what image s entries e e.cause

pub with_entry : (image : LoadedImage) (s : FlatState) (entries : List Entry) (e : Explanation) (given : Option What) (cause : ℕ) (what : What) → e.cause ≡ Some cause → given ≡ Some what
    → runs_by image s entries e e.cause given ≡ runs_by image s entries e (Some cause) (Some what)
with_entry image s entries e given cause what is there =
    ap (λ (o : Option ℕ). runs_by image s entries e o given) is ∙ ap (runs_by image s entries e (Some cause)) there

-- two lists behind a third
pub joined : (items mid new first second other all : List Run) → mid ≡ items ++ first → second ≡ other → all ≡ first ++ other → new ≡ mid ++ second → new ≡ items ++ all
joined items mid new first second other all by_mid same by_all grown =
    grown ∙ (ap (λ xs. xs ++ second) by_mid ∙ (append_assoc items first second ∙ ap (λ xs. items ++ xs) (ap (λ xs. first ++ xs) same ∙ sym by_all)))

-- nothing behind a list
pub nothing_more : {X : Type 0} (items more : List X) → more ≡ [] → items ≡ items ++ more
nothing_more items more none = sym (ap (λ xs. items ++ xs) none ∙ append-nil items)
