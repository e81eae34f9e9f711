-- What became of a violation: the words of the report beside its kind.
use Rattle.std.specs.Prelude.{ℕ, ◌-◌, ◌==◌, ◌&&◌, ◌||◌, Bool, true, false, List, length, Option, Some, None, nat_lt, option_and_then, option_map, slice_get, if◌then◌else◌}
use Rattle.rv32_image.specs.Image.{LoadedImage}
use Rattle.spec_history.specs.declared.entry.Entry.{Entry}
use Rattle.spec_history.specs.declared.entry.What.{What}
use Rattle.spec_history.specs.declared.entry.What.TheVariants.{Hurt, Cancel, Commit, Restart}
use Rattle.conflicts.specs.declared.explanation.Blame.{Blame}
use Rattle.conflicts.specs.declared.explanation.Explanation.{Explanation}
use Rattle.spec_history.specs.declared.kind.Kind.{Kind}
use Rattle.spec_history.specs.declared.kind.Kind.TheVariants.{FullBuffer}
use Rattle.conflicts.specs.declared.explanation.Runner.{Runner}
use Rattle.conflicts.specs.declared.fates.Sign.{Sign}
use Rattle.conflicts.specs.declared.fates.Sign.TheVariants.{Over, Settled}
use Rattle.conflicts.specs.declared.standing.Site.{Site}
use Rattle.spec_history.specs.Searches.{first_below}
use Rattle.spec_history.specs.Conflict.{entry_is, what_at}
use Rattle.conflicts.specs.Blame.{accessed_line, first_stored_in}

-- the first entry after a place that passes the test
abbrev pub first_after : List Entry → ℕ → (Entry → Bool) → Option ℕ
first_after entries place test = first_below (length entries) (λ j. nat_lt place j && entry_is entries j test)

-- a place, if its entry passes the test
abbrev pub only_if : List Entry → (Entry → Bool) → Option ℕ → Option ℕ
only_if entries test place = option_and_then (λ j. if entry_is entries j test then Some j else None) place

abbrev pub cancels : ℕ → What → Bool
cancels epoch (Cancel e) = e == epoch
cancels epoch what = false

-- the epoch is violated or cancelled
abbrev pub undoes : ℕ → What → Bool
undoes epoch (Hurt e) = e == epoch
undoes epoch (Cancel e) = e == epoch
undoes epoch what = false

abbrev pub is_commit : What → Bool
is_commit Commit = true
is_commit what = false

abbrev pub is_restart : What → Bool
is_restart Restart = true
is_restart what = false

-- the attempt that a core makes at its epoch is over: the epoch is violated or cancelled, or the core commits it
abbrev pub is_over : Runner → Entry → Bool
is_over runner entry = undoes runner.epoch entry.what || ((entry.by == runner.core) && is_commit entry.what)

-- what a violated core does about it is settled: its epoch is cancelled, or it begins the epoch again
abbrev pub is_settled : Runner → Entry → Bool
is_settled runner entry = cancels runner.epoch entry.what || ((entry.by == runner.core) && is_restart entry.what)

abbrev pub shows : Sign → Runner → Entry → Bool
shows Over runner entry = is_over runner entry
shows Settled runner entry = is_settled runner entry

-- over: the causer's attempt ends by this entry
abbrev pub over_at : List Entry → Explanation → Option ℕ
over_at entries e = first_after entries e.place (is_over e.causer)

-- in vain: the causer's attempt does not commit, since this entry violates or cancels it
abbrev pub undone_at : List Entry → Explanation → Option ℕ
undone_at entries e = only_if entries (λ entry. undoes e.causer.epoch entry.what) (over_at entries e)

-- moot: the victim's epoch is cancelled, by this entry, before its core begins it again, so nothing is run again
abbrev pub moot_at : List Entry → Explanation → Option ℕ
moot_at entries e = only_if entries (λ entry. cancels e.victim.epoch entry.what) (first_after entries e.place (shows Settled e.victim))

-- stale: the blamed store stands before the blamed load, so that the value was there and could not be seen
abbrev pub is_stale_pair : Option Blame → Bool
is_stale_pair None = false
is_stale_pair (Some pair) = nat_lt pair.store pair.load

-- since: what was lost from the blamed load on, which a checkpoint before that load would not have saved
abbrev pub since : List (Option Site) → Explanation → Option ℕ
since sites e = option_and_then (λ (pair : Blame). option_and_then (λ (there : Option Site). option_map (λ (site : Site). e.lost - site.done) there) (slice_get sites pair.load)) e.blame

abbrev pub held_by : LoadedImage → List Entry → Explanation → Kind → Option ℕ
held_by image entries e FullBuffer =
    option_and_then (first_stored_in image entries e.victim.core e.place) (option_and_then (accessed_line image) (what_at entries e.cause))
held_by image entries e kind = None

-- held, of a full buffer: the victim's first store in the line that the cause asks for
abbrev pub held_at : LoadedImage → List Entry → Explanation → Option ℕ
held_at image entries e = held_by image entries e e.kind
