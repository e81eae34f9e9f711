-- What the law on left out violations says.
use Rattle.std.specs.Prelude.{ℕ, Bool, true, false, List, map, Option, Some, None, option_map, if◌then◌else◌}
use Rattle.std.specs.List.{list_any}
use Rattle.rv32_image.specs.Image.{LoadedImage}
use Rattle.spec_history.specs.declared.entry.Entry.{Entry}
use Rattle.spec_history.specs.declared.entry.What.{What}
use Rattle.spec_history.specs.declared.entry.What.TheVariants.{Store, Publish, Commit, Fault}
use Rattle.spec_history.specs.declared.illegal.Illegal.{Illegal}
use Rattle.spec_history.specs.declared.illegal.Illegal.TheVariants.{HurtMissing}
use Rattle.spec_history.specs.FlatState.{CoreState, FlatState}
use Rattle.spec_history.specs.Refusal.{any_below, has, refusal_of}
use Rattle.spec_history.specs.Replay.{replay_from}
use Rattle.spec_history.specs.Conflict.{is_changed, meeting}
use Rattle.conflicts.specs.Fates.{cancels}

-- the core commits bytes by this: it publishes, commits or faults, or it has published and stores
abbrev pub commits : Option CoreState → What → Bool
commits core (Store address width value) = has core (λ c. c.straight)
commits core Publish = true
commits core Commit = true
commits core (Fault cause pc) = true
commits core what = false

-- HurtMissing where the cause changes a byte that the victim has read, else no refusal
abbrev pub missed_by : LoadedImage → FlatState → ℕ → What → ℕ → Option Illegal
missed_by image s causer cause victim =
    if any_below image.size (is_changed (meeting s causer cause victim)) then Some HurtMissing else None

-- what a core tells of other cores, in order
abbrev pub notices_by : ℕ → List What → List Entry
notices_by core notices = map (λ what. record { by = core; what = what }) notices

-- one of them cancels this epoch
abbrev pub cancels_one : ℕ → List What → Bool
cancels_one epoch notices = list_any (cancels epoch) notices

-- the refusal of an entry that comes after these, Some None where it is legal too; None where one of these is refused
abbrev pub refusal_after : LoadedImage → ℕ → FlatState → List Entry → Entry → Option (Option Illegal)
refusal_after image count s entries entry = option_map (λ t. refusal_of image count t entry) (replay_from image count s entries)
