-- That each violation of a history has its cause, that it is known what it was about, and in which bytes it meets without caches.
use Rattle.std.specs.Prelude.{◌≡◌, ◌≢◌, ◌⊎◌, ℕ, Bool, true, false, List, take, Option, Some, is_some, slice_get}
use Rattle.rv32_image.specs.Image.{LoadedImage}
use Rattle.spec_history.specs.declared.entry.Entry.{Entry}
use Rattle.spec_history.specs.declared.entry.What.{What}
use Rattle.spec_history.specs.declared.entry.What.TheVariants.{Store, Hurt, Publish, Commit, Fault}
use Rattle.spec_history.specs.FlatState.{CoreState, FlatState}
use Rattle.spec_history.specs.Refusal.{has}
use Rattle.spec_history.specs.Replay.{replay}
use Rattle.spec_history.specs.declared.kind.Kind.TheVariants.{TrueSharing, SilentStore, Unexplained}
use Rattle.spec_history.specs.Conflict.{cause_of, is_hurt, kind_of, what_at}
use Rattle.homefree.specs.Missed.{IsFurtherStore}

-- after each violation stands what caused it: the next act, which is one of the violating core, and can violate
abbrev pub HasCauses : List Entry → Type 0
HasCauses history = (place : ℕ) (entry : Entry) → slice_get history place ≡ Some entry → is_hurt entry.what ≡ true → is_some (cause_of history place entry.by) ≡ true

-- what is known of a violation of core k by another, in the state before it, with this cause: it is true or false sharing, a silent
-- store or a full buffer, and its cause is no further store
pub record IsKnown (image : LoadedImage) (s : FlatState) (by k : ℕ) (cause : Option What) : Type 0 where
  pub kind : kind_of image s by k cause ≢ Unexplained
  pub first : (what : What) → cause ≡ Some what → IsFurtherStore image s (record { by = by; what = what }) → ⊥

-- so of each violation
abbrev pub HasKinds : LoadedImage → ℕ → List Entry → Type 0
HasKinds image cores history =
    (place by k : ℕ) (s : FlatState) (c : CoreState) → slice_get history place ≡ Some (record { by = by; what = Hurt c.epoch })
    → replay image cores (take place history) ≡ Some s → s.cores k ≡ Some c → IsKnown image s by k (what_at history (cause_of history place by))

-- the core commits bytes by this: it publishes, commits or faults, or it has published and stores
abbrev pub commits_bytes : Option CoreState → What → Bool
commits_bytes core (Store address width value) = has core (λ c. c.straight)
commits_bytes core Publish = true
commits_bytes core Commit = true
commits_bytes core (Fault cause pc) = true
commits_bytes core what = false

-- the cause of a violation of core k commits bytes, and one of them the victim has read
pub record MeetsInBytes (image : LoadedImage) (s : FlatState) (by k : ℕ) (cause : Option What) : Type 0 where
  pub kind : (kind_of image s by k cause ≡ TrueSharing) ⊎ (kind_of image s by k cause ≡ SilentStore)
  pub commits : (what : What) → cause ≡ Some what → commits_bytes (s.cores by) what ≡ true

-- so of each violation
abbrev pub MeetInBytes : LoadedImage → ℕ → List Entry → Type 0
MeetInBytes image cores history =
    (place by k : ℕ) (s : FlatState) (c : CoreState) → slice_get history place ≡ Some (record { by = by; what = Hurt c.epoch })
    → replay image cores (take place history) ≡ Some s → s.cores k ≡ Some c → MeetsInBytes image s by k (what_at history (cause_of history place by))
