-- What an explanation says, and the explanations of a history.
use Rattle.std.specs.Prelude.{◌≡◌, ℕ, zero, suc, ◌++◌, List, [], ◌∷◌, map, take, Option, Some, None, slice_get, if◌then◌else◌}
use Rattle.rv32_image.specs.Image.{LoadedImage}
use Rattle.rv32_exec.specs.NextEvent.{next_event}
use Rattle.spec_history.specs.declared.entry.Entry.{Entry}
use Rattle.spec_history.specs.declared.entry.What.{What}
use Rattle.spec_history.specs.declared.entry.What.TheVariants.{Hurt}
use Rattle.spec_history.specs.declared.kind.Kind.{Kind}
use Rattle.spec_history.specs.Conflict.{cause_of, entry_is, is_hurt, kind_of, meeting, what_at}
use Rattle.spec_history.specs.FlatState.{CoreState, FlatState}
use Rattle.spec_history.specs.Replay.{replay}
use Rattle.conflicts.specs.declared.explanation.Blame.{Blame}
use Rattle.conflicts.specs.declared.explanation.Explanation.{Explanation}
use Rattle.conflicts.specs.Blame.{blame_of}
use Rattle.conflicts.specs.Later.{later_by}

-- the load and the store that are blamed, where there is a cause
abbrev pub blame_by : LoadedImage → FlatState → List Entry → ℕ → ℕ → ℕ → Kind → Option ℕ → Option What → Option Blame
blame_by image s entries place causer victim kind (Some cause) (Some what) = blame_of image entries (record {
  place = place;
  causer = causer;
  victim = victim;
  cause = cause;
  what = what;
  kind = kind;
  bytes = meeting s causer what victim;
})
blame_by image s entries place causer victim kind cause what = None

abbrev pub blame_in : LoadedImage → FlatState → List Entry → Explanation → Option Blame
blame_in image s entries e = blame_by image s entries e.place e.causer.core e.victim.core e.kind e.cause (what_at entries e.cause)

-- the explanation is that of the violation at its place, in the state before it
pub record IsExplainedIn (image : LoadedImage) (s : FlatState) (entries : List Entry) (e : Explanation) : Type 0 where
  -- the causer and the victim are two cores, with the epochs that they run
  pub causing : CoreState
  pub causer_runs : s.cores e.causer.core ≡ Some causing
  pub causer_epoch : e.causer.epoch ≡ causing.epoch
  pub violated : CoreState
  pub victim_runs : s.cores e.victim.core ≡ Some violated
  pub victim_epoch : e.victim.epoch ≡ violated.epoch
  -- the entry says so
  pub entry : slice_get entries e.place ≡ Some (record { by = e.causer.core; what = Hurt e.victim.epoch })
  pub cause : e.cause ≡ cause_of entries e.place e.causer.core
  pub kind : e.kind ≡ kind_of image s e.causer.core e.victim.core (what_at entries e.cause)
  pub blame : e.blame ≡ blame_in image s entries e
  pub later : e.later ≡ later_by image s entries e.causer.core e.victim.core e.kind e.cause
  -- the attempt learns of the violation at its next event
  pub lost : e.lost ≡ (next_event image violated.hart).now.done
  pub entered : e.entered ≡ violated.hart.done

-- the entries before the violation replay, and the explanation is right for the state after them
pub record IsExplained (image : LoadedImage) (count : ℕ) (entries : List Entry) (e : Explanation) : Type 0 where
  pub before : FlatState
  pub replays : replay image count (take e.place entries) ≡ Some before
  pub explained : IsExplainedIn image before entries e

-- the places of the violations before this place, in order
unfoldable pub violations_before : List Entry → ℕ → List ℕ
violations_before entries zero = []
violations_before entries (suc place) =
    if entry_is entries place (λ entry. is_hurt entry.what) then violations_before entries place ++ place ∷ [] else violations_before entries place

abbrev pub places_of : List Explanation → List ℕ
places_of explanations = map (λ (e : Explanation). e.place) explanations
