-- What the book's own fields have in step with the state that its history leads to.
use Rattle.std.specs.Prelude.{◌≡◌, ℕ, List, length, Option, Some, None, option_map}
use Rattle.std.specs.List.{slice_index_or}
use Rattle.rv32_image.specs.Image.{IsImage}
use Rattle.spec_history.specs.FlatState.{CoreState, FlatState}
use Rattle.spec_history.specs.Replay.{replay}
use Rattle.violations.specs.View.{StoreView}
use Rattle.violations.specs.Rule.{IsCoreCount, shape_of}
use Rattle.homefree.specs.declared.register.Running.{Running}
use Rattle.homefree.specs.declared.register.Register.{Register}
use Rattle.homefree.specs.Agrees.{Agrees}
use Rattle.homefree.specs.Counted.{counted_in}

abbrev pub running_at : List (Option Running) → ℕ → Option Running
running_at running k = slice_index_or running k None

-- what the book keeps of a core, whose bytes the store keeps
abbrev pub kept_of : CoreState → Running
kept_of c = record { epoch = c.epoch; hart = c.hart; straight = c.straight; hurt = c.hurt }

-- the fields are the state's
pub record Shows (r : Register) (s : FlatState) : Type 0 where
  pub homefree : r.homefree ≡ s.homefree
  pub next_epoch : r.next_epoch ≡ s.next_epoch
  pub end : r.end ≡ s.end
  pub running : (k : ℕ) → running_at r.running.items k ≡ option_map kept_of (s.cores k)

-- the history leads to a state with which the fields and the store agree
pub record Fits (r : Register) (v : StoreView) : Type 0 where
  pub state : FlatState
  pub replays : replay r.image (length r.running.items) r.history.items ≡ Some state
  pub shows : Shows r state
  pub agrees : Agrees state v
  pub shape : v.shape ≡ shape_of r.image (length r.running.items)
  pub counted : r.totals ≡ counted_in r.history.items
  pub is_image : IsImage r.image
  pub core_count : IsCoreCount r.image (length r.running.items)
