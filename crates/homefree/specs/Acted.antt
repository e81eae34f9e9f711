-- What a method of the book's parts did: a case of a turn, after which the fields and the store agree again.
use Rattle.std.specs.Prelude.{◌≡◌, ◌⊎◌, ℕ, ◌+◌, ◌*◌, ◌<◌, ◌≤◌, ◌^◌, List, length, Option, Some, None, vec_len, vec_capacity}
use Rattle.rv32_image.specs.Image.{LoadedImage}
use Rattle.rv32_exec.specs.Arrival.{Arrival}
use Rattle.rv32_exec.specs.NextEvent.{next_event}
use Rattle.run_ledger.specs.declared.counts.Counts.{Counts}
use Rattle.spec_history.specs.declared.entry.Entry.{Entry}
use Rattle.spec_history.specs.FlatState.{FlatState}
use Rattle.spec_history.specs.Replay.{replay}
use Rattle.violations.specs.View.{StoreView, Waits}
use Rattle.homefree.specs.declared.answer.Answer.{Answer}
use Rattle.homefree.specs.declared.register.Register.{Register}
use Rattle.homefree.specs.Kept.{Fits}
use Rattle.homefree.specs.Steps.{Steps}
use Rattle.homefree.specs.Turned.{Acts, Turn, does}

abbrev pub turn_of : Register → Waits → FlatState → ℕ → Option Arrival → Turn
turn_of r waits s core next =
    record { image = r.image; cores = length r.running.items; waits = waits; state = s; core = core; next = next }

-- so many entries: one for each core and one more, as no core is hurt twice, or of an exit two for each other core, as those that
-- it hurts are cancelled too, and its commit
abbrev pub AreFew : ℕ → ℕ → Type 0
AreFew entries cores = (entries ≤ cores + 1) ⊎ (entries < 2 * cores)

pub record Acted (old new : Register) (waits : Waits) (v w : StoreView) (shares shares' : Counts) (core : ℕ) (next : Option Arrival) (answer : Answer) : Type 0 where
  pub entries : List Entry
  pub steps : Steps old new shares shares' entries
  pub short : AreFew (length entries) (length old.running.items)
  pub acts : (s : FlatState) → replay old.image (length old.running.items) old.history.items ≡ Some s → Acts (turn_of old waits s core next) v w (does entries answer)
  pub fits : Fits new w

-- there is room for the entries of a turn, and the counts can grow
pub record MayNote (r : Register) (shares : Counts) : Type 0 where
  pub room : vec_len r.history + 2 * length r.running.items ≤ vec_capacity r.history
  pub loads : shares.loads ≤ r.totals.loads
  pub stores : shares.stores ≤ r.totals.stores
  pub restarts : shares.restarts ≤ r.totals.restarts
  pub commits : shares.commits ≤ r.totals.commits
  -- no count is above the number of entries
  pub few_loads : r.totals.loads < 2 ^ 63
  pub few_stores : r.totals.stores < 2 ^ 63
  pub few_restarts : r.totals.restarts < 2 ^ 63
  pub few_commits : r.totals.commits < 2 ^ 63

-- where a core hands in a stop, it is the next event of its base
abbrev pub IfArrived : LoadedImage → Option Arrival → Type 0
IfArrived image None = Unit {0}
IfArrived image (Some arrival) = (arrival.now ≡ (next_event image arrival.base).now) × (arrival.at ≡ (next_event image arrival.base).at)
