-- Why a run at even speed ends: which cores aren't due, and how many.
use Rattle.std.specs.Prelude.{◌≡◌, ℕ, zero, suc, ◌+◌, ◌*◌, ◌<◌, ◌≤◌, length, Option, Some, None}
use Rattle.rv32_image.specs.Image.{LoadedImage}
use Rattle.spec_history.specs.FlatState.{CoreState, FlatState}
use Rattle.spec_history.specs.Replay.{replay}
use Rattle.homefree.specs.BookView.{BookView}
use Rattle.even_speed.specs.declared.clock.Clock.{Clock}
use Rattle.even_speed.specs.declared.clock.Next.{Next}
use Rattle.even_speed.specs.declared.clock.Next.TheVariants.{Due, Waits, Gone}
use Rattle.even_speed.specs.Clocks.{due_of}

-- why a core isn't due: it runs a later epoch than the homefree one, or it is idle and no epoch is left
abbrev pub IsUndue : LoadedImage → FlatState → Option CoreState → Next → Type 0
IsUndue image s core (Due at) = Unit {0}
IsUndue image s core (Waits since cause) = (s.end ≡ None) × (c : CoreState) × (core ≡ Some c) × (s.homefree < c.epoch)
IsUndue image s core Gone = (s.end ≡ None) × (core ≡ None) × (image.epochs ≤ s.next_epoch)

pub record IsUnderWay (image : LoadedImage) (cores : ℕ) (s : FlatState) (clocks : ℕ → Clock) : Type 0 where
  -- each epoch that has been started and hasn't committed is run by a core
  pub run : (epoch : ℕ) → s.homefree ≤ epoch → epoch < s.next_epoch → (k : ℕ) × (c : CoreState) × (s.cores k ≡ Some c) × (c.epoch ≡ epoch)
  pub undue : (k : ℕ) → k < cores → IsUndue image s (s.cores k) (clocks k).next
  -- while a core runs one, the loop isn't over
  pub going : (k : ℕ) (c : CoreState) → s.cores k ≡ Some c → s.end ≡ None

-- one where it isn't due
abbrev pub undue : Option ℕ → ℕ
undue (Some at) = 0
undue None = 1

-- how many of the cores 0 to n - 1 aren't due
unfoldable pub undue_of : (ℕ → Clock) → ℕ → ℕ
undue_of clocks zero = 0
undue_of clocks (suc n) = undue_of clocks n + undue (due_of (clocks n).next)

-- after so many turns: there were at most 17 for each entry, and one for each core that isn't due
pub record IsLasting {S : Type 0} (b : BookView S) (clocks : ℕ → Clock) (taken : ℕ) : Type 0 where
  pub state : FlatState
  pub replays : replay b.image b.cores b.history ≡ Some state
  pub under_way : IsUnderWay b.image b.cores state clocks
  pub few : taken ≤ 17 * length b.history + undue_of clocks b.cores
