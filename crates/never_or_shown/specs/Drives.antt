-- What a drive keeps, and what its turns come to.
-- Source: this project.
use Rattle.std.specs.Prelude.{◌≡◌, ◌≢◌, ℕ, ◌<◌, length, None, Ok}
use Rattle.rv32_image.specs.Image.{LoadedImage}
use Rattle.rv32_exec.specs.Hart.{HartState}
use Rattle.spec_history.specs.FlatState.{FlatState}
use Rattle.violations.specs.View.{never_waits}
use Rattle.violations.specs.Plain.{PlainView, Makes, store_view}
use Rattle.homefree.specs.declared.answer.Answer.{Answer}
use Rattle.homefree.specs.declared.answer.Answer.TheVariants.{Go}
use Rattle.homefree.specs.BookView.{BookView, IsFull, ReplaysTo}
use Rattle.homefree.specs.Counted.{IsNoMore}
use Rattle.homefree.specs.Driven.{TurnedWith, driver}
use Rattle.homefree.specs.Held.{HaveArrived, harts_of}
use Rattle.homefree.specs.InStep.{InStep}
use Rattle.homefree.specs.Retraced.{HaveHarts}
use Rattle.dependences.specs.Laws.{NoneIsHurt}
use Rattle.never_or_shown.specs.declared.drive.Drive.{Drive}
use Rattle.never_or_shown.specs.declared.drive.Halt.{Halt}
use Rattle.never_or_shown.specs.declared.drive.Halt.TheVariants.{Violated, HistoryFull, NoMemory}
use Rattle.never_or_shown.specs.Violation.{HasViolation}
use Rattle.never_or_shown.specs.Quiet.{ComesTo, IsQuiet, RunsEpoch}

-- a turn can be taken, and none has violated an epoch; each core that runs one has its hart in hand
pub record IsDrive (d : Drive) : Type 0 where
  pub shares : IsNoMore d.shares d.book.totals
  pub held : HaveArrived d.book.image d.held
  pub unstopped : d.book.stopped ≡ None
  pub calm : NoneIsHurt d.book.history
  pub quiet : (s : FlatState) → ReplaysTo d.book s → s.end ≡ None → IsQuiet s
  pub harts : (s : FlatState) → ReplaysTo d.book s → s.end ≡ None → HaveHarts (harts_of d.held) s

-- why no more turns are taken is true
abbrev pub IsHalted : Drive → Halt → Type 0
IsHalted d Violated = HasViolation d.book.history
IsHalted d HistoryFull = IsFull d.book
IsHalted d NoMemory = Unit {0}

-- a turn of a core that violates no epoch
pub record IsTurn (old new : Drive) (core : ℕ) (answer : Answer) : Type 0 where
  pub drive : IsDrive new
  pub unstopped : old.book.stopped ≡ None
  pub before : InStep store_view old.book
  pub after : InStep store_view new.book
  pub turned : TurnedWith Makes store_view (λ _. never_waits) (driver old.book old.shares) core (harts_of old.held core) (Ok answer) (driver new.book new.shares)
  -- where the core goes on, the history has grown
  pub grows : (hart : HartState) → answer ≡ Go hart → length old.book.history < length new.book.history

-- the book's history leads to a state to which the core's epoch has come, from this one
pub record IsAfter (image : LoadedImage) (b : BookView PlainView) (s : FlatState) (core epoch : ℕ) (answer : Answer) : Type 0 where
  pub state : FlatState
  pub replays : ReplaysTo b state
  pub comes : ComesTo image s state core epoch answer

-- turns of a core that goes on no more, none of which violates an epoch
pub record HasRun (old new : Drive) (core : ℕ) (answer : Answer) : Type 0 where
  pub drive : IsDrive new
  pub stands : (hart : HartState) → answer ≢ Go hart
  pub after : (s : FlatState) (epoch : ℕ) → ReplaysTo old.book s → IsQuiet s → RunsEpoch s core epoch → IsAfter old.book.image new.book s core epoch answer
