-- What a loop gains, and what was written of it.
-- Source: this project; Oplinger, Heine and Lam, "In Search of Speculative Thread-Level Parallelism", PACT 1999.
use Rattle.std.specs.Prelude.{◌≡◌, ◌⊎◌, ℕ, Bool, true, false, List, [], ◌∷◌, Option, Some, None, MatchResult}
use Rattle.std.specs.Io.KnownBytes.{Appends, Keeps}
use Rattle.rv32_image.specs.Image.{LoadedImage}
use Rattle.rv32_image.specs.ImageText.{image_text}
use Rattle.violations.specs.View.{never_waits}
use Rattle.violations.specs.Plain as plain
use Rattle.spec_bus.specs.Cached as caches
use Rattle.spec_bus.specs.Laws as cache
use Rattle.trace_commands.specs.declared.outcome.Outcome.{Outcome}
use Rattle.trace_commands.specs.declared.outcome.Outcome.TheVariants.{Usage, BadImage, Stopped}
use Rattle.trace_commands.specs.declared.outcome.CommandStop.TheVariants.{Write, NoMemory}
use Rattle.trace_commands.specs.Outcome.{AppendsPrefix, Conclusion, IsRefusal}
use Rattle.trace_commands.specs.Program.{Stream}
use Rattle.trace_commands.specs.declared.store.Store.{Store}
use Rattle.trace_commands.specs.declared.store.Store.TheVariants.{Caches, Plain}
use Rattle.trace_commands.specs.Stores.{store_named}
use Rattle.turn_costs.specs.declared.costs.Costs.{Costs}
use Rattle.turn_costs.specs.Prices.{bus_prices, no_prices}
use Rattle.even_speed.specs.declared.terms.Terms.{Terms}
use Rattle.even_speed.specs.Held.{Holding, loads_at}
use Rattle.even_speed.specs.Holds.{holding_of}
use Rattle.epoch_paths.specs.declared.pieces.Pieces.{Pieces}
use Rattle.all_schedules.specs.Holding.{WaitsInOrder, none_waits}
use Rattle.replay_command.specs.Stores.{HasRefused, RunsOnAll, on_store, pieces_of}
use Rattle.gain.specs.declared.gains.Study.{Study}
use Rattle.gain.specs.declared.lines.Waiting.{Waiting}
use Rattle.gain.specs.Lines.{AddLines}
use Rattle.gain.specs.Evens.{AddEvens}
use Rattle.gain.specs.Text.{shows_held}
use Rattle.gain.specs.Limits.{AddLimitsIf}

-- ---- of an image

-- these loads wait, and turns cost this
pub record ArePaced (holds : Holding) (queues : Bool) (costs : Option Costs) (terms : Terms) : Type 0 where
  pub holds_is : holding_of terms.holds ≡ holds
  pub queues_is : terms.queues ≡ queues
  pub costs_is : terms.costs ≡ costs

-- where lines `held` are asked for, loads wait for what earlier epochs store in these pieces of memory
abbrev pub AreHeld : LoadedImage → Bool → Pieces → Option Costs → Option Terms → Type 0
AreHeld image true pieces costs (Some terms) = (h : Holding) × WaitsInOrder image pieces h × ArePaced h false costs terms
AreHeld image true pieces costs None = ⊥
AreHeld image false pieces costs terms = terms ≡ None

-- in the runs of a store loads at these addresses wait
pub record AreWaiting (image : LoadedImage) (addresses : List ℕ) (study : Study) (pieces : Pieces) (w : Waiting) : Type 0 where
  pub terms : ArePaced (loads_at addresses) (none_waits addresses) study.costs w.terms
  pub told : w.told ≡ shows_held addresses
  pub held : AreHeld image study.held pieces study.costs w.held

-- to a text, the lines of this store, on these terms
abbrev pub AddWaiting : Waiting → LoadedImage → Store → ℕ → ℕ → List ℕ → List ℕ → List ℕ → Type 0
AddWaiting w image (Caches asked) cores room word old new =
    AddLines cache.Starts cache.Makes caches.store_view caches.waits bus_prices (λ v. (k : ℕ) → cache.IsPlacedCore v.cores k) w image room word cores old new
AddWaiting w image Plain cores room word old new =
    AddLines plain.Starts plain.Makes plain.store_view (λ _. never_waits) (λ _. no_prices) (λ _. Unit {0}) w image room word cores old new

-- and where they are asked for, those of the costs up to which it gains
abbrev pub AddEvensOf : Bool → Study → List ℕ → LoadedImage → Store → List ℕ → List ℕ → List ℕ → Type 0
AddEvensOf true study addresses image (Caches asked) word old new =
    AddEvens cache.Starts cache.Makes caches.store_view caches.waits bus_prices (λ v. (k : ℕ) → cache.IsPlacedCore v.cores k) addresses study image word old new
AddEvensOf true study addresses image Plain word old new =
    AddEvens plain.Starts plain.Makes plain.store_view (λ _. never_waits) (λ _. no_prices) (λ _. Unit {0}) addresses study image word old new
AddEvensOf false study addresses image store word old new = new ≡ old

abbrev pub AddLinesOf : Study → List ℕ → LoadedImage → Store → List ℕ → List ℕ → List ℕ → Type 0
AddLinesOf study addresses image store word old new =
    (w : Waiting) × AreWaiting image addresses study (pieces_of store) w
    × (mid : List ℕ) × AddWaiting w image store study.cores study.room word old mid × AddEvensOf study.even study addresses image store word mid new

-- so of the loop on the machine that the store asks for
abbrev pub AddStore : Study → List ℕ → LoadedImage → List ℕ → Option Store → List ℕ → List ℕ → Type 0
AddStore study addresses image word (Some store) old new = AddLinesOf study addresses (on_store store image) store word old new
AddStore study addresses image word None old new = ⊥

-- those of each store, one after another
abbrev pub AddStores : Study → List ℕ → LoadedImage → List (List ℕ) → List ℕ → List ℕ → Type 0
AddStores study addresses image [] old new = new ≡ old
AddStores study addresses image (word ∷ words) old new =
    (mid : List ℕ) × AddStore study addresses image word (store_named word) old mid × AddStores study addresses image words mid new

-- the lines of all stores, and below them those of the limits, where they are asked for
pub record IsText (image : LoadedImage) (study : Study) (addresses : List ℕ) (stores : List (List ℕ)) (text : List ℕ) : Type 0 where
  pub lines : List ℕ
  pub runs : AddStores study addresses image stores [] lines
  pub limits : AddLimitsIf study.limits image study.cores lines text

-- they were written: each store's machine can run the image on so many cores
abbrev pub IsWrittenOf : LoadedImage → Study → List ℕ → List (List ℕ) → Option (List ℕ) → Option (List ℕ) → Type 0
IsWrittenOf image study addresses stores old new =
    RunsOnAll image study.cores stores × (text : List ℕ) × IsText image study addresses stores text × Appends old new text

-- they weren't: a machine or the number of cores is refused, memory ran out or a write failed
abbrev pub IsUnwrittenOf : LoadedImage → Study → List ℕ → List (List ℕ) → Option (List ℕ) → Option (List ℕ) → Outcome → Type 0
IsUnwrittenOf image study addresses stores old new Usage = HasRefused image study.cores stores × Keeps old new
IsUnwrittenOf image study addresses stores old new (Stopped Write) =
    RunsOnAll image study.cores stores × (text : List ℕ) × IsText image study addresses stores text × AppendsPrefix old new text
IsUnwrittenOf image study addresses stores old new (Stopped NoMemory) = Keeps old new
IsUnwrittenOf image study addresses stores old new outcome = ⊥

-- ---- of a text

abbrev pub IsWritten : Study → List ℕ → List (List ℕ) → List ℕ → Option (List ℕ) → Option (List ℕ) → Type 0
IsWritten study addresses stores text old new = MatchResult (image_text text) (λ image. IsWrittenOf image study addresses stores old new) (λ fault. ⊥)

abbrev pub IsUnwritten : Study → List ℕ → List (List ℕ) → List ℕ → Option (List ℕ) → Option (List ℕ) → Outcome → Type 0
IsUnwritten study addresses stores text old new (BadImage fault) = IsRefusal fault.kind fault (image_text text) × Keeps old new
IsUnwritten study addresses stores text old new (Stopped NoMemory) = Keeps old new
IsUnwritten study addresses stores text old new outcome = MatchResult (image_text text) (λ image. IsUnwrittenOf image study addresses stores old new outcome) (λ fault. ⊥)

-- they were written, and the status is 0; or the program concludes with what kept them from being written
abbrev pub GainAnswers : Study → List ℕ → List (List ℕ) → List ℕ → Stream → Stream → ℕ → Type 0
GainAnswers study addresses stores text output errors status =
    ((status ≡ 0) × IsWritten study addresses stores text output.old output.new × Keeps errors.old errors.new)
    ⊎ Conclusion (IsUnwritten study addresses stores text output.old output.new) errors.old errors.new status
