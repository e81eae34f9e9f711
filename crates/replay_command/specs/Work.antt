-- What the program answers.
use Rattle.std.specs.Prelude.{ℕ, ◌+◌, true, List, Option, Some, None}
use Rattle.rv32_image.specs.ImageText.{longest_image_text}
use Rattle.rv32_image.specs.Input.{TakesAtMost}
use Rattle.rv32_image.specs.Image.{LoadedImage}
use Rattle.violations.specs.View.{StoreView, Waits, never_waits}
use Rattle.violations.specs.Calls.{Call}
use Rattle.violations.specs.Plain as plain
use Rattle.spec_bus.specs.Cached as caches
use Rattle.spec_bus.specs.Laws as cache
use Rattle.homefree.specs.Missed.{IsOfCaches}
use Rattle.turn_costs.specs.Prices.{Prices, bus_prices, no_prices}
use Rattle.trace_text.specs.TraceText.{longest_trace_text}
use Rattle.turn_steps.specs.Caches.{cached_changes}
use Rattle.turn_steps.specs.KeptCores.{plain_changes}
use Rattle.trace_commands.specs.Outcome.{Conclusion}
use Rattle.trace_commands.specs.declared.store.Store.{Store}
use Rattle.trace_commands.specs.declared.store.Store.TheVariants.{Caches, Plain}
use Rattle.trace_commands.specs.Stores.{asked_by}
use Rattle.run_command.specs.declared.options.RunOptions.{RunOptions}
use Rattle.run_command.specs.Threads.{IsThreadsOutcome}
use Rattle.replay_command.specs.declared.settings.Settings.{Settings}
use Rattle.replay_command.specs.declared.words.Turns.{Turns}
use Rattle.replay_command.specs.declared.words.Turns.TheVariants.{Given, Every, Paced, Threaded}
use Rattle.replay_command.specs.Asked.{Asked, asked_in}
use Rattle.replay_command.specs.AllSchedules.{AllAnswers}
use Rattle.replay_command.specs.Paced.{IsPacedOutcome}
use Rattle.replay_command.specs.Replay.{IsReplayOutcome}
use Rattle.trace_commands.specs.Program.{IsRefused, Stream}
use Rattle.replay_command.specs.Told.{IsHead}

-- a run on threads that prints its trace
abbrev pub options_of : Settings → ℕ → RunOptions
options_of settings cores = record { cores = cores; room = settings.room; trace = true }

-- over a store: the trace or the schedule of the input was replayed, every schedule of so many turns was driven, or the run was by
-- this pace or on threads; and of the input no more than it may be long, and one byte, was taken
abbrev pub TurnsAnswer : {S : Type 0} → (LoadedImage → ℕ → S → Type 0) → (S → Call → S → Type 0) → (S → StoreView) → (S → Waits) → (S → Prices) → (S → Type 0) → (ℕ → S → S → List ℕ) → List ℕ → Settings → Turns → List ℕ → Stream → Stream → Stream → ℕ → Type 0
TurnsAnswer starts makes view waits prices keeps changes addresses settings (Given detail cores) text input output errors status =
    Conclusion (IsReplayOutcome starts makes view waits (IsHead starts makes view waits changes detail) cores settings text output.old output.new) errors.old errors.new status
    × TakesAtMost input.old input.new (longest_trace_text + 1)
TurnsAnswer starts makes view waits prices keeps changes addresses settings (Every cores turns) text input output errors status =
    AllAnswers starts makes view waits cores settings turns text output errors status × TakesAtMost input.old input.new (longest_image_text + 1)
TurnsAnswer starts makes view waits prices keeps changes addresses settings (Paced pace cores) text input output errors status =
    Conclusion (IsPacedOutcome starts makes view waits prices keeps addresses pace cores settings text output.old output.new) errors.old errors.new status
    × TakesAtMost input.old input.new (longest_image_text + 1)
TurnsAnswer starts makes view waits prices keeps changes addresses settings (Threaded cores) text input output errors status =
    Conclusion (IsThreadsOutcome (IsOfCaches view) settings.asked (options_of settings cores) text output.old output.new) errors.old errors.new status
    × TakesAtMost input.old input.new (longest_image_text + 1)

-- what the store asks for, and so much room for a history
abbrev pub settings_of : Store → ℕ → Settings
settings_of store room = record { asked = asked_by store; room = room }

abbrev pub StoreAnswers : Store → List ℕ → ℕ → Turns → List ℕ → Stream → Stream → Stream → ℕ → Type 0
StoreAnswers (Caches asked) addresses room turns text input output errors status = TurnsAnswer cache.Starts cache.Makes caches.store_view caches.waits bus_prices (λ v. (k : ℕ) → cache.IsPlacedCore v.cores k) cached_changes addresses (settings_of (Caches asked) room) turns text input output errors status
StoreAnswers Plain addresses room turns text input output errors status = TurnsAnswer plain.Starts plain.Makes plain.store_view (λ _. never_waits) (λ _. no_prices) (λ _. Unit {0}) plain_changes addresses (settings_of Plain room) turns text input output errors status

-- a request was answered, where the loads at these addresses wait; or, where the words ask for nothing, `usage`
abbrev pub AskedAnswers : Option Asked → ℕ → List ℕ → Stream → Stream → Stream → ℕ → Type 0
AskedAnswers (Some asked) room text input output errors status = StoreAnswers asked.request.store asked.addresses room asked.request.turns text input output errors status
AskedAnswers None room text input output errors status = Conclusion (IsRefused input output) errors.old errors.new status

-- what the program answers for these words and a text, with so much room for a history
abbrev pub WorkAnswers : List (List ℕ) → ℕ → List ℕ → Stream → Stream → Stream → ℕ → Type 0
WorkAnswers words room text input output errors status = AskedAnswers (asked_in words) room text input output errors status
