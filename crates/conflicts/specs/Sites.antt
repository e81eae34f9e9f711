-- Which instruction each load and store of a history is of.
use Rattle.std.specs.Prelude.{ℕ, zero, suc, ◌++◌, List, [], ◌∷◌, Option, Some, None, option_and_then, slice_get}
use Rattle.rv32_image.specs.Image.{LoadedImage}
use Rattle.rv32_exec.specs.Hart.{HartState}
use Rattle.rv32_exec.specs.NextEvent.{next_event}
use Rattle.rv32_exec.specs.declared.stop.Stop.{Stop}
use Rattle.rv32_exec.specs.declared.stop.Stop.TheVariants.{Load, Store}
use Rattle.spec_history.specs.declared.entry.Entry.{Entry}
use Rattle.spec_history.specs.FlatState.{CoreState, FlatState}
use Rattle.conflicts.specs.declared.standing.Site.{Site}
use Rattle.conflicts.specs.Attempts.{state_before}

-- where a hart stands at this stop, if that is a load or a store
abbrev pub site_by : HartState → Stop → Option Site
site_by h (Load address width signed rd) = Some (record { pc = h.pc; done = h.done })
site_by h (Store address width value) = Some (record { pc = h.pc; done = h.done })
site_by h stop = None

-- where a core stands before its next event, if that is one
abbrev pub site_in : LoadedImage → Option CoreState → Option Site
site_in image core = option_and_then (λ (c : CoreState). site_by (next_event image c.hart).now (next_event image c.hart).at) core

-- where the core of the entry at a place stood before it
abbrev pub site_at : LoadedImage → ℕ → List Entry → ℕ → Option Site
site_at image count entries place =
    option_and_then (λ (s : FlatState). option_and_then (λ (entry : Entry). site_in image (s.cores entry.by)) (slice_get entries place)) (state_before image count entries place)

-- those of the places before this one, in order
unfoldable pub sites_before : LoadedImage → ℕ → List Entry → ℕ → List (Option Site)
sites_before image count entries zero = []
sites_before image count entries (suc place) = sites_before image count entries place ++ site_at image count entries place ∷ []
