-- A turn, by what its core runs.
use Rattle.std.proofs.Common.{◌≡◌, ℕ, Bool, false, is_some, Option, Some, None, option_map, refl, sym, ap, subst, ◌∙◌}
use Rattle.rv32_exec.specs.declared.sequential.End.{End}
use Rattle.rv32_exec.specs.declared.stop.Stop.{Stop}
use Rattle.rv32_exec.specs.declared.stop.Stop.TheVariants as stop
use Rattle.homefree.specs.declared.register.Running.{Running}
use Rattle.homefree.specs.Kept.{kept_of}
use Rattle.homefree.specs.Turned.{Turn}
use Rattle.turn_costs.specs.declared.actions.Actions.{Actions}
use Rattle.turn_costs.specs.Prices.{Prices}
use Rattle.turn_costs.specs.Turns.{accesses_at, ends_at, stops_at, acts_by, unless_over, actions_of}

going : (end : Option End) (a : Actions) → is_some end ≡ false → a ≡ unless_over end a
going None a is = refl
going (Some end) a is = absurd cc

-- what is done by what the core runs is the turn's
pub by_core : (p : Prices) (t : Turn) (o : Option Running) (a : Actions) → is_some t.state.end ≡ false → o ≡ option_map kept_of (t.state.cores t.core)
    → a ≡ acts_by p t o → a ≡ actions_of p t
by_core p t o a on is same = same ∙ (ap (acts_by p t) is ∙ going t.state.end (acts_by p t (option_map kept_of (t.state.cores t.core))) on)

-- ---- the stop of a core that isn't hurt

pub at_load : (p : Prices) (t : Turn) (r : Running) (at : Stop) (address width : ℕ) (signed : Bool) (rd : ℕ) → at ≡ stop.Load address width signed rd
    → accesses_at p t r at ≡ stops_at p t r at
at_load p t r at address width signed rd is = subst (λ (x : Stop). accesses_at p t r x ≡ stops_at p t r x) (sym is) refl

pub at_store : (p : Prices) (t : Turn) (r : Running) (at : Stop) (address width value : ℕ) → at ≡ stop.Store address width value
    → accesses_at p t r at ≡ stops_at p t r at
at_store p t r at address width value is = subst (λ (x : Stop). accesses_at p t r x ≡ stops_at p t r x) (sym is) refl

pub at_end : (p : Prices) (t : Turn) (r : Running) (at : Stop) → at ≡ stop.Ended → ends_at p t r ≡ stops_at p t r at
at_end p t r at is = subst (λ (x : Stop). ends_at p t r ≡ stops_at p t r x) (sym is) refl

pub at_fault : (p : Prices) (t : Turn) (r : Running) (at : Stop) (cause pc : ℕ) → at ≡ stop.Fault cause pc → ends_at p t r ≡ stops_at p t r at
at_fault p t r at cause pc is = subst (λ (x : Stop). ends_at p t r ≡ stops_at p t r x) (sym is) refl
