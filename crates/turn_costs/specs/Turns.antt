-- What the turn of a core does that costs, in the state before it: by what the core runs, and the stop that it hands in.
-- Source: this project; that misses, messages and the handling of epochs decide what speculation gains is of Steffan, Colohan, Zhai and
-- Mowry, "A Scalable Approach to Thread-Level Speculation", ISCA 2000.
use Rattle.std.specs.Prelude.{ℕ, ◌==◌, ◌&&◌, nat_eq, nat_lt, Bool, true, false, is_some, if◌then◌else◌, Option, Some, None, option_map}
use lib.Pointwise.{pointwise}
use Rattle.rv32_exec.specs.declared.sequential.End.{End}
use Rattle.rv32_exec.specs.declared.stop.Stop.{Stop}
use Rattle.rv32_exec.specs.declared.stop.Stop.TheVariants as stop
use Rattle.rv32_exec.specs.Arrival.{Arrival}
use Rattle.rv32_exec.specs.Hart.{HartState}
use Rattle.rv32_exec.specs.NextEvent.{next_event}
use Rattle.homefree.specs.declared.register.Running.{Running}
use Rattle.homefree.specs.Kept.{kept_of}
use Rattle.homefree.specs.Turned.{Turn, wait_at}
use Rattle.turn_costs.specs.declared.actions.Actions.{Actions}
use Rattle.turn_costs.specs.Actions.{no_actions}
use Rattle.turn_costs.specs.Prices.{Prices}

-- the access at a stop, straight or speculative; an end or a fault has none
abbrev pub access_at : Prices → Bool → ℕ → Stop → Actions
access_at p straight core (stop.Load address width signed rd) = p.load straight core address
access_at p straight core (stop.Store address width value) = p.store straight core address
access_at p straight core stop.Ended = no_actions
access_at p straight core (stop.Fault cause pc) = no_actions

-- and the publish before it, unless the core is straight
abbrev pub with_publish : Prices → Bool → ℕ → Actions → Actions
with_publish p straight core a = if straight then a else record a { lines = p.lines core }

-- an access at which the store waits: the homefree core publishes, and makes it straight; any other does nothing
abbrev pub waiting_at : Prices → Turn → Running → Stop → Actions
waiting_at p t core at = if core.epoch == t.state.homefree then with_publish p false t.core (access_at p true t.core at) else no_actions

-- a core at an access
abbrev pub accesses_at : Prices → Turn → Running → Stop → Actions
accesses_at p t core at =
    if core.straight then access_at p true t.core at
    else if is_some (wait_at t.waits t.core at) then waiting_at p t core at
    else access_at p false t.core at

-- a core at its end or fault: the homefree one publishes and commits; any other does nothing
abbrev pub ends_at : Prices → Turn → Running → Actions
ends_at p t core = if core.epoch == t.state.homefree then with_publish p core.straight t.core (record no_actions { commits = 1 }) else no_actions

abbrev pub stops_at : Prices → Turn → Running → Stop → Actions
stops_at p t core (stop.Load address width signed rd) = accesses_at p t core (stop.Load address width signed rd)
stops_at p t core (stop.Store address width value) = accesses_at p t core (stop.Store address width value)
stops_at p t core stop.Ended = ends_at p t core
stops_at p t core (stop.Fault cause pc) = ends_at p t core

-- are the harts equal?
abbrev pub is_same_hart : HartState → HartState → Bool
is_same_hart h k = pointwise nat_eq h.x k.x && ((h.pc == k.pc) && (h.done == k.done))

-- a core that isn't hurt: one that hands in nothing, or a stop that was reached from another hart than its own, is told its hart
abbrev pub runs_on : Prices → Turn → Running → Option Arrival → Actions
runs_on p t core None = no_actions
runs_on p t core (Some arrival) =
    if is_same_hart arrival.base core.hart then stops_at p t core (next_event t.image core.hart).at else no_actions

-- an idle core begins an epoch, where one is left; a hurt one begins its epoch again
abbrev pub acts_by : Prices → Turn → Option Running → Actions
acts_by p t None = if nat_lt t.state.next_epoch t.image.epochs then record no_actions { begins = 1 } else no_actions
acts_by p t (Some core) = if core.hurt then record no_actions { restarts = 1 } else runs_on p t core t.next

-- nothing once the loop is over
abbrev pub unless_over : Option End → Actions → Actions
unless_over None a = a
unless_over (Some end) a = no_actions

-- the whole turn
abbrev pub actions_of : Prices → Turn → Actions
actions_of p t = unless_over t.state.end (acts_by p t (option_map kept_of (t.state.cores t.core)))
