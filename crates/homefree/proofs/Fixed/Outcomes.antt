-- What comes of a turn, by the state, the stop, why the store waits there, and the views before and after.
use Rattle.std.proofs.Common.{◌≡◌, ◌≢◌, ℕ, ◌+◌, ◌==◌, ◌&&◌, not, nat_lt, Bool, true, false, [], ◌++◌, Option, Some, None, is_some, if◌then◌else◌, option_map, refl, sym, ap, subst, ◌∙◌, true≢false, eq-eqb, ne_eqb}
use Rattle.std.proofs.Math.Path.{fun_ext}
use Rattle.std.proofs.lemmas.Bool.{lt-ltb, le-ltb, and_right}
use Rattle.rv32_image.proofs.SmallFacts.{value_of}
use Rattle.memory_bytes.specs.Bytes.{number_at}
use Rattle.rv32_exec.specs.declared.stop.Stop.{Stop}
use Rattle.rv32_exec.specs.declared.stop.Stop.TheVariants as stop
use Rattle.rv32_exec.specs.declared.sequential.End.TheVariants as end
use Rattle.rv32_exec.specs.Arrival.{Arrival}
use Rattle.rv32_exec.specs.Hart.{start_of}
use Rattle.rv32_exec.specs.NextEvent.{next_event}
use Rattle.rv32_exec.specs.Sequential.{exits}
use Rattle.spec_history.specs.declared.entry.What.TheVariants.{Start, Load, Store, Restart, Commit, Fault}
use Rattle.spec_history.specs.FlatState.{CoreState, end_at}
use Rattle.violations.specs.declared.step.WaitCause.{WaitCause}
use Rattle.violations.specs.View.{StoreView}
use Rattle.violations.specs.Rule.{HurtsLater}
use Rattle.homefree.specs.declared.answer.Answer.TheVariants.{Go, Again, Over}
use Rattle.homefree.specs.declared.answer.Cause.TheVariants.{NoEpoch, NotHomefree}
use Rattle.homefree.specs.Hurts.{cancels}
use Rattle.homefree.specs.Kept.{kept_of}
use Rattle.homefree.specs.Moves.{IsHanded}
use Rattle.homefree.specs.Turned as turn
use Rattle.homefree.specs.Turned.{Turn, Outcome, Acts, does, entry_of, hurts_of, publish_of, loaded_hart, stored_hart, left_or_over, cause_of, wait_at, IsStale, IsHandedIn}
use Rattle.homefree.proofs.Fixed.Hurt.{lost, lost_later, hurt_is, later_is, later_of_none, IsReaders, readers_of}
use Rattle.homefree.proofs.SmallFacts.{stale_not}

-- ---- why the store waits, and whether the core publishes

abbrev pub wait_here : Turn → Option CoreState → Option WaitCause
wait_here t None = None
wait_here t (Some c) = wait_at t.waits t.core (next_event t.image c.hart).at

abbrev pub wants : Option WaitCause → Stop → Bool
wants wait (stop.Load address width signed rd) = is_some wait
wants wait (stop.Store address width value) = is_some wait
wants wait stop.Ended = true
wants wait (stop.Fault cause pc) = true

abbrev pub publishes_at : Turn → CoreState → Option WaitCause → Stop → Bool
publishes_at t c wait at = wants wait at && ((c.epoch == t.state.homefree) && not c.straight)

abbrev pub publishes_of : Turn → Option CoreState → Option WaitCause → Bool → Bool
publishes_of t None wait handed = false
publishes_of t (Some c) wait handed = not c.hurt && (handed && publishes_at t c wait (next_event t.image c.hart).at)

-- those that the publish violates, where the turn has one; else nobody
pub record IsFirst (core : ℕ) (v : StoreView) (publishes : Bool) (first : ℕ → Bool) : Type 0 where
  pub readers : publishes ≡ true → IsReaders v core first
  pub nobody : publishes ≡ false → (k : ℕ) → first k ≡ false

-- ---- what comes of a turn

abbrev pub seen : Turn → CoreState → StoreView → ℕ → ℕ
seen t c v = if c.straight then v.committed else v.sees t.core

abbrev pub loads : Turn → CoreState → StoreView → StoreView → ℕ → ℕ → Outcome
loads t c v w address width =
    let value = number_at (v.sees t.core) address width in
    does (hurts_of t (lost v w) ++ entry_of t (Load address width value)) (Go (loaded_hart t.image c value))

abbrev pub loads_straight : Turn → CoreState → (ℕ → Bool) → StoreView → StoreView → ℕ → ℕ → Outcome
loads_straight t c first v w address width =
    let value = number_at (seen t c v) address width in
    does (publish_of t c first ++ (hurts_of t (lost_later first v w) ++ entry_of t (Load address width value))) (Go (loaded_hart t.image c value))

abbrev pub stores : Turn → CoreState → StoreView → StoreView → ℕ → ℕ → ℕ → Outcome
stores t c v w address width value = does (hurts_of t (lost v w) ++ entry_of t (Store address width value)) (Go (stored_hart t.image c))

abbrev pub stores_straight : Turn → CoreState → (ℕ → Bool) → StoreView → StoreView → ℕ → ℕ → ℕ → Outcome
stores_straight t c first v w address width value =
    does (publish_of t c first ++ (hurts_of t (lost_later first v w) ++ entry_of t (Store address width value))) (Go (stored_hart t.image c))

abbrev pub ends : Turn → CoreState → (ℕ → Bool) → Outcome
ends t c first =
    if exits t.image (next_event t.image c.hart).now then does (hurts_of t first ++ (cancels t.cores t.state t.core ++ entry_of t Commit)) (Over (end.Exit c.epoch))
    else does (hurts_of t first ++ entry_of t Commit) (left_or_over (end_at t.image (t.state.homefree + 1)))

abbrev pub faults : Turn → CoreState → (ℕ → Bool) → ℕ → ℕ → Outcome
faults t c first cause pc = does (hurts_of t first ++ entry_of t (Fault cause pc)) (Over (end.Fault c.epoch cause pc))

-- where the store waits, the homefree core goes straight, and any other comes again
abbrev pub by_wait : Turn → CoreState → Option WaitCause → Outcome → Outcome → Outcome
by_wait t c None goes straight = goes
by_wait t c (Some cause) goes straight = if c.epoch == t.state.homefree then straight else does [] (Again (cause_of cause))

abbrev pub at_stop : Turn → CoreState → Option WaitCause → (ℕ → Bool) → StoreView → StoreView → Stop → Outcome
at_stop t c wait first v w (stop.Load address width signed rd) =
    if c.straight then loads_straight t c first v w address width else by_wait t c wait (loads t c v w address width) (loads_straight t c first v w address width)
at_stop t c wait first v w (stop.Store address width value) =
    if c.straight then stores_straight t c first v w address width value
    else by_wait t c wait (stores t c v w address width value) (stores_straight t c first v w address width value)
at_stop t c wait first v w stop.Ended = if c.epoch == t.state.homefree then ends t c first else does [] (Again NotHomefree)
at_stop t c wait first v w (stop.Fault cause pc) = if c.epoch == t.state.homefree then faults t c first cause pc else does [] (Again NotHomefree)

abbrev pub outcome : Turn → Option CoreState → Option WaitCause → Bool → (ℕ → Bool) → StoreView → StoreView → Outcome
outcome t None wait handed first v w =
    if nat_lt t.state.next_epoch t.image.epochs then does (entry_of t (Start t.state.next_epoch)) (Go (start_of t.image t.state.next_epoch)) else does [] (Again NoEpoch)
outcome t (Some c) wait handed first v w =
    if c.hurt then does (entry_of t Restart) (Go (start_of t.image c.epoch))
    else if handed then at_stop t c wait first v w (next_event t.image c.hart).at else does [] (Go c.hart)

pub record IsOutcome (t : Turn) (o : Option CoreState) (handed : Bool) (v w : StoreView) (out : Outcome) : Type 0 where
  pub first : ℕ → Bool
  pub is_first : IsFirst t.core v (publishes_of t o (wait_here t o) handed) first
  pub out_is : out ≡ outcome t o (wait_here t o) handed first v w

-- ---- whether the stop is handed in

pub handed_true : (next : Option Arrival) (c : CoreState) (handed : Bool) → IsHanded (Some (kept_of c)) next handed → c.hurt ≡ false → IsHandedIn next c.hart → handed ≡ true
handed_true next c true is unhurt handed = refl
handed_true next c false is unhurt handed = absurd (stale_not next c.hart (is unhurt) handed)

pub handed_false : (next : Option Arrival) (c : CoreState) (handed : Bool) → IsHanded (Some (kept_of c)) next handed → IsStale next c.hart → handed ≡ false
handed_false next c true is stale = absurd (stale_not next c.hart stale is)
handed_false next c false is stale = refl

-- ---- a core at its stop

abbrev nobody : ℕ → Bool
nobody k = false

never : (t : Turn) (v : StoreView) (publishes : Bool) → publishes ≡ false → IsFirst t.core v publishes nobody
never t v publishes none = record { readers = λ e. absurd (true≢false (sym e ∙ none)); nobody = λ e k. refl }

module _ (t : Turn) (c : CoreState) (handed : Bool) (v w : StoreView) where
  -- the core isn't hurt, and hands in this stop
  pub record Stands (at : Stop) : Type 0 where
    pub unhurt : c.hurt ≡ false
    pub handed_in : handed ≡ true
    pub event : (next_event t.image c.hart).at ≡ at

  publishes_is : (at : Stop) → Stands at → (wait : Option WaitCause) → wait_here t (Some c) ≡ wait → publishes_of t (Some c) (wait_here t (Some c)) handed ≡ publishes_at t c wait at
  publishes_is at h wait waits =
      ap (λ b. not b && (handed && publishes_at t c (wait_here t (Some c)) (next_event t.image c.hart).at)) h.unhurt
      ∙ (ap (λ b. b && publishes_at t c (wait_here t (Some c)) (next_event t.image c.hart).at) h.handed_in
      ∙ (ap (λ x. publishes_at t c (wait_here t (Some c)) x) h.event ∙ ap (λ o. publishes_at t c o at) waits))

  outcome_is : (at : Stop) → Stands at → (wait : Option WaitCause) → wait_here t (Some c) ≡ wait → (first : ℕ → Bool) → outcome t (Some c) (wait_here t (Some c)) handed first v w ≡ at_stop t c wait first v w at
  outcome_is at h wait waits first =
      ap (λ b. if b then does (entry_of t Restart) (Go (start_of t.image c.epoch))
      else if handed then at_stop t c (wait_here t (Some c)) first v w (next_event t.image c.hart).at else does [] (Go c.hart)) h.unhurt
      ∙ (ap (λ b. if b then at_stop t c (wait_here t (Some c)) first v w (next_event t.image c.hart).at else does [] (Go c.hart)) h.handed_in
      ∙ (ap (λ x. at_stop t c (wait_here t (Some c)) first v w x) h.event ∙ ap (λ o. at_stop t c o first v w at) waits))

  -- a turn of such a core, by what is known at its stop
  pub at_is : (at : Stop) → Stands at → (wait : Option WaitCause) → wait_here t (Some c) ≡ wait → (first : ℕ → Bool) → IsFirst t.core v (publishes_at t c wait at) first → (out : Outcome)
      → out ≡ at_stop t c wait first v w at → IsOutcome t (Some c) handed v w out
  at_is at h wait waits first is_first out is = record {
    first = first;
    is_first = subst (λ b. IsFirst t.core v b first) (sym (publishes_is at h wait waits)) is_first;
    out_is = is ∙ sym (outcome_is at h wait waits first);
  }

  -- why it waits at an access
  pub wait_is : (at : Stop) → Stands at → wait_here t (Some c) ≡ wait_at t.waits t.core at
  wait_is at h = ap (λ x. wait_at t.waits t.core x) h.event

stands_at : (t : Turn) (c : CoreState) (at : Stop) (handed : Bool) (v w : StoreView) → IsHanded (Some (kept_of c)) t.next handed → turn.IsAt t c at → Stands t c handed v w at
stands_at t c at handed v w is h = record { unhurt = h.unhurt; handed_in = handed_true t.next c handed is h.unhurt h.handed_in; event = h.event }

at_core : (t : Turn) (c : CoreState) (handed : Bool) (v w : StoreView) (out : Outcome) → t.state.cores t.core ≡ Some c → IsOutcome t (Some c) handed v w out → IsOutcome t (t.state.cores t.core) handed v w out
at_core t c handed v w out runs is = subst (λ o. IsOutcome t o handed v w out) (sym runs) is

handed_at : (t : Turn) (c : CoreState) (handed : Bool) → t.state.cores t.core ≡ Some c → IsHanded (option_map kept_of (t.state.cores t.core)) t.next handed → IsHanded (Some (kept_of c)) t.next handed
handed_at t c handed runs is = subst (λ o. IsHanded (option_map kept_of o) t.next handed) runs is

-- ---- cores that have no access

start_is : (t : Turn) (handed : Bool) (v w : StoreView) (out : Outcome) → turn.IsStart t v w out → IsOutcome t (t.state.cores t.core) handed v w out
start_is t handed v w out h =
    subst (λ o. IsOutcome t o handed v w out) (sym h.idle) (record {
      first = nobody;
      is_first = never t v false refl;
      out_is = h.out_is ∙ sym (ap (λ b. if b then does (entry_of t (Start t.state.next_epoch)) (Go (start_of t.image t.state.next_epoch)) else does [] (Again NoEpoch))
          (lt-ltb t.state.next_epoch t.image.epochs h.left));
    })

none_left_is : (t : Turn) (handed : Bool) (v w : StoreView) (out : Outcome) → turn.IsNoneLeft t v w out → IsOutcome t (t.state.cores t.core) handed v w out
none_left_is t handed v w out h =
    subst (λ o. IsOutcome t o handed v w out) (sym h.idle) (record {
      first = nobody;
      is_first = never t v false refl;
      out_is = h.out_is ∙ sym (ap (λ b. if b then does (entry_of t (Start t.state.next_epoch)) (Go (start_of t.image t.state.next_epoch)) else does [] (Again NoEpoch))
          (le-ltb t.state.next_epoch t.image.epochs h.left));
    })

restart_is : (t : Turn) (handed : Bool) (v w : StoreView) (out : Outcome) → turn.IsRestart t v w out → IsOutcome t (t.state.cores t.core) handed v w out
restart_is t handed v w out h =
    let c = h.core in
    at_core t c handed v w out h.runs (record {
      first = nobody;
      is_first = never t v (publishes_of t (Some c) (wait_here t (Some c)) handed) (ap (λ b. not b && (handed && publishes_at t c (wait_here t (Some c)) (next_event t.image c.hart).at)) h.hurt);
      out_is = h.out_is ∙ sym (ap (λ b. if b then does (entry_of t Restart) (Go (start_of t.image c.epoch))
          else if handed then at_stop t c (wait_here t (Some c)) nobody v w (next_event t.image c.hart).at else does [] (Go c.hart)) h.hurt);
    })

told_is : (t : Turn) (handed : Bool) (v w : StoreView) (out : Outcome) → IsHanded (option_map kept_of (t.state.cores t.core)) t.next handed → turn.IsTold t v w out → IsOutcome t (t.state.cores t.core) handed v w out
told_is t handed v w out is h =
    let c = h.core in
    let none = handed_false t.next c handed (handed_at t c handed h.runs is) h.stale in
    at_core t c handed v w out h.runs (record {
      first = nobody;
      is_first = never t v (publishes_of t (Some c) (wait_here t (Some c)) handed)
          (ap (λ b. not c.hurt && (b && publishes_at t c (wait_here t (Some c)) (next_event t.image c.hart).at)) none ∙ and_right (not c.hurt) false refl);
      out_is = h.out_is ∙ sym (ap (λ b. if b then does (entry_of t Restart) (Go (start_of t.image c.epoch))
          else if handed then at_stop t c (wait_here t (Some c)) nobody v w (next_event t.image c.hart).at else does [] (Go c.hart)) h.unhurt
          ∙ ap (λ b. if b then at_stop t c (wait_here t (Some c)) nobody v w (next_event t.image c.hart).at else does [] (Go c.hart)) none);
    })

-- ---- speculative accesses

not_waiting : (t : Turn) (c : CoreState) (at : Stop) → wants None at ≡ false → publishes_at t c None at ≡ false
not_waiting t c at e = ap (λ b. b && ((c.epoch == t.state.homefree) && not c.straight)) e

load_is : (t : Turn) (handed : Bool) (v w : StoreView) (out : Outcome) → IsHanded (option_map kept_of (t.state.cores t.core)) t.next handed → turn.IsLoad t v w out → IsOutcome t (t.state.cores t.core) handed v w out
load_is t handed v w out is h =
    let c = h.core in
    let at : Stop = stop.Load h.address h.width h.signed h.rd in
    let stands = stands_at t c at handed v w (handed_at t c handed h.comes.is_at.runs is) h.comes.is_at in
    let hurts = hurt_is v w t.core h.hurt h.store.others h.store.attempt in
    at_core t c handed v w out h.comes.is_at.runs
    (at_is t c handed v w at stands None (wait_is t c handed v w at stands ∙ h.goes_on) nobody (never t v (publishes_at t c None at) (not_waiting t c at refl)) out
    (h.out_is ∙ ((λ i. does (hurts_of t (hurts i) ++ entry_of t (Load h.address h.width (h.store.value_is i))) (Go (loaded_hart t.image c (h.store.value_is i))))
    ∙ sym (ap (λ b. if b then loads_straight t c nobody v w h.address h.width else loads t c v w h.address h.width) h.comes.speculates))))

store_is : (t : Turn) (handed : Bool) (v w : StoreView) (out : Outcome) → IsHanded (option_map kept_of (t.state.cores t.core)) t.next handed → turn.IsStore t v w out → IsOutcome t (t.state.cores t.core) handed v w out
store_is t handed v w out is h =
    let c = h.core in
    let at : Stop = stop.Store h.address h.width h.value in
    let stands = stands_at t c at handed v w (handed_at t c handed h.comes.is_at.runs is) h.comes.is_at in
    let hurts = hurt_is v w t.core h.hurt h.store.others h.store.attempt in
    at_core t c handed v w out h.comes.is_at.runs
    (at_is t c handed v w at stands None (wait_is t c handed v w at stands ∙ h.goes_on) nobody (never t v (publishes_at t c None at) (not_waiting t c at refl)) out
    (h.out_is ∙ ((λ i. does (hurts_of t (hurts i) ++ entry_of t (Store h.address h.width h.value)) (Go (stored_hart t.image c)))
    ∙ sym (ap (λ b. if b then stores_straight t c nobody v w h.address h.width h.value else stores t c v w h.address h.width h.value) h.comes.speculates))))

later_none : (t : Turn) (c : CoreState) (wait : Option WaitCause) (at : Stop) → c.epoch ≢ t.state.homefree → publishes_at t c wait at ≡ false
later_none t c wait at later = ap (λ b. wants wait at && (b && not c.straight)) (ne_eqb c.epoch t.state.homefree later) ∙ and_right (wants wait at) false refl

waits_is : (t : Turn) (handed : Bool) (v w : StoreView) (out : Outcome) → IsHanded (option_map kept_of (t.state.cores t.core)) t.next handed → turn.IsWait t v w out → IsOutcome t (t.state.cores t.core) handed v w out
waits_is t handed v w out is h =
    let c = h.core in
    let stands = stands_at t c h.at handed v w (handed_at t c handed h.comes.is_at.runs is) h.comes.is_at in
    at_core t c handed v w out h.comes.is_at.runs
    (at_is t c handed v w h.at stands (Some h.cause) (wait_is t c handed v w h.at stands ∙ h.waits) nobody (never t v (publishes_at t c (Some h.cause) h.at) (later_none t c (Some h.cause) h.at h.later)) out
    (h.out_is ∙ sym (by_stop h.at h.waits)))
  where
    c : CoreState
    c = h.core

    again : Outcome
    again = does [] (Again (cause_of h.cause))

    by_access : (goes straight : Outcome) → (if c.straight then straight else by_wait t c (Some h.cause) goes straight) ≡ again
    by_access goes straight =
        ap (λ b. if b then straight else by_wait t c (Some h.cause) goes straight) h.comes.speculates
        ∙ ap (λ b. if b then straight else again) (ne_eqb c.epoch t.state.homefree h.later)

    by_stop : (at : Stop) → wait_at t.waits t.core at ≡ Some h.cause → at_stop t c (Some h.cause) nobody v w at ≡ again
    by_stop (stop.Load address width signed rd) e = by_access (loads t c v w address width) (loads_straight t c nobody v w address width)
    by_stop (stop.Store address width value) e = by_access (stores t c v w address width value) (stores_straight t c nobody v w address width value)
    by_stop stop.Ended e = absurd cc
    by_stop (stop.Fault cause pc) e = absurd cc

early_is : (t : Turn) (handed : Bool) (v w : StoreView) (out : Outcome) → IsHanded (option_map kept_of (t.state.cores t.core)) t.next handed → turn.IsEarly t v w out → IsOutcome t (t.state.cores t.core) handed v w out
early_is t handed v w out is h =
    let c = h.core in
    let stands = stands_at t c h.at handed v w (handed_at t c handed h.comes.runs is) h.comes in
    let wait = wait_here t (Some c) in
    at_core t c handed v w out h.comes.runs
    (at_is t c handed v w h.at stands wait refl nobody (never t v (publishes_at t c wait h.at) (later_none t c wait h.at h.later)) out
    (h.out_is ∙ sym (by_stop wait h.at h.ends)))
  where
    c : CoreState
    c = h.core

    again : Outcome
    again = does [] (Again NotHomefree)

    by_stop : (wait : Option WaitCause) (at : Stop) → turn.IsEnd at → at_stop t c wait nobody v w at ≡ again
    by_stop wait (stop.Load address width signed rd) e = absurd e
    by_stop wait (stop.Store address width value) e = absurd e
    by_stop wait stop.Ended e = ap (λ b. if b then ends t c nobody else again) (ne_eqb c.epoch t.state.homefree h.later)
    by_stop wait (stop.Fault cause pc) e = ap (λ b. if b then faults t c nobody cause pc else again) (ne_eqb c.epoch t.state.homefree h.later)

-- ---- the homefree core, which publishes unless it is straight

-- whom the publish violates
first_of : (t : Turn) (c : CoreState) (wait : Option WaitCause) (at : Stop) (v x : StoreView) (hurt : ℕ → Bool) → (c.straight ≡ false → wants wait at ≡ true) → c.epoch ≡ t.state.homefree
    → turn.publishes_unless c.straight v x t.core hurt → IsFirst t.core v (publishes_at t c wait at) hurt
first_of t c wait at v x hurt wanted home publishes = pick c.straight refl publishes
  where
    pick : (b : Bool) → c.straight ≡ b → turn.publishes_unless b v x t.core hurt → IsFirst t.core v (publishes_at t c wait at) hurt
    pick true e p =
        let none : publishes_at t c wait at ≡ false = ap (λ b. wants wait at && ((c.epoch == t.state.homefree) && not b)) e
        ∙ (ap (λ b. wants wait at && b) (and_right (c.epoch == t.state.homefree) false refl) ∙ and_right (wants wait at) false refl) in
        record { readers = λ is. absurd (true≢false (sym is ∙ none)); nobody = λ is. p.1 }
    pick false e p =
        let all : publishes_at t c wait at ≡ true = ap (λ b. b && ((c.epoch == t.state.homefree) && not c.straight)) (wanted e)
        ∙ (ap (λ b. b && not c.straight) (eq-eqb c.epoch t.state.homefree home) ∙ ap not e) in
        record { readers = λ is. readers_of v x t.core hurt p; nobody = λ is. absurd (true≢false (sym all ∙ is)) }

-- what it sees once it has published
seen_after : (t : Turn) (c : CoreState) (v x : StoreView) (hurt : ℕ → Bool) → turn.publishes_unless c.straight v x t.core hurt → x.committed ≡ seen t c v
seen_after t c v x hurt publishes = pick c.straight publishes
  where
    pick : (b : Bool) → turn.publishes_unless b v x t.core hurt → x.committed ≡ (if b then v.committed else v.sees t.core)
    pick true p = ap (λ (y : StoreView). y.committed) p.0
    pick false p = fun_ext p.committed

-- whom the access after it violates
later_of : (t : Turn) (straight : Bool) (v x w : StoreView) (first second : ℕ → Bool) → turn.publishes_unless straight v x t.core first → HurtsLater x w t.core second → w.attempt t.core ≡ x.attempt t.core
    → second ≡ lost_later first v w
later_of t true v x w first second p hurts own =
    hurt_is x w t.core second hurts own ∙ (ap (λ (y : StoreView). lost y w) p.0 ∙ later_of_none first v w p.1)
later_of t false v x w first second p hurts own = later_is v x w t.core first second p hurts own

-- a straight access, where a speculative one waits
straight_by : (t : Turn) (c : CoreState) (wait : Option WaitCause) (goes straight : Outcome) → c.epoch ≡ t.state.homefree → (c.straight ≡ false → is_some wait ≡ true)
    → (if c.straight then straight else by_wait t c wait goes straight) ≡ straight
straight_by t c wait goes straight home waits = pick c.straight refl
  where
    pick : (b : Bool) → c.straight ≡ b → (if b then straight else by_wait t c wait goes straight) ≡ straight
    pick true e = refl
    pick false e =
        let some = value_of wait (waits e) in
        ap (λ o. by_wait t c o goes straight) some.1 ∙ ap (λ b. if b then straight else does [] (Again (cause_of some.0))) (eq-eqb c.epoch t.state.homefree home)

straight_load_is : (t : Turn) (handed : Bool) (v w : StoreView) (out : Outcome) → IsHanded (option_map kept_of (t.state.cores t.core)) t.next handed → turn.IsStraightLoad t v w out
    → IsOutcome t (t.state.cores t.core) handed v w out
straight_load_is t handed v w out is h =
    let c = h.core in
    let at : Stop = stop.Load h.address h.width h.signed h.rd in
    let p = h.comes in
    let stands = stands_at t c at handed v w (handed_at t c handed p.is_at.runs is) p.is_at in
    let wait = t.waits.load t.core h.address h.width in
    let hurts = later_of t c.straight v h.between w h.first h.hurt p.publishes h.store.others h.store.attempt in
    let value : h.value ≡ number_at (seen t c v) h.address h.width = h.store.value_is ∙ ap (λ f. number_at f h.address h.width) (seen_after t c v h.between h.first p.publishes) in
    at_core t c handed v w out p.is_at.runs
    (at_is t c handed v w at stands wait (wait_is t c handed v w at stands) h.first (first_of t c wait at v h.between h.first h.waits p.homefree p.publishes) out
    (h.out_is ∙ ((λ i. does (publish_of t c h.first ++ (hurts_of t (hurts i) ++ entry_of t (Load h.address h.width (value i)))) (Go (loaded_hart t.image c (value i))))
    ∙ sym (straight_by t c wait (loads t c v w h.address h.width) (loads_straight t c h.first v w h.address h.width) p.homefree h.waits))))

straight_store_is : (t : Turn) (handed : Bool) (v w : StoreView) (out : Outcome) → IsHanded (option_map kept_of (t.state.cores t.core)) t.next handed → turn.IsStraightStore t v w out
    → IsOutcome t (t.state.cores t.core) handed v w out
straight_store_is t handed v w out is h =
    let c = h.core in
    let at : Stop = stop.Store h.address h.width h.value in
    let p = h.comes in
    let stands = stands_at t c at handed v w (handed_at t c handed p.is_at.runs is) p.is_at in
    let wait = t.waits.store t.core h.address h.width in
    let hurts = later_of t c.straight v h.between w h.first h.hurt p.publishes h.store.others h.store.attempt in
    at_core t c handed v w out p.is_at.runs
    (at_is t c handed v w at stands wait (wait_is t c handed v w at stands) h.first (first_of t c wait at v h.between h.first h.waits p.homefree p.publishes) out
    (h.out_is ∙ ((λ i. does (publish_of t c h.first ++ (hurts_of t (hurts i) ++ entry_of t (Store h.address h.width h.value))) (Go (stored_hart t.image c)))
    ∙ sym (straight_by t c wait (stores t c v w h.address h.width h.value) (stores_straight t c h.first v w h.address h.width h.value) p.homefree h.waits))))

commit_is : (t : Turn) (handed : Bool) (v w : StoreView) (out : Outcome) → IsHanded (option_map kept_of (t.state.cores t.core)) t.next handed → turn.IsCommit t v w out → IsOutcome t (t.state.cores t.core) handed v w out
commit_is t handed v w out is h =
    let c = h.core in
    let p = h.comes in
    let stands = stands_at t c stop.Ended handed v w (handed_at t c handed p.is_at.runs is) p.is_at in
    at_core t c handed v w out p.is_at.runs
    (at_is t c handed v w stop.Ended stands None (wait_is t c handed v w stop.Ended stands) h.hurt (first_of t c None stop.Ended v h.between h.hurt (λ e. refl) p.homefree p.publishes) out
    (h.out_is ∙ sym (ap (λ b. if b then ends t c h.hurt else does [] (Again NotHomefree)) (eq-eqb c.epoch t.state.homefree p.homefree)
    ∙ ap (λ b. if b then does (hurts_of t h.hurt ++ (cancels t.cores t.state t.core ++ entry_of t Commit)) (Over (end.Exit c.epoch))
    else does (hurts_of t h.hurt ++ entry_of t Commit) (left_or_over (end_at t.image (t.state.homefree + 1)))) h.stays)))

exit_is : (t : Turn) (handed : Bool) (v w : StoreView) (out : Outcome) → IsHanded (option_map kept_of (t.state.cores t.core)) t.next handed → turn.IsExit t v w out → IsOutcome t (t.state.cores t.core) handed v w out
exit_is t handed v w out is h =
    let c = h.core in
    let p = h.comes in
    let stands = stands_at t c stop.Ended handed v w (handed_at t c handed p.is_at.runs is) p.is_at in
    at_core t c handed v w out p.is_at.runs
    (at_is t c handed v w stop.Ended stands None (wait_is t c handed v w stop.Ended stands) h.hurt (first_of t c None stop.Ended v h.between h.hurt (λ e. refl) p.homefree p.publishes) out
    (h.out_is ∙ sym (ap (λ b. if b then ends t c h.hurt else does [] (Again NotHomefree)) (eq-eqb c.epoch t.state.homefree p.homefree)
    ∙ ap (λ b. if b then does (hurts_of t h.hurt ++ (cancels t.cores t.state t.core ++ entry_of t Commit)) (Over (end.Exit c.epoch))
    else does (hurts_of t h.hurt ++ entry_of t Commit) (left_or_over (end_at t.image (t.state.homefree + 1)))) h.exits)))

fault_is : (t : Turn) (handed : Bool) (v w : StoreView) (out : Outcome) → IsHanded (option_map kept_of (t.state.cores t.core)) t.next handed → turn.IsFault t v w out → IsOutcome t (t.state.cores t.core) handed v w out
fault_is t handed v w out is h =
    let c = h.core in
    let p = h.comes in
    let at : Stop = stop.Fault h.cause h.pc in
    let stands = stands_at t c at handed v w (handed_at t c handed p.is_at.runs is) p.is_at in
    at_core t c handed v w out p.is_at.runs
    (at_is t c handed v w at stands None (wait_is t c handed v w at stands) h.hurt (first_of t c None at v w h.hurt (λ e. refl) p.homefree p.publishes) out
    (h.out_is ∙ sym (ap (λ b. if b then faults t c h.hurt h.cause h.pc else does [] (Again NotHomefree)) (eq-eqb c.epoch t.state.homefree p.homefree))))

-- ---- any turn that has room

pub acts_is : (t : Turn) (handed : Bool) (v w : StoreView) (out : Outcome) → IsHanded (option_map kept_of (t.state.cores t.core)) t.next handed → Acts t v w out → IsOutcome t (t.state.cores t.core) handed v w out
acts_is t handed v w out is (turn.starts h) = start_is t handed v w out h
acts_is t handed v w out is (turn.finds_none h) = none_left_is t handed v w out h
acts_is t handed v w out is (turn.restarts h) = restart_is t handed v w out h
acts_is t handed v w out is (turn.is_told h) = told_is t handed v w out is h
acts_is t handed v w out is (turn.follows (turn.loads h)) = load_is t handed v w out is h
acts_is t handed v w out is (turn.follows (turn.stores h)) = store_is t handed v w out is h
acts_is t handed v w out is (turn.follows (turn.waits h)) = waits_is t handed v w out is h
acts_is t handed v w out is (turn.follows (turn.loads_straight h)) = straight_load_is t handed v w out is h
acts_is t handed v w out is (turn.follows (turn.stores_straight h)) = straight_store_is t handed v w out is h
acts_is t handed v w out is (turn.follows (turn.is_early h)) = early_is t handed v w out is h
acts_is t handed v w out is (turn.follows (turn.commits h)) = commit_is t handed v w out is h
acts_is t handed v w out is (turn.follows (turn.exits_loop h)) = exit_is t handed v w out is h
acts_is t handed v w out is (turn.follows (turn.faults h)) = fault_is t handed v w out is h
