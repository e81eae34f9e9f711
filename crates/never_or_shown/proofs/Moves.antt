-- The calls of the caches that a turn makes, by what the core does.
use Rattle.std.proofs.Common.{◌≡◌, ℕ, ◌&&◌, not, Bool, true, false, cond, nat_lt, List, [], ◌∷◌, ◌++◌, Option, Some, None, is_some, sym, subst}
use Rattle.rv32_exec.specs.NextEvent.{next_event}
use Rattle.rv32_exec.specs.declared.stop.Stop.{Stop}
use Rattle.spec_history.specs.FlatState.{CoreState}
use Rattle.violations.specs.declared.step.WaitCause.{WaitCause}
use Rattle.violations.specs.Calls.{Call, Begin, Leave, Publish, Leads}
use Rattle.spec_bus.specs.Cached.{CachedView, store_view}
use Rattle.spec_bus.specs.Laws.{Makes}
use Rattle.homefree.specs.declared.register.Running.{Running}
use Rattle.homefree.specs.Kept.{kept_of}
use Rattle.homefree.specs.Moves.{IsHanded, Moves, Standing, TurnMoves, access_calls, calls_of, exits_of, is_exit, publish_calls, stop_calls}
use Rattle.homefree.specs.Turned.{IsHandedIn, IsStale}
use Rattle.homefree.proofs.SmallFacts.{stale_not}

abbrev pub Made : List Call → Bool → ℕ → ℕ → CachedView → CachedView → Type 0
Made calls leaves count core v w = Moves Makes store_view calls leaves count core v w

leads_of : (calls : List Call) (count core : ℕ) (v w : CachedView) → Made calls false count core v w → Leads Makes calls v w
leads_of calls count core v w made = subst (λ (x : CachedView). Leads Makes calls v x) (sym made.rest) made.leads

pub no_call : (count core : ℕ) (v w : CachedView) → Made [] false count core v w → w ≡ v
no_call count core v w made = leads_of [] count core v w made

one_of : (call : Call) (v w : CachedView) → Leads Makes (call ∷ []) v w → Makes v call w
one_of call v w (x, makes, same) = subst (λ (y : CachedView). Makes v call y) (sym same) makes

pub one_call : (call : Call) (count core : ℕ) (v w : CachedView) → Made (call ∷ []) false count core v w → Makes v call w
one_call call count core v w made = one_of call v w (leads_of (call ∷ []) count core v w made)

-- ---- a core at a stop

module _ (t : Standing) (v w : CachedView) (moves : TurnMoves Makes store_view t v w) where
  pub at_stop : (c : CoreState) (at : Stop) → t.running ≡ Some (kept_of c) → c.hurt ≡ false → IsHandedIn t.next c.hart → (next_event t.image c.hart).at ≡ at
      → Made (stop_calls t.image t.waits t.homefree t.core (kept_of c) (next_event t.image c.hart).now at) (is_exit t.image t.homefree (kept_of c) (next_event t.image c.hart).now at) t.count t.core v w
  at_stop c at runs unhurt handed_in is =
      pick moves.handed (subst (λ (r : Option Running). IsHanded r t.next moves.handed) runs moves.is_handed)
      (subst (λ (r : Option Running). Made (calls_of t r moves.handed) (exits_of t r moves.handed) t.count t.core v w) runs moves.moves)
    where
      calls : Stop → List Call
      calls a = stop_calls t.image t.waits t.homefree t.core (kept_of c) (next_event t.image c.hart).now a

      leaves : Stop → Bool
      leaves a = is_exit t.image t.homefree (kept_of c) (next_event t.image c.hart).now a

      pick : (b : Bool) → IsHanded (Some (kept_of c)) t.next b → Made (calls_of t (Some (kept_of c)) b) (exits_of t (Some (kept_of c)) b) t.count t.core v w
          → Made (stop_calls t.image t.waits t.homefree t.core (kept_of c) (next_event t.image c.hart).now at) (is_exit t.image t.homefree (kept_of c) (next_event t.image c.hart).now at) t.count t.core v w
      pick true h made =
          subst (λ (a : Stop). Made (stop_calls t.image t.waits t.homefree t.core (kept_of c) (next_event t.image c.hart).now a) (is_exit t.image t.homefree (kept_of c) (next_event t.image c.hart).now a) t.count t.core v w) is
          (subst (λ (b : Bool). Made (cond b (Begin t.core c.epoch ∷ []) (stop_calls t.image t.waits t.homefree t.core (kept_of c) (next_event t.image c.hart).now (next_event t.image c.hart).at))
          (not b && true && is_exit t.image t.homefree (kept_of c) (next_event t.image c.hart).now (next_event t.image c.hart).at) t.count t.core v w) unhurt made)
      pick false h made = absurd (stale_not t.next c.hart (h unhurt) handed_in)

  -- a core that is told its hart
  pub at_stale : (c : CoreState) → t.running ≡ Some (kept_of c) → c.hurt ≡ false → IsStale t.next c.hart → w ≡ v
  at_stale c runs unhurt stale =
      pick moves.handed (subst (λ (r : Option Running). IsHanded r t.next moves.handed) runs moves.is_handed)
      (subst (λ (r : Option Running). Made (calls_of t r moves.handed) (exits_of t r moves.handed) t.count t.core v w) runs moves.moves)
    where
      pick : (b : Bool) → IsHanded (Some (kept_of c)) t.next b → Made (calls_of t (Some (kept_of c)) b) (exits_of t (Some (kept_of c)) b) t.count t.core v w → w ≡ v
      pick true h made = absurd (stale_not t.next c.hart stale h)
      pick false h made = no_call t.count t.core v w
          (subst (λ (b : Bool). Made (cond b (Begin t.core c.epoch ∷ []) [])
          (not b && false && is_exit t.image t.homefree (kept_of c) (next_event t.image c.hart).now (next_event t.image c.hart).at) t.count t.core v w) unhurt made)

  -- an idle core
  idle_calls : t.running ≡ None → Made (cond (nat_lt t.next_epoch t.image.epochs) (Begin t.core t.next_epoch ∷ []) []) false t.count t.core v w
  idle_calls idle = subst (λ (r : Option Running). Made (calls_of t r moves.handed) (exits_of t r moves.handed) t.count t.core v w) idle moves.moves

  pub at_start : t.running ≡ None → nat_lt t.next_epoch t.image.epochs ≡ true → Makes v (Begin t.core t.next_epoch) w
  at_start idle left = one_call (Begin t.core t.next_epoch) t.count t.core v w
      (subst (λ (b : Bool). Made (cond b (Begin t.core t.next_epoch ∷ []) []) false t.count t.core v w) left (idle_calls idle))

  pub at_none : t.running ≡ None → nat_lt t.next_epoch t.image.epochs ≡ false → w ≡ v
  at_none idle left = no_call t.count t.core v w
      (subst (λ (b : Bool). Made (cond b (Begin t.core t.next_epoch ∷ []) []) false t.count t.core v w) left (idle_calls idle))

-- ---- accesses

-- what the calls of an access make, by whether the core is straight, why the speculative access waits, and whether the epoch is homefree
abbrev pub AccessMade : Bool → Option WaitCause → Bool → ℕ → Call → Call → CachedView → CachedView → Type 0
AccessMade true why same core speculative access v w = Makes v access w
AccessMade false None same core speculative access v w = Makes v speculative w
AccessMade false (Some cause) false core speculative access v w = Makes v speculative w
AccessMade false (Some cause) true core speculative access v w =
    (x : CachedView) × (y : CachedView) × Makes v speculative x × Makes x (Publish core) y × Makes y access w

pub access_made : (straight : Bool) (why : Option WaitCause) (same : Bool) (count core : ℕ) (speculative access : Call) (v w : CachedView)
    → Made (access_calls straight (is_some why && same) core speculative access) false count core v w → AccessMade straight why same core speculative access v w
access_made true why same count core speculative access v w made = one_call access count core v w made
access_made false None same count core speculative access v w made = one_call speculative count core v w made
access_made false (Some cause) false count core speculative access v w made = one_call speculative count core v w made
access_made false (Some cause) true count core speculative access v w made =
    let (x, first, (y, second, rest)) = leads_of (speculative ∷ Publish core ∷ access ∷ []) count core v w made in
    (x, y, first, second, one_of access y w rest)

-- ---- the homefree epoch has ended

abbrev pub CommitMade : Bool → ℕ → CachedView → CachedView → Type 0
CommitMade true core v w = Makes v (Leave core) w
CommitMade false core v w = (x : CachedView) × Makes v (Publish core) x × Makes x (Leave core) w

pub commit_made : (straight : Bool) (count core : ℕ) (v w : CachedView) → Made (publish_calls straight core ++ Leave core ∷ []) false count core v w → CommitMade straight core v w
commit_made true count core v w made = one_call (Leave core) count core v w made
commit_made false count core v w made =
    let (x, first, rest) = leads_of (Publish core ∷ Leave core ∷ []) count core v w made in
    (x, first, one_of (Leave core) x w rest)
