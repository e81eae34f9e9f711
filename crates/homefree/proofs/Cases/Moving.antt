-- The calls of the store that a turn makes.
use Rattle.std.proofs.Common.{◌≡◌, ◌≢◌, ℕ, suc, ◌+◌, ◌==◌, ◌&&◌, not, Bool, true, false, List, [], ◌∷◌, ◌++◌, length, Option, Some, Result, Ok, is_some, if◌then◌else◌, refl, sym, ap, subst, ◌∙◌, arith, ne_eqb, eq-eqb, true≢false}
use Rattle.rv32_image.proofs.SmallFacts.{one_value}
use Rattle.rv32_image.specs.Image.{LoadedImage}
use Rattle.rv32_exec.specs.declared.stop.Stop.{Stop}
use Rattle.rv32_exec.specs.declared.stop.Stop.TheVariants as stop
use Rattle.rv32_exec.specs.Arrival.{Arrival}
use Rattle.rv32_exec.specs.Hart.{HartState}
use Rattle.rv32_exec.specs.NextEvent.{next_event}
use Rattle.run_ledger.specs.declared.counts.Counts.{Counts}
use Rattle.spec_history.specs.FlatState.{FlatState}
use Rattle.spec_history.specs.Replay.{replay}
use Rattle.violations.specs.View.{StoreView, Waits}
use Rattle.violations.specs.declared.attempt.Attempt.{Attempt}
use Rattle.violations.specs.Calls.{Call, Reserve, Load, Store, StraightLoad, StraightStore, Cancel, Leads}
use Rattle.homefree.specs.Arms.{running_by}
use Rattle.homefree.specs.declared.answer.Answer.{Answer}
use Rattle.homefree.specs.declared.answer.StopCause.{StopCause}
use Rattle.homefree.specs.declared.fault.TurnFault.{TurnFault}
use Rattle.homefree.specs.declared.register.Register.{Register}
use Rattle.homefree.specs.declared.register.Running.{Running}
use Rattle.homefree.specs.BookInside.{IsAsBefore, book_of}
use Rattle.homefree.specs.BookView.{BookView, ReplaysTo}
use Rattle.homefree.specs.Fixed.{TurnsStore}
use Rattle.homefree.specs.Kept.{Fits, Shows, running_at}
use Rattle.homefree.specs.Moves.{Moves, TurnMoves, StoreMoves, Standing, standing_of, IsHanded, access_calls, calls_of, cancel_calls, exits_of, is_exit, publish_calls, stop_calls}
use Rattle.homefree.specs.Standing.{standing}
use Rattle.homefree.specs.Turned.{IsStale, MayAct, Turned, turn_at}

-- ---- lists of calls

pub leads_then : {S : Type 0} (makes : S → Call → S → Type 0) (first last : List Call) (s t u : S) → Leads makes first s t → Leads makes last t u → Leads makes (first ++ last) s u
leads_then makes [] last s t u leads more = subst (λ x. Leads makes last x u) leads more
leads_then makes (call ∷ calls) last s t u leads more = (leads.0, leads.1, leads_then makes calls last leads.0 t u leads.2 more)

pub leads_one : {S : Type 0} (makes : S → Call → S → Type 0) (first : List Call) (call : Call) (s t u : S) → Leads makes first s t → makes t call u → Leads makes (first ++ call ∷ []) s u
leads_one makes first call s t u leads made = leads_then makes first (call ∷ []) s t u leads (u, made, refl)

-- ---- a speculative access

-- it doesn't wait
pub leads_done : {S : Type 0} (makes : S → Call → S → Type 0) (waits same : Bool) (core : ℕ) (speculative access : Call) (s t : S) → waits ≡ false → makes s speculative t
    → Leads makes (access_calls false (waits && same) core speculative access) s t
leads_done makes waits same core speculative access s t free made = rw free (t, made, refl)

-- it waits, and the epoch isn't the homefree one
pub leads_late : {S : Type 0} (makes : S → Call → S → Type 0) (waits same : Bool) (core : ℕ) (speculative access : Call) (s t : S) → waits ≡ true → same ≡ false → makes s speculative t
    → Leads makes (access_calls false (waits && same) core speculative access) s t
leads_late makes waits same core speculative access s t waiting later made = rw (waiting, later) (t, made, refl)

-- ---- turns that make no call

-- a core whose epoch has ended, and isn't the homefree one
pub moves_none : {S : Type 0} (makes : S → Call → S → Type 0) (view : S → StoreView) (same exits : Bool) (first : List Call) (count core : ℕ) (s : S) → same ≡ false
    → Moves makes view (if same then first else []) (same && exits) count core s s
moves_none makes view true exits first count core s apart = absurd (true≢false apart)
moves_none makes view false exits first count core s apart = record { mid = s; leads = refl; rest = refl }

-- a core that is told its hart
pub moves_told : {S : Type 0} (makes : S → Call → S → Type 0) (view : S → StoreView) (t : Standing) (s : S) (r : Running) → t.running ≡ Some r → r.hurt ≡ false → IsStale t.next r.hart
    → TurnMoves makes view t s s
moves_told {S} makes view t s r runs unhurt stale = record {
  handed = false;
  is_handed = subst (λ o. IsHanded o t.next false) (sym runs) (λ h. stale);
  moves = record {
    mid = s;
    leads = rw (runs, unhurt) refl;
    rest = rw (runs, unhurt) refl;
  };
}

-- ---- a core that hands in its next event

-- a speculative load
pub moves_load : {S : Type 0} (makes : S → Call → S → Type 0) (view : S → StoreView) (image : LoadedImage) (waits : Waits) (homefree count core : ℕ) (r : Running) (now : HartState) (at : Stop)
    (address width : ℕ) (signed : Bool) (rd : ℕ) (s u : S) → at ≡ stop.Load address width signed rd → r.straight ≡ false
    → Leads makes (access_calls false (is_some (waits.load core address width) && (r.epoch == homefree)) core (Load core address width) (StraightLoad core address width)) s u
    → Moves makes view (stop_calls image waits homefree core r now at) (is_exit image homefree r now at) count core s u
moves_load makes view image waits homefree count core r now at address width signed rd s u is speculates leads =
    subst (λ a. Moves makes view (stop_calls image waits homefree core r now a) (is_exit image homefree r now a) count core s u) (sym is)
    (record { mid = u; leads = rw speculates leads; rest = refl })

-- a speculative store
pub moves_store : {S : Type 0} (makes : S → Call → S → Type 0) (view : S → StoreView) (image : LoadedImage) (waits : Waits) (homefree count core : ℕ) (r : Running) (now : HartState) (at : Stop)
    (address width value : ℕ) (s u : S) → at ≡ stop.Store address width value → r.straight ≡ false
    → Leads makes (access_calls false (is_some (waits.store core address width) && (r.epoch == homefree)) core (Store core address width value) (StraightStore core address width value)) s u
    → Moves makes view (stop_calls image waits homefree core r now at) (is_exit image homefree r now at) count core s u
moves_store makes view image waits homefree count core r now at address width value s u is speculates leads =
    subst (λ a. Moves makes view (stop_calls image waits homefree core r now a) (is_exit image homefree r now a) count core s u) (sym is)
    (record { mid = u; leads = rw speculates leads; rest = refl })

-- the turn of such a core
pub moves_run : {S : Type 0} (makes : S → Call → S → Type 0) (view : S → StoreView) (t : Standing) (attempt : Attempt) (a : Arrival) (s u : S) → t.running ≡ Some (running_by attempt a.base)
    → t.next ≡ Some a → a.now ≡ (next_event t.image a.base).now → a.at ≡ (next_event t.image a.base).at
    → Moves makes view (stop_calls t.image t.waits t.homefree t.core (running_by attempt a.base) a.now a.at) (is_exit t.image t.homefree (running_by attempt a.base) a.now a.at) t.count t.core s u
    → TurnMoves makes view t s u
moves_run makes view t attempt a s u runs handed hart event moves =
    let r = running_by attempt a.base in record {
      handed = true;
      is_handed = rw (runs, handed) refl;
      moves = subst (λ o. Moves makes view (calls_of t o true) (exits_of t o true) t.count t.core s u) (sym runs)
          (subst (λ h. Moves makes view (stop_calls t.image t.waits t.homefree t.core r h (next_event t.image a.base).at) (is_exit t.image t.homefree r h (next_event t.image a.base).at) t.count t.core s u) hart
          (subst (λ e. Moves makes view (stop_calls t.image t.waits t.homefree t.core r a.now e) (is_exit t.image t.homefree r a.now e) t.count t.core s u) event moves));
    }

-- ---- the attempts that an exit cancels

-- one more core is another one
pub other_cancelled : {S : Type 0} (makes : S → Call → S → Type 0) (v w : StoreView) (by k : ℕ) (s t u : S) → k ≢ by → w.attempt k ≡ v.attempt k → Leads makes (cancel_calls k by v) s t
    → Leads makes (if is_some (w.attempt k) then Cancel k ∷ [] else []) t u → Leads makes (cancel_calls (k + 1) by v) s u
other_cancelled makes v w by k s t u other same before one =
    subst (λ n. Leads makes (cancel_calls n by v) s u) (let next : suc k ≡ k + 1 = omega arith in next)
    (leads_then makes (cancel_calls k by v) (if not (k == by) && is_some (v.attempt k) then Cancel k ∷ [] else []) s t u before
    (subst (λ b. Leads makes (if not b && is_some (v.attempt k) then Cancel k ∷ [] else []) t u) (sym (ne_eqb k by other))
    (subst (λ o. Leads makes (if is_some o then Cancel k ∷ [] else []) t u) same one)))

-- or it is the core itself
pub own_cancelled : {S : Type 0} (makes : S → Call → S → Type 0) (v : StoreView) (by k : ℕ) (s t : S) → k ≡ by → Leads makes (cancel_calls k by v) s t → Leads makes (cancel_calls (k + 1) by v) s t
own_cancelled makes v by k s t same before =
    subst (λ n. Leads makes (cancel_calls n by v) s t) (let next : suc k ≡ k + 1 = omega arith in next)
    (leads_then makes (cancel_calls k by v) (if not (k == by) && is_some (v.attempt k) then Cancel k ∷ [] else []) s t t before
    (subst (λ b. Leads makes (if not b && is_some (v.attempt k) then Cancel k ∷ [] else []) t t) (sym (eq-eqb k by same)) refl))

-- ---- the turn of a book

module _ {S : Type 0} (makes : S → Call → S → Type 0) (view : S → StoreView) (waits : S → Waits) (r q : Register) (store reserved after : S) (room core : ℕ) (cause : Option StopCause) (next : Option Arrival)
    (fits : Fits r (view store)) (same : IsAsBefore r q) (same_waits : waits reserved ≡ waits store) (reserves : makes store Reserve reserved) where
  pub turn_takes : TurnMoves makes view (standing q (waits reserved) core next) reserved after → (s : FlatState) → replay r.image (length r.running.items) r.history.items ≡ Some s
      → StoreMoves makes view waits (standing_of (turn_at waits (book_of r store room cause) s core next)) store after
  turn_takes moves s replays = record {
    reserved = reserved;
    reserves = reserves;
    waits_are = same_waits;
    moves = subst (λ t. TurnMoves makes view t reserved after) standing_is moves;
  }
    where
      state_is : fits.state ≡ s
      state_is = one_value (replay r.image (length r.running.items) r.history.items) fits.state s fits.replays replays

      shows : Shows r s
      shows = subst (Shows r) state_is fits.shows

      standing_is : standing q (waits reserved) core next ≡ standing_of (turn_at waits (book_of r store room cause) s core next)
      standing_is = (λ i. record {
        image = same.image i;
        count = length (same.running i).items;
        waits = same_waits i;
        homefree = (same.homefree ∙ shows.homefree) i;
        next_epoch = (same.next_epoch ∙ shows.next_epoch) i;
        core = core;
        running = (ap (λ v. running_at v.items core) same.running ∙ shows.running core) i;
        next = next;
      })

-- a turn, with its calls
pub turns_store : {S : Type 0} {makes : S → Call → S → Type 0} {view : S → StoreView} {waits : S → Waits} {old new : BookView S} {shares shares' : Counts} {core : ℕ} {next : Option Arrival}
    {answer : Result Answer TurnFault} → ((s : FlatState) → ReplaysTo old s → Turned view waits old s shares core next answer new shares')
    → ((s : FlatState) (a : Answer) → ReplaysTo old s → MayAct old s → answer ≡ Ok a → StoreMoves makes view waits (standing_of (turn_at waits old s core next)) old.store new.store)
    → (s : FlatState) → ReplaysTo old s → TurnsStore makes view waits old s shares core next answer new shares'
turns_store turned moves s replays = record { turned = turned s replays; moves = λ a may is. moves s a replays may is }
