-- The homefree epoch exits the loop: the others are cancelled, in the register and in the store, and it commits.
use Rattle.std.proofs.Common.{◌≡◌, ◌≢◌, ◌≤◌, ◌<◌, ◌+◌, ◌*◌, ◌^◌, ℕ, Bool, true, false, List, ◌++◌, length, Option, Some, None, option_map, vec_len, vec_capacity, refl, sym, ap, subst, ◌∙◌, inr, arith, true≢false}
use Rattle.std.proofs.lemmas.List.{length-append}
use Rattle.rv32_exec.specs.declared.stop.Stop.TheVariants as stop
use Rattle.rv32_exec.specs.declared.sequential.End.TheVariants as end
use Rattle.rv32_exec.specs.Arrival.{Arrival}
use Rattle.rv32_exec.specs.NextEvent.{next_event}
use Rattle.rv32_exec.specs.Sequential.{exits}
use Rattle.run_ledger.specs.declared.counts.Counts.{Counts}
use Rattle.run_ledger.specs.Counts.{no_counts}
use Rattle.spec_history.specs.declared.entry.Entry.{Entry}
use Rattle.spec_history.specs.declared.entry.What.TheVariants.{Cancel, Commit}
use Rattle.spec_history.specs.FlatState.{CoreState, FlatState, end_after}
use Rattle.spec_history.specs.Effect.{effect_on}
use Rattle.spec_history.specs.Replay.{replay_from}
use Rattle.spec_history.specs.View.{IsReached}
use Rattle.spec_history.proofs.Replay.Joining.{history_goes_on}
use Rattle.violations.specs.View.{StoreView, Waits, attempt_of}
use Rattle.violations.specs.Rule.{Ends}
use Rattle.homefree.specs.declared.answer.Answer.{Answer}
use Rattle.homefree.specs.declared.register.Register.{Register}
use Rattle.homefree.specs.declared.register.Running.{Running}
use Rattle.homefree.specs.Acted.{Acted, AreFew}
use Rattle.homefree.specs.Agrees.{AgreesAt}
use Rattle.homefree.specs.Arms.{RunsEpoch, Settled, HasAttempt, HasAttemptUnless}
use Rattle.homefree.specs.AtStop.{IsAtStop}
use Rattle.homefree.specs.Hurts.{entry, hurts, cancels, hurt_if, is_other, epoch_on, with_hurts, with_cancels}
use Rattle.homefree.specs.Kept.{Shows, running_at, kept_of}
use Rattle.homefree.specs.Noted.{cancels_noted}
use Rattle.homefree.specs.Steps.{Steps}
use Rattle.homefree.specs.Turned as turn
use Rattle.homefree.specs.Turned.{CancelsOthers, does, left_or_over}
use Rattle.homefree.proofs.State.Ends as ends
use Rattle.homefree.proofs.State.Ends.{may_cancel, same_cancels}
use Rattle.homefree.proofs.State.CancelsReplay.{cancels_replay, not_other}
use Rattle.homefree.proofs.Fields.Steps.{steps_then}
use Rattle.homefree.proofs.Fields.Batches.{batch_fewer, cancels_same}
use Rattle.homefree.proofs.Fields.Hurting.{totals_same, at_stop_after}
use Rattle.homefree.proofs.Cases.Standing.{Stands, stands, event_is}
use Rattle.homefree.proofs.Cases.Acting.{acted}
use Rattle.homefree.proofs.Cases.Accessing.{one_more_entry}
use Rattle.homefree.proofs.Cases.Ending.{published, noted, shows, same_shape, publishing, homefree_c, event_hart, fewer, small_homefree, exit_answer, at_mid}

-- ---- the attempts of the others

unless_by : (m : ℕ → ℕ) (v : StoreView) (k : ℕ) (c : CoreState) (hurt : Bool) → c.hurt ≡ hurt → AgreesAt m v k (Some c) → (c.hurt ≡ false → c.straight ≡ false) → HasAttemptUnless hurt v k
unless_by m v k c true is f speculates = f.hurt c refl is
unless_by m v k c false is f speculates = record { epoch = c.epoch; is = (f.runs c refl is).attempt ∙ ap (λ b. Some (attempt_of c.epoch b)) (speculates is) }

has_by : (m : ℕ → ℕ) (v : StoreView) (k : ℕ) (o : Option CoreState) → AgreesAt m v k o → ((c : CoreState) → o ≡ Some c → c.hurt ≡ false → c.straight ≡ false) → HasAttempt v k (option_map kept_of o)
has_by m v k None f speculates = f.idle refl
has_by m v k (Some c) f speculates = unless_by m v k c c.hurt refl f (speculates c refl)

-- a core that is not hurt now was not before
unhurt_was : (b : Bool) (o : Option CoreState) (d : CoreState) → hurt_if b o ≡ Some d → d.hurt ≡ false → o ≡ Some d
unhurt_was true None d is free = absurd cc
unhurt_was true (Some e) d is free = let same : (let y : CoreState = record e { hurt = true } in y) ≡ d = cc in absurd (true≢false (ap (λ (y : CoreState). y.hurt) same ∙ free))
unhurt_was false o d is free = is

two_batches : (first later : List Entry) (n : ℕ) → length first < n → length later ≤ n → AreFew (length (first ++ later)) n
two_batches first later n one two = inr (rw (length-append first later) (omega (arith, one, two)))

module _ (old mid : Register) (v x : StoreView) (core : ℕ) (now : Running) (runs : RunsEpoch old v core now) (homefree : now.epoch ≡ old.homefree) (g : Settled old mid v x core now) where
  abbrev s : FlatState
  s = runs.fits.state

  abbrev t : FlatState
  t = with_hurts g.hurt s

  abbrev count : ℕ
  count = length old.running.items

  abbrev st : Stands old v core now runs.fits
  st = stands old v core now runs

  others_speculate : (k : ℕ) → k ≢ core → (d : CoreState) → t.cores k ≡ Some d → d.hurt ≡ false → d.straight ≡ false
  others_speculate k other d at free = by_straight d.straight refl
    where
      was : s.cores k ≡ Some d
      was = unhurt_was (g.hurt k) (s.cores k) d at free

      by_straight : (b : Bool) → d.straight ≡ b → b ≡ false
      by_straight false is = refl
      by_straight true is =
          absurd (other (st.kept.apart k core d st.c was st.at ((st.kept.core k d was).straight_homefree is ∙ sym (homefree_c old mid v x core now runs homefree g))))

  pub others_attempts : (k : ℕ) → k ≢ core → HasAttempt x k (running_at mid.running.items k)
  others_attempts k other =
      subst (HasAttempt x k) (sym ((shows old mid v x core now runs homefree g).running k))
      (has_by _ x k (t.cores k) ((published old mid v x core now runs homefree g).others k other) (others_speculate k other))

  module _ (arrived : Arrival) (at : IsAtStop old core now arrived stop.Ended) (leaves_loop : exits old.image arrived.now ≡ true) (last : Register)
      (steps : (shares : Counts) → Steps mid last shares shares (cancels_noted core mid.running.items (length mid.running.items))) where
    next : (next_event old.image st.c.hart).at ≡ stop.Ended
    next = event_is old core now arrived stop.Ended st.c at st.is

    exit_c : exits old.image (next_event old.image st.c.hart).now ≡ true
    exit_c = subst (λ h. exits old.image h ≡ true) (event_hart old mid v x core now runs homefree g arrived stop.Ended at) leaves_loop

    cancels_are : cancels_noted core mid.running.items (length mid.running.items) ≡ cancels count s core
    cancels_are =
        cancels_same mid t core (shows old mid v x core now runs homefree g)
        ∙ (ap (λ n. cancels n t core) (g.steps no_counts).cores ∙ same_cancels count s core g.hurt)

    pub cancels_step : (shares : Counts) → Steps mid last shares shares (cancels count s core)
    cancels_step shares = subst (λ xs. Steps mid last shares shares xs) cancels_are (steps shares)

    pub shows_alone : Shows last (with_cancels core t)
    shows_alone =
        let first = noted old mid v x core now runs homefree g no_counts in
        let was = published old mid v x core now runs homefree g in
        let reached : IsReached old.image count t = record {
          entries = old.history.items ++ hurts count s core g.hurt;
          replays = history_goes_on old.image count old.history.items (hurts count s core g.hurt) s t runs.fits.replays was.replays;
        } in
        let replays = cancels_replay old.image count t core st.c
        (may_cancel old.image count s core st.c st.going st.kept st.unhurt (homefree_c old mid v x core now runs homefree g) x g.hurt was next exit_c) in
        (cancels_step no_counts).follows t (with_cancels core t) (rw first.image runs.fits.is_image) (rw (first.image, first.cores) reached) (shows old mid v x core now runs homefree g)
        (rw (first.image, first.cores) (ap (replay_from old.image count t) (sym (same_cancels count s core g.hurt)) ∙ replays))

    -- ---- what the commit asks

    pub homefree_last : last.homefree < 2 ^ 16
    homefree_last =
        let small = small_homefree old v core now runs in
        let is = runs.fits.shows.homefree in
        let was = shows_alone.homefree in
        omega (arith, small, is, was)

    cancels_fewer : length (cancels count s core) < count
    cancels_fewer = let less = batch_fewer core (is_other s.cores core) (λ k. Cancel (epoch_on s.cores k)) count core (not_other s.cores core) runs.there in omega (arith, less)

    pub room_last : vec_len old.history + 2 * length old.running.items ≤ vec_capacity old.history → vec_len last.history < vec_capacity last.history
    room_last room =
        let first = (g.steps no_counts).used in
        let grown = (g.steps no_counts).room in
        let less = g.short in
        let later = (cancels_step no_counts).used in
        let grown_more = (cancels_step no_counts).room in
        let fewer_more = cancels_fewer in
        omega (arith, first, grown, less, later, grown_more, fewer_more, room)

    pub totals_last : last.totals ≡ old.totals
    totals_last = totals_same mid last _ (steps no_counts) ∙ totals_same old mid _ (g.steps no_counts)

    pub at_last : running_at last.running.items core ≡ running_at mid.running.items core → IsAtStop last core now arrived stop.Ended
    at_last same =
        at_stop_after mid last core now arrived stop.Ended (at_mid old mid v x core now runs homefree g arrived stop.Ended at) (steps no_counts).image same

    -- ---- the case

    pub exited : {waits : Waits} (new : Register) (y w : StoreView) (shares shares' : Counts) (answer : Answer) → CancelsOthers x y core → Ends y w core → answer ≡ left_or_over new.end
        → new.end ≡ end_after last.image arrived.now last.homefree → Steps last new shares shares' (entry core Commit) → Acted old new waits v w shares shares' core (Some arrived) answer
    exited new y w shares shares' answer cancelled l answer_is end_is commit =
        let home_c = homefree_c old mid v x core now runs homefree g in
        let was = published old mid v x core now runs homefree g in
        let comes = ends.exits_loop old.image count s core st.c st.going st.kept st.unhurt home_c x g.hurt was next exit_c y w cancelled l in
        let image = (steps no_counts).image ∙ (g.steps no_counts).image in
        let home : last.homefree ≡ st.c.epoch = shows_alone.homefree ∙ sym home_c in
        let end_exit : new.end ≡ Some (end.Exit st.c.epoch) =
        end_is ∙ (ap (λ i. end_after i arrived.now last.homefree) image ∙ (ap (end_after old.image arrived.now) home ∙ exit_answer old.image arrived.now st.c.epoch leaves_loop)) in
        let tail : List Entry = cancels count s core ++ entry core Commit in
        acted old new v w shares shares' core (Some arrived) answer (hurts count s core g.hurt ++ tail) (effect_on old.image (with_cancels core t) core st.c Commit) runs.fits
        (steps_then old mid new shares shares shares' (hurts count s core g.hurt) tail (noted old mid v x core now runs homefree g shares)
        (steps_then mid last new shares shares shares' (cancels count s core) (entry core Commit) (cancels_step shares) commit))
        (two_batches (hurts count s core g.hurt) tail count (fewer old mid v x core now runs homefree g) (one_more_entry (cancels count s core) core Commit count cancels_fewer))
        comes (l.shape ∙ (cancelled.shape ∙ same_shape old mid v x core now runs homefree g))
        (turn.follows (turn.exits_loop (record {
          core = st.c;
          between = x;
          alone = y;
          hurt = g.hurt;
          comes = publishing old mid v x core now runs homefree g arrived stop.Ended at;
          exits = exit_c;
          cancelled = cancelled;
          store = l;
          out_is = ap (λ a. does (hurts count s core g.hurt ++ tail) a) (answer_is ∙ ap left_or_over end_exit);
        })))
