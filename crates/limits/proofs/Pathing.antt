-- A core stays on the path of its epoch, as it accesses memory and publishes.
use Rattle.std.proofs.Common.{◌≡◌, ℕ, ◌<◌, ◌≤◌, Bool, true, false, is_some, List, slice_index, Option, Some, if◌then◌else◌, refl, sym, ap, subst, ◌∙◌, inl, inr, true≢false, arith}
use Rattle.std.proofs.lemmas.Bool.{cases_Bool, cases_lt, cond-false, cond-true}
use Rattle.rv32_exec.specs.declared.stop.Stop.TheVariants as stop
use Rattle.memory_bytes.specs.Bytes.{number_at}
use Rattle.memory_bytes.specs.Maps.{first_of, joined, nothing, over, read_outside, stored}
use Rattle.memory_bytes.proofs.Bytes.{number_at_same, stored_within}
use Rattle.rv32_image.specs.Image.{LoadedImage}
use Rattle.rv32_exec.specs.Hart.{HartState, start_of, stepped}
use Rattle.rv32_exec.specs.Execute.{Stops, hart_effect}
use Rattle.rv32_exec.specs.NextEvent.{next_event}
use Rattle.rv32_exec.specs.Arrival.{after_number}
use Rattle.rv32_exec.specs.Sequential.{Runs, SequentialResult, after_steps}
use Rattle.rv32_exec.proofs.LawsOfRuns.{later_event}
use Rattle.spec_history.specs.FlatState.{CoreState, FlatState}
use Rattle.spec_history.specs.Laws.{HasBytes}
use Rattle.spec_history.proofs.OneEntry.Accesses.{load_counts}
use Rattle.spec_history.proofs.OneEntry.Going.{Going, homefree_run}
use Rattle.spec_history.proofs.OneEntry.Keeping.{noted}
use Rattle.epoch_paths.specs.InOrder.{memory_before}
use Rattle.epoch_paths.specs.Paths.{StoresAt}
use Rattle.epoch_paths.specs.Kept.{IsAt}
use Rattle.epoch_paths.proofs.Paths.{access_stops, past_load, past_store, same_store}
use Rattle.epoch_paths.proofs.Following.{hart_there, load_late, no_both, store_late}
use Rattle.epoch_paths.proofs.Outside.{read_by_load, read_by_store}
use Rattle.memory_bytes.proofs.SmallFacts.{seen_by, some_first, some_unless}
use Rattle.limits.specs.declared.limit.Waits.{Waits}
use Rattle.limits.specs.Limits.{awaited}
use Rattle.limits.proofs.Marks.{IsDone, IsPath, IsUnder, Marks}
use Rattle.limits.proofs.Marking.{awaited_still}
use Rattle.limits.proofs.Events.{at_before, at_event, event_alters, event_marks}

-- ---- bytes that are committed now

pub shown_by : (ℕ → Option ℕ) → (ℕ → ℕ) → ℕ → ℕ → ℕ
shown_by bytes shown now a = if is_some (bytes a) then now else shown a

pub shown_here : (bytes : ℕ → Option ℕ) (shown : ℕ → ℕ) (now a : ℕ) → is_some (bytes a) ≡ true → shown_by bytes shown now a ≡ now
unfolding shown_by
shown_here bytes shown now a is = cond-true (is_some (bytes a)) now (shown a) is

pub shown_other : (bytes : ℕ → Option ℕ) (shown : ℕ → ℕ) (now a : ℕ) → is_some (bytes a) ≡ false → shown_by bytes shown now a ≡ shown a
unfolding shown_by
shown_other bytes shown now a is = cond-false (is_some (bytes a)) now (shown a) is

pub shown_more : (bytes : ℕ → Option ℕ) (shown : ℕ → ℕ) (now : ℕ) → ((a : ℕ) → shown a ≤ now) → (a : ℕ) → shown a ≤ shown_by bytes shown now a
shown_more bytes shown now past a = elim (cases_Bool (is_some (bytes a))) [
  | inl is ↦ (let here = shown_here bytes shown now a is in let low = past a in omega (arith, here, low))
  | inr is ↦ (let here = shown_other bytes shown now a is in omega (arith, here))
]

pub shown_past : (bytes : ℕ → Option ℕ) (shown : ℕ → ℕ) (now : ℕ) → ((a : ℕ) → shown a ≤ now) → (a : ℕ) → shown_by bytes shown now a ≤ now
shown_past bytes shown now past a = elim (cases_Bool (is_some (bytes a))) [
  | inl is ↦ (let here = shown_here bytes shown now a is in omega (arith, here))
  | inr is ↦ (let here = shown_other bytes shown now a is in let low = past a in omega (arith, here, low))
]

-- ---- a core that speculates

module _ (image : LoadedImage) (waits : Waits) (m : Marks) (by now : ℕ) (c : CoreState) (past : (a : ℕ) → m.shown a ≤ now) (speculates : c.straight ≡ false)
    (p : IsPath image waits m c) where
  abbrev memory : List ℕ
  memory = memory_before image c.epoch

  abbrev event : ℕ
  event = (next_event image c.hart).now.done

  abbrev after : (ℕ → ℕ) → Marks
  after shown = event_marks m by c.epoch c.hart.done event now shown

  pub own_at : IsAt image c.epoch memory c.hart c.own
  own_at = subst (IsAt image c.epoch memory c.hart) (p.own_is speculates) p.at

  pub path_loaded : (committed : ℕ → ℕ) (address width : ℕ) (signed : Bool) (rd value : ℕ) → (next_event image c.hart).at ≡ stop.Load address width signed rd
      → number_at (over c.own committed) address width ≡ value → HasBytes image (joined (read_outside address width c.own committed) c.outside) memory
      → IsPath image waits (after m.shown) (record c {
        hart = after_number (next_event image c.hart).now (next_event image c.hart).at value;
        outside = joined (read_outside address width c.own committed) c.outside;
      })
  path_loaded committed address width signed rd value is number has =
      let count = load_counts image c.hart address width signed rd value is in
      let sees = number_at_same (over c.own (λ a. slice_index memory a)) (over c.own committed) address width
      (λ a low high. seen_by (c.own a) (slice_index memory a) (committed a)
      (λ none. has.bytes a (committed a) (ap (λ o. first_of o (c.outside a)) (noted address width a c.own committed low high none)))) ∙ number in record {
        own = c.own;
        at = past_load image c.epoch memory c.hart c.own address width signed rd value own_at is sees;
        own_is = λ same. refl;
        written = λ straight. absurd (true≢false (sym straight ∙ speculates));
        guarded = λ same a reads low. elim (cases_lt reads.step c.hart.done) [
          | inl before ↦
              (let was = p.guarded speculates a reads before in
              let at = at_before m by c.epoch c.hart.done event now m.shown reads.step before in
              let less = was.1 in
              (some_first (read_outside address width c.own committed a) (c.outside a) was.0, omega (arith, less, at)))
          | inr from ↦
              (let late = load_late image c.epoch memory c.hart c.own own_at a reads.step reads.there from in
              let at = at_event m by c.epoch c.hart.done event now m.shown reads.step (later_event image c.hart) late in
              let low_past = past a in
              elim (read_by_load image c.epoch memory c.hart c.own own_at address width signed rd a is reads (omega (arith, low, count))) [
                | inl before ↦ absurd (omega (arith, before, from))
                | inr here ↦ (
                  ap (λ o. is_some (first_of o (c.outside a))) (noted address width a c.own committed here.0 here.1 here.2),
                  omega (arith, low_past, at),
                )
              ])
        ];
        after = λ straight. absurd (true≢false (sym straight ∙ speculates));
      }

  pub path_stored : (address width value : ℕ) → (next_event image c.hart).at ≡ stop.Store address width value
      → IsPath image waits (after m.shown) (record c { hart = stepped (next_event image c.hart).now; own = joined (stored address width value) c.own })
  path_stored address width value is = record {
    own = joined (stored address width value) c.own;
    at = past_store image c.epoch memory c.hart c.own address width value own_at is;
    own_is = λ same. refl;
    written = λ straight. absurd (true≢false (sym straight ∙ speculates));
    guarded = λ same a reads low.
        let before = read_by_store image c.epoch memory c.hart c.own own_at address width value a is reads low in
        let was = p.guarded speculates a reads before in
        let at = at_before m by c.epoch c.hart.done event now m.shown reads.step before in
        let less = was.1 in (was.0, omega (arith, less, at));
    after = λ straight. absurd (true≢false (sym straight ∙ speculates));
  }

  -- what it has stored is its own
  pub own_stored : (a place : ℕ) → place < c.hart.done → StoresAt image c.epoch memory place a → is_some (c.own a) ≡ true
  own_stored a place low there = some_unless (c.own a) (λ none. own_at.no_others a place none low there)

  -- it publishes
  pub path_published : (x : IsUnder image waits m by c) → m.from by ≤ now → ((d : ℕ) → d < c.epoch → IsDone image waits now m d)
      → IsPath image waits (record m { shown = shown_by c.own m.shown now }) (record c { own = nothing; outside = nothing; straight = true })
  path_published x from done = record {
    own = c.own;
    at = own_at;
    own_is = λ same. absurd (true≢false same);
    written = λ straight a place low there.
        let here = shown_here c.own m.shown now a (own_stored a place low there) in
        let before = x.steps place low in omega (arith, here, before, from);
    guarded = λ same. absurd (true≢false same);
    after = λ straight a reads low d stored before there.
        let was = (p.guarded speculates a reads low).1 in
        let one = (done d before).stored a stored there in omega (arith, was, one);
  }

-- ---- the homefree core

runs_same : (h : HartState) (x y : List ℕ) → Runs h x ≡ Runs h y → x ≡ y
runs_same h x y is = cc

module _ (image : LoadedImage) (waits : Waits) (cores now : ℕ) (s : FlatState) (m : Marks) (by : ℕ) (c : CoreState) (going : Going image cores s) (at : s.cores by ≡ Some c)
    (homefree : c.epoch ≡ s.homefree) (unhurt : c.hurt ≡ false) (p : IsPath image waits m c) where
  -- its path over what it began with is what it sees now
  before_is : going.shown.before ≡ memory_before image c.epoch
  before_is = sym (ap (memory_before image) homefree ∙ ap (λ (r : SequentialResult). r.bytes) going.shown.done)

  pub sees : (a : ℕ) → over p.own (λ b. slice_index (memory_before image c.epoch) b) a ≡ over c.own s.committed a
  sees a =
      let run = homefree_run image cores s by c going at homefree unhurt in
      let runs : after_steps image c.hart.done (start_of image c.epoch) (memory_before image c.epoch) ≡ Runs c.hart run.after =
      ap (λ e. after_steps image c.hart.done (start_of image e) (memory_before image c.epoch)) homefree
      ∙ (ap (λ x. after_steps image c.hart.done (start_of image s.homefree) x) (sym before_is) ∙ run.runs) in
      let same = runs_same c.hart p.at.after run.after (sym p.at.runs ∙ runs) in
      p.at.holds.bytes a ∙ (ap (λ x. slice_index x a) same ∙ sym (run.holds.bytes a))

  module _ (straight : c.straight ≡ true) (past : (a : ℕ) → m.shown a ≤ now) (begun : m.timing.begin c.epoch ≤ now) (done : (d : ℕ) → d < c.epoch → IsDone image waits now m d) where
    abbrev its_memory : List ℕ
    its_memory = memory_before image c.epoch

    abbrev its_event : ℕ
    its_event = (next_event image c.hart).now.done

    abbrev its_after : (ℕ → ℕ) → Marks
    its_after shown = event_marks m by c.epoch c.hart.done its_event now shown

    same_awaited : (shown : ℕ → ℕ) → ((a : ℕ) → m.shown a ≤ shown a) → ((a : ℕ) → shown a ≤ now) → (d step : ℕ) → d < c.epoch
        → awaited waits (its_after shown).timing d step ≡ awaited waits m.timing d step
    same_awaited shown more most d step low =
        awaited_still image waits m (its_after shown) by c.epoch now (event_alters m by c.epoch c.hart.done its_event now shown begun more most) d step (λ same. omega (arith, low, same))

    pub straight_loaded : (address width : ℕ) (signed : Bool) (rd value : ℕ) → (next_event image c.hart).at ≡ stop.Load address width signed rd
        → number_at (over c.own s.committed) address width ≡ value
        → IsPath image waits (its_after m.shown) (record c { hart = after_number (next_event image c.hart).now (next_event image c.hart).at value })
    straight_loaded address width signed rd value is number =
        let count = load_counts image c.hart address width signed rd value is in
        let number' = number_at_same (over p.own (λ a. slice_index its_memory a)) (over c.own s.committed) address width (λ a low high. sees a) ∙ number in record {
          own = p.own;
          at = past_load image c.epoch its_memory c.hart p.own address width signed rd value p.at is number';
          own_is = λ same. absurd (true≢false (sym straight ∙ same));
          written = λ same a place low there. elim (cases_lt place c.hart.done) [
            | inl before ↦
                (let was = p.written straight a place before there in
                let at = at_before m by c.epoch c.hart.done its_event now m.shown place before in omega (arith, was, at))
            | inr from ↦
                (let late = store_late image c.epoch its_memory c.hart p.own p.at a place there from in
                let here = hart_there image c.epoch its_memory c.hart p.own p.at place there.hart there.after (omega (arith, late, low, count)) there.runs in
                absurd (no_both (hart_effect image (next_event image c.hart).now) there.address there.width there.value address width signed rd
                (ap (hart_effect image) here ∙ there.stops) (access_stops image c.hart (rw is tt) ∙ ap Stops is)))
          ];
          guarded = λ same. absurd (true≢false (sym straight ∙ same));
          after = λ same a reads low d step before there. elim (cases_lt reads.step c.hart.done) [
            | inl early ↦
                (let was = p.after straight a reads early d step before there in
                let at = at_before m by c.epoch c.hart.done its_event now m.shown reads.step early in
                let is = same_awaited m.shown (λ b. omega arith) past d step before in omega (arith, was, at, is))
            | inr from ↦
                (let late = load_late image c.epoch its_memory c.hart p.own p.at a reads.step reads.there from in
                let at = at_event m by c.epoch c.hart.done its_event now m.shown reads.step (later_event image c.hart) late in
                let one = (done d before).stored a step there in
                let low_past = past a in
                let is = same_awaited m.shown (λ b. omega arith) past d step before in omega (arith, one, low_past, at, is))
          ];
        }

    pub straight_stored : (address width value : ℕ) → (next_event image c.hart).at ≡ stop.Store address width value
        → IsPath image waits (its_after (shown_by (stored address width value) m.shown now)) (record c { hart = stepped (next_event image c.hart).now })
    straight_stored address width value is =
        let shown = shown_by (stored address width value) m.shown now in
        let more = shown_more (stored address width value) m.shown now past in
        let most = shown_past (stored address width value) m.shown now past in record {
          own = joined (stored address width value) p.own;
          at = past_store image c.epoch its_memory c.hart p.own address width value p.at is;
          own_is = λ same. absurd (true≢false (sym straight ∙ same));
          written = λ same a place low there. elim (cases_lt place c.hart.done) [
            | inl before ↦
                (let was = p.written straight a place before there in
                let at = at_before m by c.epoch c.hart.done its_event now shown place before in
                let rise = more a in omega (arith, was, at, rise))
            | inr from ↦
                (let late = store_late image c.epoch its_memory c.hart p.own p.at a place there from in
                let at = at_event m by c.epoch c.hart.done its_event now shown place (later_event image c.hart) late in
                let here = hart_there image c.epoch its_memory c.hart p.own p.at place there.hart there.after (omega (arith, late, low)) there.runs in
                let within = same_store (hart_effect image (next_event image c.hart).now) address width value there.address there.width there.value a
                (access_stops image c.hart (rw is tt) ∙ ap Stops is) (ap (hart_effect image) here ∙ there.stops) there.from there.below in
                let is_now = shown_here (stored address width value) m.shown now a (ap (λ o. is_some o) (stored_within address width value a within.0 within.1)) in omega (arith, at, is_now))
          ];
          guarded = λ same. absurd (true≢false (sym straight ∙ same));
          after = λ same a reads low d step before there.
              let early = read_by_store image c.epoch its_memory c.hart p.own p.at address width value a is reads low in
              let was = p.after straight a reads early d step before there in
              let at = at_before m by c.epoch c.hart.done its_event now shown reads.step early in
              let same = same_awaited shown more most d step before in omega (arith, was, at, same);
        }
