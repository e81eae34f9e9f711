-- What a legal entry finds, and what is shown of its effect.
use Rattle.std.proofs.Common.{◌≡◌, ℕ, ◌+◌, ◌<◌, nat_lt, Bool, true, false, cond, List, length, set, get_or, slice_get, slice_index, Option, Some, None, option_and_then, refl, sym, ap, ◌∙◌, inl, inr, true≢false, length-set}
use Rattle.std.proofs.lemmas.Bool.{cases_eq, and_parts}
use Rattle.std.proofs.lemmas.Option.{slice_get_within}
use Rattle.rv32_image.specs.Image.{LoadedImage}
use Rattle.rv32_image.proofs.SmallFacts.{one_value}
use Rattle.rv32_exec.specs.Hart.{HartState, stepped}
use Rattle.rv32_exec.specs.NextEvent.{next_event}
use Rattle.rv32_exec.specs.Sequential.{exits}
use Rattle.rv32_exec.specs.declared.sequential.End.TheVariants.{Exit}
use Rattle.rv32_exec.specs.Arrival.{after_number}
use Rattle.memory_bytes.specs.Maps.{over, stored}
use Rattle.spec_history.specs.declared.entry.What.{What}
use Rattle.spec_history.specs.declared.entry.What.TheVariants.{Start, Load, Store, Hurt, Cancel, Restart, Publish, Commit, Fault}
use Rattle.spec_history.specs.declared.cores.FlatAttempt.{FlatAttempt}
use Rattle.spec_history.specs.declared.cores.Core.{Core}
use Rattle.spec_history.specs.declared.machine.Machine.{Machine}
use Rattle.spec_history.specs.FlatState.{CoreState, FlatState, end_at}
use Rattle.spec_history.specs.Effect.{by_core, with_core, after_load, after_store, effect_on}
use Rattle.spec_history.specs.Refusal.{runs_and, is_there}
use Rattle.spec_history.specs.Cores.{core_of, core_with, IsNext, IsCoreOf, HasRoom}
use Rattle.spec_history.specs.Machine.{cores_of, state_of, count_of_cores, IsFit, IsLegal, IsAsBefore, HasRoomAt, Becomes, after}
use Rattle.spec_history.proofs.OneEntry.Legal.{IsLegalEntry, legal_entry}
use Rattle.spec_history.proofs.CodedCores.CoreStates.{core_there, state_there, attempt_of}
use Rattle.spec_history.proofs.CodedCores.Parts.{get_set_same, get_set_other, states_set, fit_set, same_state}
use Rattle.spec_history.proofs.Replay.Replays.{effect-on}

abbrev pub IsOfCore : What → Type 0
IsOfCore (Start epoch) = ⊥
IsOfCore what = Unit {0}

pub idle_fails : (core : Option CoreState) (test : CoreState → Bool) → core ≡ None → by_core core false test ≡ true → ⊥
idle_fails core test none is = true≢false (sym is ∙ ap (λ o. by_core o false test) none)

-- such an entry is of a core that runs
idle_not_there : (count : ℕ) (s : FlatState) (by : ℕ) (what : What) → IsOfCore what → s.cores by ≡ None → is_there count s by what ≡ true → ⊥
idle_not_there count s by (Start epoch) of none is = of
idle_not_there count s by (Load address width value) of none is = idle_fails (s.cores by) _ none is
idle_not_there count s by (Store address width value) of none is = idle_fails (s.cores by) _ none is
idle_not_there count s by (Hurt epoch) of none is = idle_fails (s.cores by) _ none (and_parts (runs_and (s.cores by) (λ x. nat_lt x.epoch epoch)) _ is).0
idle_not_there count s by (Cancel epoch) of none is = idle_fails (s.cores by) _ none (and_parts (runs_and (s.cores by) (λ x. nat_lt x.epoch epoch)) _ is).0
idle_not_there count s by Restart of none is = idle_fails (s.cores by) _ none is
idle_not_there count s by Publish of none is = idle_fails (s.cores by) _ none is
idle_not_there count s by Commit of none is = idle_fails (s.cores by) _ none is
idle_not_there count s by (Fault cause pc) of none is = idle_fails (s.cores by) _ none is

some_core : (count : ℕ) (s : FlatState) (by : ℕ) (what : What) (core : Option CoreState) → IsOfCore what → s.cores by ≡ core → is_there count s by what ≡ true → (c : CoreState) × (s.cores by ≡ Some c)
some_core count s by what None of at is = absurd (idle_not_there count s by what of at is)
some_core count s by what (Some c) of at is = (c, at)

within_by : (cores : List Core) (by : ℕ) (c : CoreState) (o : Option Core) → slice_get cores by ≡ o → option_and_then core_of o ≡ Some c → by < length cores
within_by cores by c None at is = absurd cc
within_by cores by c (Some core) at is = slice_get_within cores by core at

-- what a legal entry of a core finds
pub record Finds (m : Machine) (by : ℕ) (what : What) : Type 0 where
  pub state : CoreState
  pub runs : (state_of m).cores by ≡ Some state
  pub below : by < length m.cores.items
  pub legal : IsLegalEntry m.image (count_of_cores m) (state_of m) (record { by = by; what = what })

pub finds : (m : Machine) (by : ℕ) (what : What) → IsOfCore what → IsLegal m by what → Finds m by what
finds m by what of is =
    let legal = legal_entry m.image (count_of_cores m) (state_of m) (record { by = by; what = what }) is in
    let found = some_core (count_of_cores m) (state_of m) by what ((state_of m).cores by) of refl legal.there in record {
      state = found.0;
      runs = found.1;
      below = within_by m.cores.items by found.0 (slice_get m.cores.items by) refl found.1;
      legal = legal;
    }

-- and the core of the code that is there
pub record FindsCore (m : Machine) (by : ℕ) (what : What) (core : Core) : Type 0 where
  pub found : Finds m by what
  pub there : slice_get m.cores.items by ≡ Some core
  pub runs : core_of core ≡ Some found.state
  pub fit : IsCoreOf m.image core
  pub attempt : FlatAttempt
  pub attempted : core.attempt ≡ Some attempt
  pub stands : core_with core.own.cells core.outside.cells attempt ≡ found.state
  pub next : IsNext m.image attempt.next

pub finds_core : (m : Machine) (by : ℕ) (what : What) (core : Core) → IsOfCore what → IsFit m → IsLegal m by what → core ≡ get_or m.cores.items by core
    → FindsCore m by what core
finds_core m by what core of fit is at =
    let found = finds m by what of is in
    let there = core_there m.cores.items m.cores.items by core refl found.below at in
    let runs = sym (state_there m.cores.items by core there) ∙ found.runs in
    let attempt = attempt_of core found.state runs in
    let of_image = fit.cores.each by core there in record {
      found = found;
      there = there;
      runs = runs;
      fit = of_image;
      attempt = attempt.0;
      attempted = attempt.1;
      stands = attempt.2;
      next = of_image.next attempt.0 attempt.1;
    }

pub event_now : (m : Machine) (by : ℕ) (what : What) (core : Core) (f : FindsCore m by what core) (t : FlatAttempt) → core.attempt ≡ Some t
    → t.next.now ≡ (next_event m.image f.found.state.hart).now
event_now m by what core f t is =
    let same = one_value core.attempt f.attempt t f.attempted is in
    sym (ap (λ (x : FlatAttempt). x.next.now) same) ∙ (f.next.now ∙ ap (λ (x : CoreState). (next_event m.image x.hart).now) f.stands)

pub event_at : (m : Machine) (by : ℕ) (what : What) (core : Core) (f : FindsCore m by what core) (t : FlatAttempt) → core.attempt ≡ Some t
    → t.next.at ≡ (next_event m.image f.found.state.hart).at
event_at m by what core f t is =
    let same = one_value core.attempt f.attempt t f.attempted is in
    sym (ap (λ (x : FlatAttempt). x.next.at) same) ∙ (f.next.at ∙ ap (λ (x : CoreState). (next_event m.image x.hart).at) f.stands)

pub epoch_is : (m : Machine) (by : ℕ) (what : What) (core : Core) (f : FindsCore m by what core) (t : FlatAttempt) → core.attempt ≡ Some t → t.epoch ≡ f.found.state.epoch
epoch_is m by what core f t is =
    let same = one_value core.attempt f.attempt t f.attempted is in
    sym (ap (λ (x : FlatAttempt). x.epoch) same) ∙ ap (λ (x : CoreState). x.epoch) f.stands

-- ---- what is published

pub published_now : (b : Bool) (n done old : ℕ) → Some done ≡ cond b (Some n) None → (b ≡ true) × (done ≡ cond b n old)
published_now true n done old is = (refl, cc)
published_now false n done old is = absurd cc

pub published_still : (b : Bool) (n old : ℕ) → None ≡ cond b (Some n) None → (b ≡ false) × (old ≡ cond b n old)
published_still true n old is = absurd cc
published_still false n old is = (refl, refl)

-- ---- loads and stores

pub loads : (m : Machine) (by address width value published : ℕ) (c : CoreState) (hart : HartState) → (state_of m).cores by ≡ Some c
    → hart ≡ after_number (next_event m.image c.hart).now (next_event m.image c.hart).at value → published ≡ cond c.straight hart.done m.published
    → after m by (Load address width value) ≡ record (state_of m) {
      published = published;
      cores = with_core (state_of m).cores by (Some (after_load (state_of m).committed address width hart c));
    }
loads m by address width value published c hart runs is counted =
    let s = state_of m in
    effect-on m.image s by (Load address width value) c runs
    ∙ (ap (λ (h : HartState). let t : FlatState = record s {
      published = cond c.straight h.done s.published;
      cores = with_core s.cores by (Some (after_load s.committed address width h c));
    } in t) (sym is)
    ∙ ap (λ (n : ℕ). let t : FlatState = record s { published = n; cores = with_core s.cores by (Some (after_load s.committed address width hart c)) } in t) (sym counted))

pub stores : (m : Machine) (by address width value published : ℕ) (c : CoreState) (hart : HartState) (b : Bool) → (state_of m).cores by ≡ Some c
    → hart ≡ stepped (next_event m.image c.hart).now → published ≡ cond c.straight hart.done m.published → c.straight ≡ b
    → after m by (Store address width value) ≡ record (state_of m) {
      committed = cond b (over (stored address width value) (state_of m).committed) (state_of m).committed;
      published = published;
      cores = with_core (state_of m).cores by (Some (after_store address width value hart c));
    }
stores m by address width value published c hart b runs is counted straight =
    let s = state_of m in
    effect-on m.image s by (Store address width value) c runs
    ∙ (ap (λ (h : HartState). let t : FlatState = record s {
      committed = cond c.straight (over (stored address width value) s.committed) s.committed;
      published = cond c.straight h.done s.published;
      cores = with_core s.cores by (Some (after_store address width value h c));
    } in t) (sym is)
    ∙ (ap (λ (n : ℕ). let t : FlatState = record s {
      committed = cond c.straight (over (stored address width value) s.committed) s.committed;
      published = n;
      cores = with_core s.cores by (Some (after_store address width value hart c));
    } in t) (sym counted)
    ∙ ap (λ (x : Bool). let t : FlatState = record s {
      committed = cond x (over (stored address width value) s.committed) s.committed;
      published = published;
      cores = with_core s.cores by (Some (after_store address width value hart c));
    } in t) straight))

-- what is to be shown of a machine, one core of which has changed
pub becomes : (m m' : Machine) (by : ℕ) (what : What) (core : Core) (state : Option CoreState) (bytes : ℕ → ℕ) → IsFit m → by < length m.cores.items → m'.image ≡ m.image
    → m'.cores.items ≡ set m.cores.items by core → length m'.committed.items ≡ length m.committed.items → IsCoreOf m.image core → core_of core ≡ state
    → ((a : ℕ) → slice_index m'.committed.items a ≡ bytes a)
    → after m by what ≡ record {
      committed = bytes;
      homefree = m'.homefree;
      published = m'.published;
      next_epoch = m'.next_epoch;
      end = m'.end;
      cores = with_core (cores_of m.cores.items) by state;
    }
    → Becomes m m' (after m by what)
becomes m m' by what core state bytes fit below image cores long of is same effects = record {
  image = image;
  state = same_state (λ a. slice_index m'.committed.items a) bytes m'.homefree m'.homefree m'.published m'.published m'.next_epoch m'.next_epoch m'.end m'.end
      (cores_of m'.cores.items) (with_core (cores_of m.cores.items) by state) same refl refl refl refl
      (λ k. ap (λ xs. cores_of xs k) cores ∙ (states_set m.cores.items by core below k ∙ ap (λ o. with_core (cores_of m.cores.items) by o k) is)) ∙ sym effects;
  count = ap length cores ∙ length-set m.cores.items by core;
  fit = record {
    image = rw image fit.image;
    committed = long ∙ (fit.committed ∙ ap (λ (i : LoadedImage). i.size) (sym image));
    cores = rw (image, cores) (fit_set m.image m.cores.items by core below of fit.cores);
  };
}

-- what is to be shown of a machine, no core of which has changed
pub becomes_still : (m m' : Machine) (by : ℕ) (what : What) (bytes : ℕ → ℕ) → IsFit m → m'.image ≡ m.image → m'.cores ≡ m.cores
    → length m'.committed.items ≡ length m.committed.items → ((a : ℕ) → slice_index m'.committed.items a ≡ bytes a)
    → after m by what ≡ record {
      committed = bytes;
      homefree = m'.homefree;
      published = m'.published;
      next_epoch = m'.next_epoch;
      end = m'.end;
      cores = cores_of m.cores.items;
    }
    → Becomes m m' (after m by what)
becomes_still m m' by what bytes fit image cores long same effects = record {
  image = image;
  state = same_state (λ a. slice_index m'.committed.items a) bytes m'.homefree m'.homefree m'.published m'.published m'.next_epoch m'.next_epoch m'.end m'.end
      (cores_of m'.cores.items) (cores_of m.cores.items) same refl refl refl refl (λ k. ap (λ v. cores_of v.items k) cores) ∙ sym effects;
  count = ap (λ v. length v.items) cores;
  fit = record {
    image = rw image fit.image;
    committed = long ∙ (fit.committed ∙ ap (λ (i : LoadedImage). i.size) (sym image));
    cores = rw (image, cores) fit.cores;
  };
}

pub commits : (m : Machine) (by : ℕ) (c : CoreState) (b : Bool) → (state_of m).cores by ≡ Some c → exits m.image (next_event m.image c.hart).now ≡ b
    → after m by Commit ≡ record (effect_on m.image (state_of m) by c Commit) { end = cond b (Some (Exit m.homefree)) (end_at m.image (m.homefree + 1)) }
commits m by c b runs is =
    effect-on m.image (state_of m) by Commit c runs
    ∙ ap (λ x. record (effect_on m.image (state_of m) by c Commit) { end = cond x (Some (Exit m.homefree)) (end_at m.image (m.homefree + 1)) }) is

same_cores : (cores : List Core) (by : ℕ) (core new : Core) → by < length cores → slice_get cores by ≡ Some core → core_of new ≡ core_of core
    → (k : ℕ) → cores_of (set cores by new) k ≡ cores_of cores k
same_cores cores by core new below there same k = elim (cases_eq k by) [
  | inl e ↦ ap (cores_of (set cores by new)) e ∙ (ap (option_and_then core_of) (get_set_same cores by new below) ∙ (same ∙ sym (ap (cores_of cores) e ∙ state_there cores by core there)))
  | inr other ↦ ap (option_and_then core_of) (get_set_other cores by k new other)
]

-- a machine, one core of which has made room
pub as_before : (m m' : Machine) (by : ℕ) (core new : Core) → IsFit m → by < length m.cores.items → core ≡ get_or m.cores.items by core → m'.image ≡ m.image
    → m'.committed ≡ m.committed → m'.homefree ≡ m.homefree → m'.published ≡ m.published → m'.next_epoch ≡ m.next_epoch → m'.end ≡ m.end
    → m'.cores.items ≡ set m.cores.items by new → core_of new ≡ core_of core → (IsCoreOf m.image core → IsCoreOf m.image new) → IsAsBefore m m'
as_before m m' by core new fit below is image c h p n e cores same keeps =
    let there = core_there m.cores.items m.cores.items by core refl below is in record {
      image = image;
      state = same_state (λ a. slice_index m'.committed.items a) (λ a. slice_index m.committed.items a) m'.homefree m.homefree m'.published m.published m'.next_epoch m.next_epoch m'.end m.end
          (cores_of m'.cores.items) (cores_of m.cores.items) (λ a. ap (λ v. slice_index v.items a) c) h p n e
          (λ k. ap (λ xs. cores_of xs k) cores ∙ same_cores m.cores.items by core new below there same k);
      count = ap length cores ∙ length-set m.cores.items by new;
      fit = record {
        image = rw image fit.image;
        committed = ap (λ v. length v.items) c ∙ (fit.committed ∙ ap (λ (i : LoadedImage). i.size) (sym image));
        cores = rw (image, cores) (fit_set m.image m.cores.items by new below (keeps (fit.cores.each by core there)) fit.cores);
      };
    }

pub room_at : (m m' : Machine) (by : ℕ) (what : What) (new : Core) → by < length m.cores.items → m'.cores.items ≡ set m.cores.items by new → HasRoom what new
    → HasRoomAt m' by what
room_at m m' by what new below cores room = record {
  room = λ core at.
      let there = get_set_same m.cores.items by new below in
      let same : new ≡ core = one_value (slice_get m'.cores.items by) new core (ap (λ xs. slice_get xs by) cores ∙ there) at in rw (← same) room;
}
