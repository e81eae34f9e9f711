-- That a run at even speed ends: before that a core is due, and it takes at most 17 turns for each entry and one for each core that isn't due.
use Rattle.std.proofs.Common.{◌≡◌, ◌≢◌, ◌⊎◌, ℕ, zero, suc, ◌+◌, ◌*◌, ◌<◌, ◌≤◌, ◌==◌, Bool, true, false, cond, List, [], ◌∷◌, length, Option, Some, None, Ok, refl, sym, ap, subst, ◌∙◌, inl, inr, arith, eq-eqb, ne_eqb}
use Rattle.std.proofs.Math.Path.{fun_ext}
use Rattle.std.proofs.lemmas.Bool.{cases_eq}
use Rattle.std.proofs.lemmas.Option.{same_Some}
use Rattle.rv32_image.specs.Image.{LoadedImage, IsImage}
use Rattle.rv32_image.proofs.SmallFacts.{none_and_some, one_value}
use Rattle.rv32_exec.specs.declared.sequential.End.{End}
use Rattle.rv32_exec.specs.declared.sequential.End.TheVariants.{Done}
use Rattle.rv32_exec.specs.Hart.{HartState}
use Rattle.spec_history.specs.declared.entry.Entry.{Entry}
use Rattle.spec_history.specs.declared.entry.What.{What}
use Rattle.spec_history.specs.declared.entry.What.TheVariants.{Start, Load, Store, Hurt, Cancel, Restart, Publish, Commit, Fault}
use Rattle.spec_history.specs.Effect.{effect, effect_idle, effect_on}
use Rattle.spec_history.specs.FlatState.{CoreState, FlatState, end_at, first_state}
use Rattle.spec_history.specs.Refusal.{refusal_of}
use Rattle.spec_history.specs.Replay.{replay, replay_from}
use Rattle.spec_history.proofs.Replay.Reaching.{no_entries}
use Rattle.spec_history.proofs.Replay.Replays.{effect-idle, effect-on, legal_by, replayed}
use Rattle.homefree.specs.declared.answer.Answer.{Answer}
use Rattle.homefree.specs.declared.answer.Answer.TheVariants.{Go, Again, Left, Over, Stopped}
use Rattle.homefree.specs.declared.answer.Cause.{Cause}
use Rattle.homefree.specs.declared.answer.Cause.TheVariants.{NoEpoch, NotHomefree, NoWay, OrbFull, OrbBusy}
use Rattle.homefree.specs.declared.answer.StopCause.{StopCause}
use Rattle.homefree.specs.BookView.{BookView, IsOfSameLoop}
use Rattle.homefree.specs.Driven.{Driver}
use Rattle.homefree.specs.Room.{most_room}
use Rattle.even_speed.specs.declared.clock.Clock.{Clock}
use Rattle.even_speed.specs.declared.clock.Next.{Next}
use Rattle.even_speed.specs.declared.clock.Next.TheVariants.{Due, Waits, Gone}
use Rattle.even_speed.specs.declared.clocks.Turn.{Turn}
use Rattle.even_speed.specs.declared.pricing.Free.{Free}
use Rattle.even_speed.specs.declared.pricing.Price.{Price}
use Rattle.even_speed.specs.Account.{total}
use Rattle.even_speed.specs.Clocks.{answered, due_of, dues, first_clock, late, late_clocks, waits_for, woken, woken_from}
use Rattle.even_speed.specs.Held.{Holding, are_held, epoch_run, held_in, is_held, own_run}
use Rattle.even_speed.specs.Even.{Pace, clocks_after, executed_by, restarts}
use Rattle.even_speed.specs.Kept.{IsNext, IsTurnOf}
use Rattle.even_speed.specs.Lasting.{IsLasting, IsUnderWay, IsUndue, undue, undue_of}
use Rattle.even_speed.specs.Timed.{Adds, AreOnTime, Came, GoesTo, IsOnTime, Leads, Leaves, Moves, TakesEpoch, WasTold}

-- ---- a loop that isn't over has an epoch left to commit

abbrev HasLeft : LoadedImage → FlatState → Type 0
HasLeft image s = s.end ≡ None → s.homefree ≢ image.epochs

end_left : (image : LoadedImage) (n : ℕ) → end_at image n ≡ None → n ≢ image.epochs
end_left image n none is = none_and_some (end_at image n) (Done n) none (ap (λ b. cond b (Some (Done n)) None) (eq-eqb n image.epochs is))

unless_exit : (exits : Bool) (end : End) (other : Option End) → cond exits (Some end) other ≡ None → other ≡ None
unless_exit true end other none = absurd cc
unless_exit false end other none = none

on_left : (image : LoadedImage) (s : FlatState) (by : ℕ) (c : CoreState) (what : What) → HasLeft image s → HasLeft image (effect_on image s by c what)
on_left image s by c Commit left = λ none. end_left image (s.homefree + 1) (unless_exit _ _ _ none)
on_left image s by c (Fault cause pc) left = λ none. absurd cc
on_left image s by c (Start epoch) left = left
on_left image s by c (Load address width value) left = left
on_left image s by c (Store address width value) left = left
on_left image s by c (Hurt epoch) left = left
on_left image s by c (Cancel epoch) left = left
on_left image s by c Restart left = left
on_left image s by c Publish left = left

idle_left : (image : LoadedImage) (s : FlatState) (by : ℕ) (what : What) → HasLeft image s → HasLeft image (effect_idle image s by what)
idle_left image s by (Start epoch) left = left
idle_left image s by (Load address width value) left = left
idle_left image s by (Store address width value) left = left
idle_left image s by (Hurt epoch) left = left
idle_left image s by (Cancel epoch) left = left
idle_left image s by Restart left = left
idle_left image s by Publish left = left
idle_left image s by Commit left = left
idle_left image s by (Fault cause pc) left = left

after_left : (image : LoadedImage) (s : FlatState) (by : ℕ) (what : What) (core : Option CoreState) → s.cores by ≡ core → HasLeft image s
    → HasLeft image (effect image s (record { by = by; what = what }))
after_left image s by what None at left = subst (HasLeft image) (sym (effect-idle image s by what at)) (idle_left image s by what left)
after_left image s by what (Some c) at left = subst (HasLeft image) (sym (effect-on image s by what c at)) (on_left image s by c what left)

left_from : (image : LoadedImage) (count : ℕ) (entries : List Entry) (s last : FlatState) → HasLeft image s → replay_from image count s entries ≡ Some last → HasLeft image last
unfolding replay_from
left_from image count [] s last left replays = let same : s ≡ last = cc in subst (HasLeft image) same left
left_from image count (entry ∷ entries) s last left replays =
    legal_by image count s entry entries last (refusal_of image count s entry) refl replays
    (λ legal rest. left_from image count entries (effect image s entry) last (after_left image s entry.by entry.what (s.cores entry.by) refl left) rest)

has_left : (image : LoadedImage) (count : ℕ) (entries : List Entry) (s : FlatState) → replay image count entries ≡ Some s → HasLeft image s
unfolding replay
has_left image count entries s replays = left_from image count entries (first_state image) s (λ none. end_left image 0 none) replays

-- ---- before the loop is over a core is due

module _ (image : LoadedImage) (cores : ℕ) (s : FlatState) where
  still_by : (core : Option CoreState) (next : Next) → due_of next ≡ None → IsUndue image s core next → s.end ≡ None
  still_by core (Due at) none un = absurd cc
  still_by core (Waits since cause) none un = un.0
  still_by core Gone none un = un.0

  -- it doesn't run the homefree epoch
  not_homefree : (core : Option CoreState) (c : CoreState) (next : Next) → due_of next ≡ None → IsUndue image s core next → core ≡ Some c → c.epoch ≡ s.homefree → ⊥
  not_homefree core c (Due at) none un at_c is = absurd cc
  not_homefree core c (Waits since cause) none un at_c is =
      let same = ap (λ (x : CoreState). x.epoch) (one_value core un.1 c un.2 at_c) in omega (arith, un.3, same, is)
  not_homefree core c Gone none un at_c is = none_and_some core c un.1 at_c

  -- nor is there none that runs one
  not_all_idle : (core : Option CoreState) (next : Next) → due_of next ≡ None → IsUndue image s core next → ((c : CoreState) → core ≡ Some c → c.epoch < s.next_epoch)
      → s.homefree ≡ s.next_epoch → s.next_epoch ≤ image.epochs → s.homefree ≢ image.epochs → ⊥
  not_all_idle core (Due at) none un below same most left = absurd cc
  not_all_idle core (Waits since cause) none un below same most left = omega (arith, un.3, below un.1 un.2, same)
  not_all_idle core Gone none un below same most left = left (omega (arith, un.2, same, most))

  -- a core that is held runs an epoch, and not the homefree one
  held_runs : (holds : Holding) (core : Option CoreState) (hand : Option HartState) → is_held holds image s.homefree (epoch_run core) (own_run core) hand ≡ true → core ≡ None → ⊥
  held_runs holds None hand held idle = absurd cc
  held_runs holds (Some c) hand held idle = absurd cc

  free_by : (holds : Holding) (hurt : Bool) (epoch : ℕ) (own : ℕ → Option ℕ) (hand : Option HartState) → epoch ≡ s.homefree → is_held holds image s.homefree (cond hurt None (Some epoch)) own hand ≡ false
  free_by holds true epoch own hand is = refl
  free_by holds false epoch own None is = refl
  free_by holds false epoch own (Some hart) is = rw (eq-eqb epoch s.homefree is) refl

  homefree_free : (holds : Holding) (core : Option CoreState) (c : CoreState) (hand : Option HartState) → core ≡ Some c → c.epoch ≡ s.homefree
      → is_held holds image s.homefree (epoch_run core) (own_run core) hand ≡ false
  homefree_free holds core c hand at is = subst (λ o. is_held holds image s.homefree (epoch_run o) (own_run o) hand ≡ false) (sym at) (free_by holds c.hurt c.epoch c.own hand is)

  undue_free : (held : Bool) (due : Option ℕ) → held ≡ false → cond held None due ≡ None → due ≡ None
  undue_free true due free none = absurd cc
  undue_free false due free none = none

  -- one that isn't due is held, or isn't due by its clock
  going_by : (held : Bool) (core : Option CoreState) (next : Next) → cond held None (due_of next) ≡ None → (held ≡ true → core ≡ None → ⊥) → ((c : CoreState) → core ≡ Some c → s.end ≡ None)
      → IsUndue image s core next → s.end ≡ None
  going_by true None next none runs going un = absurd (runs refl refl)
  going_by true (Some c) next none runs going un = going c refl
  going_by false core next none runs going un = still_by core next none un

  idle_by : (held : Bool) (core : Option CoreState) (next : Next) → cond held None (due_of next) ≡ None → (held ≡ true → core ≡ None → ⊥) → ((c : CoreState) → core ≡ Some c → ⊥)
      → (core ≡ None) × (due_of next ≡ None)
  idle_by true None next none runs never = absurd (runs refl refl)
  idle_by false None next none runs never = (refl, none)
  idle_by held (Some c) next none runs never = absurd (never c refl)

  pub one_is_due : (history : List Entry) (clocks : ℕ → Clock) (holds : Holding) (hands : ℕ → Option HartState) → IsImage image → replay image cores history ≡ Some s → 1 ≤ cores
      → IsUnderWay image cores s clocks → ((k : ℕ) → k < cores → dues (are_held holds image (Some s) hands) clocks k ≡ None) → ⊥
  one_is_due history clocks holds hands is_image replays some way none =
      let held = is_held holds image s.homefree (epoch_run (s.cores 0)) (own_run (s.cores 0)) (hands 0) in
      let runs = held_runs holds (s.cores 0) (hands 0) in
      let still = going_by held (s.cores 0) (clocks 0).next (none 0 some) runs (way.going 0) (way.undue 0 some) in
      let kept = ((replayed image cores history s is_image replays).going still).kept in
      elim (cases_eq s.homefree s.next_epoch) [
        | inl same ↦
            let idle = idle_by held (s.cores 0) (clocks 0).next (none 0 some) runs (λ c at. omega (arith, (kept.core 0 c at).from, (kept.core 0 c at).below, same)) in
            not_all_idle (s.cores 0) (clocks 0).next idle.1 (way.undue 0 some) (λ c at. (kept.core 0 c at).below) same kept.started (has_left image cores history s replays still)
        | inr other ↦
            let r = way.run s.homefree (omega arith) (omega (arith, kept.homefree_started, other)) in
            let there = (kept.core r.0 r.1 r.2).there in
            let due = undue_free _ (due_of (clocks r.0).next) (homefree_free holds (s.cores r.0) r.1 (hands r.0) r.2 r.3) (none r.0 there) in
            not_homefree (s.cores r.0) r.1 (clocks r.0).next due (way.undue r.0 there) r.2 r.3
      ]

-- ---- what a turn keeps of that

by_core : (k j : ℕ) (P : Clock → Type 0) (x y : Clock) → (k ≡ j → P x) → (k ≢ j → P y) → P (cond (k == j) x y)
by_core k j P x y same other = elim (cases_eq k j) [
  | inl e ↦ subst (λ b. P (cond b x y)) (sym (eq-eqb k j e)) (same e)
  | inr ne ↦ subst (λ b. P (cond b x y)) (sym (ne_eqb k j ne)) (other ne)
]

no_core : (o u : Option CoreState) (was : Option CoreState) → u ≡ was → Moves o u → o ≡ None → u ≡ None
no_core o u None is moves idle = is
no_core o u (Some d) is moves idle = let x = moves.runs d is in absurd (none_and_some o x.0 idle x.1)

-- a core that runs an epoch goes on running it
still_runs : (o u was : Option CoreState) (c : CoreState) → u ≡ was → Moves o u → o ≡ Some c → (d : CoreState) × (u ≡ Some d) × (d.epoch ≡ c.epoch)
still_runs o u None c is moves at = absurd (none_and_some o c (moves.idle is) at)
still_runs o u (Some d) c is moves at = let x = moves.runs d is in (d, is, x.3 ∙ ap (λ (e : CoreState). e.epoch) (one_value o x.0 c x.1 at))

abbrev Run : FlatState → ℕ → Type 0
Run s epoch = (k : ℕ) × (c : CoreState) × (s.cores k ≡ Some c) × (c.epoch ≡ epoch)

module _ (image : LoadedImage) (cores core : ℕ) (s u : FlatState) (others : (k : ℕ) → k ≢ core → Moves (s.cores k) (u.cores k)) where
  runs_on : (epoch : ℕ) (r : Run s epoch) → r.0 ≢ core → Run u epoch
  runs_on epoch r other =
      let on = still_runs (s.cores r.0) (u.cores r.0) (u.cores r.0) r.1 refl (others r.0 other) r.2 in
      (r.0, on.0, on.1, on.2 ∙ r.3)

  -- the core goes on
  taken_by : (was : Option CoreState) (now : CoreState) → s.cores core ≡ was → u.cores core ≡ Some now → TakesEpoch s u now was → u.homefree ≡ s.homefree
      → ((epoch : ℕ) → s.homefree ≤ epoch → epoch < s.next_epoch → Run s epoch) → (epoch : ℕ) → u.homefree ≤ epoch → epoch < u.next_epoch → Run u epoch
  taken_by None now is at takes homefree run epoch from below = elim (cases_eq epoch s.next_epoch) [
    | inl e ↦ (core, now, at, takes.0 ∙ sym e)
    | inr older ↦
        let r = run epoch (omega (arith, from, homefree)) (omega (arith, below, takes.1, older)) in
        runs_on epoch r (λ same. none_and_some (s.cores core) r.1 is (ap s.cores (sym same) ∙ r.2))
  ]
  taken_by (Some c) now is at takes homefree run epoch from below =
      let r = run epoch (omega (arith, from, homefree)) (omega (arith, below, takes.1)) in
      elim (cases_eq r.0 core) [
        | inl same ↦ (core, now, at, takes.0 ∙ (ap (λ (x : CoreState). x.epoch) (one_value (s.cores core) c r.1 is (ap s.cores (sym same) ∙ r.2)) ∙ r.3))
        | inr other ↦ runs_on epoch r other
      ]

  pub more_epochs : (was : Option CoreState) (now : CoreState) → TakesEpoch s u now was → s.next_epoch ≤ u.next_epoch
  more_epochs None now takes = omega (arith, takes.1)
  more_epochs (Some c) now takes = omega (arith, takes.1)

  -- the core commits
  left_by : (was : CoreState) → s.cores core ≡ Some was → was.epoch ≡ s.homefree → u.homefree ≡ s.homefree + 1 → u.next_epoch ≡ s.next_epoch
      → ((epoch : ℕ) → s.homefree ≤ epoch → epoch < s.next_epoch → Run s epoch) → (epoch : ℕ) → u.homefree ≤ epoch → epoch < u.next_epoch → Run u epoch
  left_by was at home homefree next run epoch from below =
      let r = run epoch (omega (arith, from, homefree)) (omega (arith, below, next)) in
      elim (cases_eq r.0 core) [
        | inl same ↦
            let epochs = ap (λ (x : CoreState). x.epoch) (one_value (s.cores core) was r.1 at (ap s.cores (sym same) ∙ r.2)) in
            absurd (omega (arith, epochs, r.3, home, homefree, from))
        | inr other ↦ runs_on epoch r other
      ]

  -- ---- the clocks

  woken_undue : (at : ℕ) (c : Clock) (was now : Option CoreState) (next : Next) → c.next ≡ next → u.end ≡ None → s.next_epoch ≤ u.next_epoch → (was ≡ None → now ≡ None)
      → IsUndue image s was next → IsUndue image u now (woken_from next at c).next
  woken_undue at c was now (Due due) is still more idle un = subst (IsUndue image u now) (sym is) tt
  woken_undue at c was now (Waits since cause) is still more idle un = tt
  woken_undue at c was now Gone is still more idle un = subst (IsUndue image u now) (sym is) (still, idle un.1, omega (arith, un.2, more))

  pub all_woken : (at : ℕ) (own clocks : ℕ → Clock) (due : ℕ) → ((k : ℕ) → (own k).next ≡ Due due) → u.end ≡ None → s.next_epoch ≤ u.next_epoch
      → ((k : ℕ) → k < cores → IsUndue image s (s.cores k) (clocks k).next)
      → (k : ℕ) → k < cores → IsUndue image u (u.cores k) (woken at (cond (k == core) (own k) (clocks k))).next
  all_woken at own clocks due is still more un k below =
      by_core k core (λ c. IsUndue image u (u.cores k) (woken at c).next) (own k) (clocks k)
      (λ e. woken_undue at (own k) (u.cores k) (u.cores k) (own k).next refl still more (λ none. none) (subst (IsUndue image s (u.cores k)) (sym (is k)) tt))
      (λ other. woken_undue at (clocks k) (s.cores k) (u.cores k) (clocks k).next refl still more (no_core (s.cores k) (u.cores k) (u.cores k) refl (others k other)) (un k below))

-- ---- how many aren't due

undue_of-none : (clocks : ℕ → Clock) → undue_of clocks 0 ≡ 0
unfolding undue_of
undue_of-none clocks = refl

undue_of-more : (clocks : ℕ → Clock) (n : ℕ) → undue_of clocks (suc n) ≡ undue_of clocks n + undue (due_of (clocks n).next)
unfolding undue_of
undue_of-more clocks n = refl

one_at_most : (due : Option ℕ) → undue due ≤ 1
one_at_most (Some at) = omega arith
one_at_most None = omega arith

pub few_undue : (clocks : ℕ → Clock) (n : ℕ) → undue_of clocks n ≤ n
few_undue clocks zero = omega (arith, undue_of-none clocks)
few_undue clocks (suc n) = omega (arith, few_undue clocks n, undue_of-more clocks n, one_at_most (due_of (clocks n).next))

all_undue : (f g : ℕ → Clock) (n : ℕ) → ((k : ℕ) → k < n → g k ≡ f k) → undue_of g n ≡ undue_of f n
all_undue f g zero same = undue_of-none g ∙ sym (undue_of-none f)
all_undue f g (suc n) same =
    let before = all_undue f g n (λ k below. same k (omega (arith, below))) in
    omega (arith, before, ap (λ (c : Clock). undue (due_of c.next)) (same n (omega arith)), undue_of-more g n, undue_of-more f n)

-- one more, where a core that was due isn't
one_undue : (f g : ℕ → Clock) (core n : ℕ) → ((k : ℕ) → k ≢ core → g k ≡ f k) → undue (due_of (g core).next) ≡ undue (due_of (f core).next) + 1 → core < n
    → undue_of g n ≡ undue_of f n + 1
one_undue f g core zero same here below = absurd (omega (arith, below))
one_undue f g core (suc n) same here below = elim (cases_eq n core) [
  | inl is ↦
      let before = all_undue f g n (λ k less. same k (λ e. omega (arith, less, e, is))) in
      let now : undue (due_of (g n).next) ≡ undue (due_of (f n).next) + 1 = subst (λ k. undue (due_of (g k).next) ≡ undue (due_of (f k).next) + 1) (sym is) here in
      omega (arith, before, now, undue_of-more g n, undue_of-more f n)
  | inr other ↦
      let before = one_undue f g core n same here (omega (arith, below, other)) in
      omega (arith, before, ap (λ (c : Clock). undue (due_of c.next)) (same n other), undue_of-more g n, undue_of-more f n)
]

waits_undue : (cause : Cause) (at : ℕ) (c : Clock) → due_of (waits_for cause at c).next ≡ None
waits_undue NoEpoch at c = refl
waits_undue NotHomefree at c = refl
waits_undue NoWay at c = refl
waits_undue OrbFull at c = refl
waits_undue OrbBusy at c = refl

-- ---- a whole turn

module _ {S : Type 0} (costless : Bool) (image : LoadedImage) (cores : ℕ) (s u : FlatState) (p : Pace) (old mid : Driver S) (t : Turn) (there : t.core < cores)
    (due : due_of (p.clocks t.core).next ≡ Some t.at) (on : IsOnTime costless image (s.cores t.core) (p.held t.core) (p.clocks t.core)) (way : IsUnderWay image cores s p.clocks)
    (taken before after : ℕ) (stopped : Option StopCause) (so_far : taken ≤ 17 * before + undue_of p.clocks cores) (most : cores ≤ 16) where
  pub record LastsOn (clocks' : ℕ → Clock) : Type 0 where
    pub under_way : IsUnderWay image cores u clocks'
    pub few : taken + 1 ≤ 17 * after + undue_of clocks' cores

  more_entries : (clocks' : ℕ → Clock) → before < after → taken + 1 ≤ 17 * after + undue_of clocks' cores
  more_entries clocks' more = omega (arith, so_far, most, more, few_undue p.clocks cores)

  in_hand : (was : Option CoreState) → IsOnTime costless image was (p.held t.core) (p.clocks t.core) → WasTold was (p.held t.core) → ⊥
  in_hand None on told = none_and_some None told.core refl told.runs
  in_hand (Some c) on told =
      let same = same_Some c told.core told.runs in
      told.stale ((on.1 (ap (λ (x : CoreState). x.hurt) same ∙ told.unhurt)).0 ∙ ap (λ (x : CoreState). Some x.hart) same)

  longer : (before < after) ⊎ WasTold (s.cores t.core) (p.held t.core) → before < after
  longer adds = elim adds [
    | inl more ↦ more
    | inr told ↦ absurd (in_hand (s.cores t.core) on told)
  ]

  abbrev after_turn : Answer → ℕ → Clock
  after_turn answer = clocks_after old mid p.clocks t answer

  goes : (hart : HartState) → GoesTo image s u t.core (p.held t.core) (restarts old mid) hart → before < after → LastsOn (after_turn (Go hart))
  goes hart g more = record {
    under_way = record {
      run = taken_by image cores t.core s u g.others (s.cores t.core) g.now refl g.runs g.epochs g.homefree way.run;
      undue = all_woken image cores t.core s u g.others t.at (λ k. answered t.at (restarts old mid) (executed_by old.book.image (Go hart)) t.price.spent (Go hart) (p.clocks k)) p.clocks
          (t.at + 1 + total t.price.spent + executed_by old.book.image (Go hart)) (λ k. refl) g.going (more_epochs image cores t.core s u g.others (s.cores t.core) g.now g.epochs) way.undue;
      going = λ k c at. g.going;
    };
    few = more_entries (after_turn (Go hart)) more;
  }

  leaves : u.end ≡ None → Leaves image s u t.core → before < after → LastsOn (after_turn Left)
  leaves still l more = record {
    under_way = record {
      run = left_by image cores t.core s u l.others l.was l.runs l.epoch l.homefree l.next_epoch way.run;
      undue = all_woken image cores t.core s u l.others t.at (λ k. answered t.at (restarts old mid) (executed_by old.book.image Left) t.price.spent Left (p.clocks k)) p.clocks
          (t.at + 1 + total t.price.spent) (λ k. refl) still (omega (arith, l.next_epoch)) way.undue;
      going = λ k c at. still;
    };
    few = more_entries (after_turn Left) more;
  }

  -- it waits
  waited : (cause : Cause) (k : ℕ) → k ≢ t.core → after_turn (Again cause) k ≡ p.clocks k
  waited cause k other = ap (λ b. cond b (waits_for cause t.at (p.clocks k)) (p.clocks k)) (ne_eqb k t.core other)

  waits_own : (cause : Cause) → after_turn (Again cause) t.core ≡ waits_for cause t.at (p.clocks t.core)
  waits_own cause = ap (λ b. cond b (waits_for cause t.at (p.clocks t.core)) (p.clocks t.core)) (eq-eqb t.core t.core refl)

  one_waits : (cause : Cause) → after ≡ before → taken + 1 ≤ 17 * after + undue_of (after_turn (Again cause)) cores
  one_waits cause same =
      let own : undue (due_of (after_turn (Again cause) t.core).next) ≡ 1 =
      ap (λ (c : Clock). undue (due_of c.next)) (waits_own cause) ∙ ap undue (waits_undue cause t.at (p.clocks t.core)) in
      let was : undue (due_of (p.clocks t.core).next) ≡ 0 = ap undue due in
      let more = one_undue p.clocks (after_turn (Again cause)) t.core cores (waited cause) (omega (arith, own, was)) there in
      omega (arith, so_far, same, more)

  waits : (cause : Cause) → u ≡ s → IsUndue image s (s.cores t.core) (waits_for cause t.at (p.clocks t.core)).next → after ≡ before → LastsOn (after_turn (Again cause))
  waits cause same own none = record {
    under_way = subst (λ x. IsUnderWay image cores x (after_turn (Again cause))) (sym same) (record {
      run = way.run;
      undue = λ k below. by_core k t.core (λ c. IsUndue image s (s.cores k) c.next) (waits_for cause t.at (p.clocks k)) (p.clocks k)
          (λ e. subst (λ j. IsUndue image s (s.cores j) (waits_for cause t.at (p.clocks j)).next) (sym e) own) (λ other. way.undue k below);
      going = way.going;
    });
    few = one_waits cause none;
  }

  pub turn_lasts : (answer : Answer) → ((end : End) → answer ≢ Over end) → ((cause : StopCause) → answer ≢ Stopped cause)
      → Came image s u t.core (p.held t.core) (restarts old mid) answer → Adds stopped (s.cores t.core) (p.held t.core) before after answer → LastsOn (after_turn answer)
  turn_lasts (Go hart) going unstopped came adds = goes hart came (longer adds)
  turn_lasts (Again NoEpoch) going unstopped came adds = waits NoEpoch came.same (came.going, came.idle, came.left) adds
  turn_lasts (Again NotHomefree) going unstopped came adds = waits NotHomefree came.same (came.going, came.was, came.runs, came.later) adds
  turn_lasts (Again NoWay) going unstopped came adds = waits NoWay came.same (came.going, came.was, came.runs, came.later) adds
  turn_lasts (Again OrbFull) going unstopped came adds = waits OrbFull came.same (came.going, came.was, came.runs, came.later) adds
  turn_lasts (Again OrbBusy) going unstopped came adds = waits OrbBusy came.same (came.going, came.was, came.runs, came.later) adds
  turn_lasts Left going unstopped came adds = leaves came.0 came.1 adds
  turn_lasts (Over end) going unstopped came adds = absurd (going end refl)
  turn_lasts (Stopped cause) going unstopped came adds = absurd (unstopped cause refl)

-- ---- along a run

-- that the book was stopped is answered where it was
pub halted : {S : Type 0} (old mid : Driver S) (core : ℕ) (held : Option HartState) (answer : Answer) (cause : StopCause) → Leads old mid core held (Ok answer) → answer ≡ Stopped cause
    → old.book.stopped ≡ Some cause
halted old mid core held answer cause l is =
    subst (λ a. Adds old.book.stopped (l.before.cores core) held (length old.book.history) (length mid.book.history) a) is l.adds

pub first_lasts : {S : Type 0} (b : BookView S) (s : FlatState) (clocks : ℕ → Clock) → b.history ≡ [] → replay b.image b.cores b.history ≡ Some s
    → ((k : ℕ) → clocks k ≡ first_clock) → IsLasting b clocks 0
first_lasts b s clocks none replays first =
    let is : first_state b.image ≡ s = same_Some (first_state b.image) s (sym (no_entries b.image b.cores) ∙ (ap (replay b.image b.cores) (sym none) ∙ replays)) in record {
      state = s;
      replays = replays;
      under_way = subst (λ x. IsUnderWay b.image b.cores x clocks) is (record {
        run = λ epoch from below. absurd (omega (arith, below));
        undue = λ k below. subst (λ (c : Clock). IsUndue b.image (first_state b.image) None c.next) (sym (first k)) tt;
        going = λ k c at. absurd cc;
      });
      few = omega arith;
    }

-- the run isn't at its end, so a core is due
pub never_undue : {S : Type 0} (b : BookView S) (holds : Holding) (hands : ℕ → Option HartState) (free : Free) (prices : ℕ → Price) (clocks : ℕ → Clock) (taken count : ℕ) (next : Option Turn) → IsImage b.image
    → 1 ≤ b.cores → count ≡ b.cores → IsLasting b clocks taken → ((t : Turn) → next ≢ Some t) → IsNext free prices (dues (held_in holds b hands) clocks) count next → ⊥
never_undue b holds hands free prices clocks taken count (Some t) is_image least same l none next = none t refl
never_undue b holds hands free prices clocks taken count None is_image least same l none next =
    one_is_due b.image b.cores l.state b.history clocks holds hands is_image l.replays least l.under_way
    (λ k below. subst (λ r. dues (are_held holds b.image r hands) clocks k ≡ None) l.replays (next k (omega (arith, below, same))))

-- the same, as a turn begins that was due before
all_undue_by : (f g : ℕ → Clock) (n : ℕ) → ((k : ℕ) → k < n → undue (due_of (g k).next) ≡ undue (due_of (f k).next)) → undue_of g n ≡ undue_of f n
all_undue_by f g zero same = undue_of-none g ∙ sym (undue_of-none f)
all_undue_by f g (suc n) same =
    let before = all_undue_by f g n (λ k below. same k (omega (arith, below))) in
    omega (arith, before, same n (omega arith), undue_of-more g n, undue_of-more f n)

late_is_due : (queues : Bool) (due at : ℕ) (c : Clock) → (late queues due at c).next ≡ Due at
late_is_due true due at c = refl
late_is_due false due at c = refl

pub late_lasts : {S : Type 0} (b : BookView S) (queues : Bool) (clocks lates : ℕ → Clock) (taken : ℕ) (t : Turn) → due_of (clocks t.core).next ≡ Some t.due
    → ((k : ℕ) → lates k ≡ late_clocks queues clocks t k) → IsLasting b clocks taken → IsLasting b lates taken
late_lasts b queues clocks lates taken t due each l = record {
  state = l.state;
  replays = l.replays;
  under_way = record {
    run = l.under_way.run;
    undue = λ k below. subst (λ (c : Clock). IsUndue b.image l.state (l.state.cores k) c.next) (sym (each k))
        (by_core k t.core (λ c. IsUndue b.image l.state (l.state.cores k) c.next) (late queues t.due t.at (clocks k)) (clocks k)
        (λ here. subst (IsUndue b.image l.state (l.state.cores k)) (sym (late_is_due queues t.due t.at (clocks k))) tt) (λ other. l.under_way.undue k below));
    going = l.under_way.going;
  };
  few = omega (
    arith,
    l.few,
    all_undue_by clocks lates b.cores (λ k below. ap (λ (c : Clock). undue (due_of c.next)) (each k)
        ∙ by_core k t.core (λ c. undue (due_of c.next) ≡ undue (due_of (clocks k).next)) (late queues t.due t.at (clocks k)) (clocks k)
        (λ here. ap (λ n. undue (due_of n)) (late_is_due queues t.due t.at (clocks k)) ∙ sym (ap undue (subst (λ j. due_of (clocks j).next ≡ Some t.due) (sym here) due))) (λ other. refl)),
  );
}

-- it has taken fewer turns than it may
pub never_spent : {S : Type 0} (b : BookView S) (clocks : ℕ → Clock) (taken : ℕ) → IsLasting b clocks taken → length b.history ≤ most_room → b.cores ≤ 16 → 17 * most_room + 17 ≤ taken → ⊥
never_spent b clocks taken l within most spent = omega (arith, l.few, within, most, spent, few_undue clocks b.cores)

module _ {S : Type 0} (costless : Bool) (old mid : Driver S) (p : Pace) (t : Turn) (same : IsOfSameLoop old.book mid.book) (first : IsTurnOf p.clocks old.book.cores t) (most : old.book.cores ≤ 16) where
  pub lasts_on : (answer : Answer) (clocks' : ℕ → Clock) (taken : ℕ) (s : FlatState) → Leads old mid t.core (p.held t.core) (Ok answer) → ((end : End) → answer ≢ Over end)
      → ((cause : StopCause) → answer ≢ Stopped cause) → ((k : ℕ) → clocks' k ≡ clocks_after old mid p.clocks t answer k)
      → replay old.book.image old.book.cores old.book.history ≡ Some s → AreOnTime costless old.book.image old.book.cores s p → IsLasting old.book p.clocks taken
      → IsLasting mid.book clocks' (taken + 1)
  lasts_on answer clocks' taken s l going unstopped are replays on was =
      let history = replay old.book.image old.book.cores old.book.history in
      let timed = subst (λ x. AreOnTime costless old.book.image old.book.cores x p) (one_value history s l.before replays l.led) on in
      let way = subst (λ x. IsUnderWay old.book.image old.book.cores x p.clocks) (one_value history was.state l.before was.replays l.led) was.under_way in
      let lasts = turn_lasts costless old.book.image old.book.cores l.before l.after p old mid t first.core first.due (timed.each t.core first.core) way taken
      (length old.book.history) (length mid.book.history) old.book.stopped was.few most answer going unstopped l.came l.adds in
      let path = fun_ext are in record {
        state = l.after;
        replays = l.leads;
        under_way = rw (same.image, same.cores) (subst (λ (f : ℕ → Clock). IsUnderWay old.book.image old.book.cores l.after f) (sym path) lasts.under_way);
        few = rw same.cores (subst (λ (f : ℕ → Clock). taken + 1 ≤ 17 * length mid.book.history + undue_of f old.book.cores) (sym path) lasts.few);
      }
