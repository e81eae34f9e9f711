-- What a turn keeps of the steps that attempts have taken.
use Rattle.std.proofs.Common.{true≢false, ◌*◌, ◌≡◌, ◌≢◌, ◌⊎◌, ℕ, zero, suc, ◌+◌, ◌-◌, ◌<◌, ◌≤◌, ◌==◌, Bool, true, false, cond, List, [], Option, Some, None, Result, Ok, refl, sym, ap, subst, ◌∙◌, inl, inr, arith, add-one, eq-eqb, eqb-true, ne_eqb, add-zero}
use Rattle.std.proofs.Math.Path.{fun_ext}
use Rattle.std.proofs.lemmas.Bool.{cases_eq, cases_Bool}
use Rattle.std.proofs.lemmas.Option.{same_Some}
use Rattle.rv32_image.specs.Image.{LoadedImage}
use Rattle.rv32_image.proofs.SmallFacts.{one_value, none_and_some}
use Rattle.rv32_exec.specs.declared.sequential.End.{End}
use Rattle.rv32_exec.specs.declared.sequential.End.TheVariants.{Done}
use Rattle.rv32_exec.specs.Hart.{HartState}
use Rattle.rv32_exec.specs.NextEvent.{next_event}
use Rattle.rv32_exec.proofs.LawsOfRuns.{later_event}
use Rattle.spec_history.specs.FlatState.{CoreState, FlatState, first_state}
use Rattle.spec_history.specs.Replay.{replay}
use Rattle.spec_history.proofs.Replay.Reaching.{no_entries}
use Rattle.homefree.specs.declared.answer.Answer.{Answer}
use Rattle.homefree.specs.declared.answer.Answer.TheVariants.{Go, Again, Left, Over, Stopped}
use Rattle.homefree.specs.declared.answer.Cause.{Cause}
use Rattle.homefree.specs.declared.answer.StopCause.{StopCause}
use Rattle.spec_history.specs.declared.entry.Entry.{Entry}
use Rattle.homefree.specs.declared.answer.Cause.TheVariants.{NoEpoch, NotHomefree, NoWay, OrbFull, OrbBusy}
use Rattle.homefree.specs.declared.fault.TurnFault.{TurnFault}
use Rattle.homefree.specs.BookView.{BookView, IsOfSameLoop}
use Rattle.homefree.specs.Driven.{Driver, held_after, with_held}
use Rattle.even_speed.specs.declared.account.Account.{Account}
use Rattle.even_speed.specs.declared.clock.Clock.{Clock}
use Rattle.even_speed.specs.declared.clock.Next.{Next}
use Rattle.even_speed.specs.declared.clock.Next.TheVariants.{Due, Waits, Gone}
use Rattle.even_speed.specs.declared.account.Spent.{Spent}
use Rattle.even_speed.specs.declared.clocks.Turn.{Turn}
use Rattle.even_speed.specs.Clocks.{account_of, answered, begun, closed, due_of, first_clock, late, late_clocks, left, paid, waits_for, woken, woken_by, woken_from}
use Rattle.even_speed.specs.Even.{Pace, at_first, clocks_after, executed_by, restarts}
use Rattle.even_speed.specs.InOrder.{epoch_count, instructions_in_order, steps_in_order}
use Rattle.even_speed.specs.Kept.{IsTurnOf, IsWaitBefore, told, used}
use Rattle.even_speed.specs.Pricing.{free_after}
use Rattle.even_speed.specs.Timed.{AreOnTime, Came, From, GoesTo, IsNextAt, IsOnTime, Leads, IsDueAt, IsNeverIdle, Leaves, Moves, StaysAt, WasOver, busy_of, spent_of, sum_over}
use Rattle.even_speed.specs.Account.{WastesNone, no_steps, steps_of, sum_of, total, useful_in}
use Rattle.even_speed.proofs.OneCore.{account_one}
use Rattle.even_speed.proofs.Sounding.{account_of-more, account_of-none, at_turn}

-- ---- a core that didn't take the turn

moved_by : (costless : Bool) (image : LoadedImage) (o u was : Option CoreState) (held : Option HartState) (c : Clock) → u ≡ was → Moves o u → IsOnTime costless image o held c
    → IsOnTime costless image was held c
moved_by costless image o u None held c is moves on = subst (λ x. IsOnTime costless image x held c) (moves.idle is) on
moved_by costless image o u (Some d) held c is moves on =
    let x = moves.runs d is in
    let was = subst (λ y. IsOnTime costless image y held c) x.1 on in (
      was.0,
      λ unhurt.
          let same = x.2 unhurt in
          subst (λ (e : CoreState). (held ≡ Some e.hart) × IsNextAt (used c + (next_event image e.hart).now.done) c.next) (sym same)
          (was.1 (sym (ap (λ (e : CoreState). e.hurt) same) ∙ unhurt)),
      was.2,
    )

moved : (costless : Bool) (image : LoadedImage) (o u : Option CoreState) (held : Option HartState) (c : Clock) → Moves o u → IsOnTime costless image o held c → IsOnTime costless image u held c
moved costless image o u held c moves on = moved_by costless image o u u held c refl moves on

-- ---- a wake

woken_next : (at n : ℕ) (c : Clock) (next : Next) → c.next ≡ next → IsWaitBefore at next → IsNextAt (used c + n) next
    → IsNextAt (used (woken_from next at c) + n) (woken_from next at c).next
woken_next at n c (Due due) is before on = subst (λ x. IsNextAt (used c + n) x) (sym is) on
woken_next at n c (Waits since cause) is before on = omega (arith, before, on)
woken_next at n c Gone is before on = absurd on

woken_runs : (at : ℕ) (c : Clock) (next : Next) → ((woken_from next at c).runs ≡ c.runs) × ((woken_from next at c).spent ≡ c.spent)
woken_runs at c (Due due) = (refl, refl)
woken_runs at c (Waits since cause) = (refl, refl)
woken_runs at c Gone = (refl, refl)

woken_time : (costless : Bool) (image : LoadedImage) (core : Option CoreState) (held : Option HartState) (at : ℕ) (c : Clock) → IsWaitBefore at c.next → IsOnTime costless image core held c
    → IsOnTime costless image core held (woken at c)
woken_time costless image None held at c before on = (woken_runs at c c.next).0 ∙ on
woken_time costless image (Some core) held at c before on = (
  (woken_runs at c c.next).0 ∙ on.0,
  λ unhurt. ((on.1 unhurt).0, woken_next at (next_event image core.hart).now.done c c.next refl before (on.1 unhurt).1),
  λ none. ap total (woken_runs at c c.next).1 ∙ on.2 none,
)

-- the busy steps, and what was spent beside them
abbrev IsSameUseful : Account → Account → Type 0
IsSameUseful a b = (b.busy ≡ a.busy) × (b.spent ≡ a.spent)

woken_useful : (at : ℕ) (c : Clock) (next : Next) → IsSameUseful c.account (woken_from next at c).account
woken_useful at c (Due due) = (refl, refl)
woken_useful at c (Waits since NoEpoch) = (refl, refl)
woken_useful at c (Waits since NotHomefree) = (refl, refl)
woken_useful at c (Waits since NoWay) = (refl, refl)
woken_useful at c (Waits since OrbFull) = (refl, refl)
woken_useful at c (Waits since OrbBusy) = (refl, refl)
woken_useful at c Gone = (refl, refl)

-- ---- the core that took the turn

due_is : (next : Next) (at : ℕ) → due_of next ≡ Some at → next ≡ Due at
due_is (Due due) at is = ap Due (same_Some due at is)
due_is (Waits since cause) at is = absurd cc
due_is Gone at is = absurd cc

next_at : (n at : ℕ) (next : Next) → next ≡ Due at → IsNextAt n next → at ≡ n
next_at n at next is on = subst (IsNextAt n) is on

-- it goes on
abbrev gone_on : LoadedImage → ℕ → Bool → Spent → HartState → Clock → Clock
gone_on image at restarted e hart c = record (paid e (begun at restarted c)) { next = Due (at + 1 + total e + ((next_event image hart).now.done - hart.done)) }

module _ (costless : Bool) (image : LoadedImage) (at : ℕ) (restarted : Bool) (e : Spent) (hart : HartState) (c : Clock) (free : costless ≡ true → total e ≡ 0) where
  abbrev gone : Clock
  gone = gone_on image at restarted e hart c

  record Goes : Type 0 where
    runs : gone.runs ≡ true
    next : at + 1 + total e + ((next_event image hart).now.done - hart.done) ≡ used gone + (next_event image hart).now.done
    spent : costless ≡ true → total gone.spent ≡ 1

  begun_idle : c.runs ≡ false → hart.done ≡ 0 → Goes
  begun_idle runs none = record { runs = rw runs refl; next = rw runs (omega (arith, none)); spent = λ is. rw runs (omega (arith, free is)) }

  begun_hurt : c.runs ≡ true → restarted ≡ true → hart.done ≡ 0 → Goes
  begun_hurt runs restart none = record { runs = rw (runs, restart) refl; next = rw (runs, restart) (omega (arith, none)); spent = λ is. rw (runs, restart) (omega (arith, free is)) }

  begun_on : (done : ℕ) → c.runs ≡ true → restarted ≡ false → at ≡ used c + done → hart.done ≡ done + 1 → (costless ≡ true → total c.spent ≡ 1) → Goes
  begun_on done runs none on count spent = record {
    runs = rw (runs, none) refl;
    next = rw (runs, none) (omega (arith, on, count, later_event image hart));
    spent = λ is. rw (runs, none) (omega (arith, free is, spent is));
  }

  goes_by : (was : Option CoreState) (held : Option HartState) → c.next ≡ Due at → From image held restarted hart was → IsOnTime costless image was held c → Goes
  goes_by None held due from on = begun_idle on from
  goes_by (Some b) held due from on = elim (cases_Bool b.hurt) [
    | inl hurt ↦ let f = from.0 hurt in begun_hurt on.0 f.0 f.1
    | inr unhurt ↦ let o = on.1 unhurt in
        let f = from.1 unhurt o.0 in
        begun_on (next_event image b.hart).now.done on.0 f.0 (next_at _ at c.next due o.1) f.1 on.2
  ]

  goes_on_time : (u : Option CoreState) (now : CoreState) → u ≡ Some now → now.hart ≡ hart → Goes → IsOnTime costless image u (Some hart) gone
  goes_on_time u now is hart_is goes =
      subst (λ x. IsOnTime costless image x (Some hart) gone) (sym is) (
        goes.runs,
        λ unhurt. (ap Some (sym hart_is), subst (λ (h : HartState). IsNextAt (used gone + (next_event image h).now.done) gone.next) (sym hart_is) goes.next),
        goes.spent,
      )

same_useful : (at : ℕ) (restarted : Bool) (e : Spent) (c : Clock) (runs again : Bool) → c.runs ≡ runs → restarted ≡ again → IsSameUseful c.account (paid e (begun at restarted c)).account
same_useful at restarted e c true true is so = rw (is, so) (refl, refl)
same_useful at restarted e c true false is so = rw (is, so) (refl, refl)
same_useful at restarted e c false again is so = rw is (refl, refl)

-- it waits
waits_on_time : (costless : Bool) (image : LoadedImage) (u : Option CoreState) (held : Option HartState) (at : ℕ) (cause : Cause) (c : Clock) → c.next ≡ Due at → IsOnTime costless image u held c
    → IsOnTime costless image u held (record c { next = Waits at cause })
waits_on_time costless image None held at cause c due on = on
waits_on_time costless image (Some b) held at cause c due on = (on.0, λ unhurt. ((on.1 unhurt).0, next_at _ at c.next due (on.1 unhurt).1), on.2)

-- it leaves: its attempt took what it spent, one step for each instruction, and one to commit
left_busy : (at done : ℕ) (e : Spent) (c : Clock) → c.runs ≡ true → at ≡ used c + done → (left at e c).account.busy ≡ c.account.busy + done
left_busy at done e c runs on = rw runs (omega (arith, on))

left_spent : (at : ℕ) (e : Spent) (c : Clock) → c.runs ≡ true → total (left at e c).account.spent ≡ total c.account.spent + (total c.spent + total e + 1)
left_spent at e c runs = rw runs (omega arith)

idle_useful : (at : ℕ) (e : Spent) (c : Clock) → c.runs ≡ false → IsSameUseful c.account (left at e c).account
idle_useful at e c idle = rw idle (refl, refl)

was_time : (costless : Bool) (image : LoadedImage) (was : Option CoreState) (b : CoreState) (held : Option HartState) (at : ℕ) (c : Clock) → was ≡ Some b → b.hurt ≡ false → c.next ≡ Due at
    → IsOnTime costless image was held c → (c.runs ≡ true) × (at ≡ used c + (next_event image b.hart).now.done) × (costless ≡ true → total c.spent ≡ 1)
was_time costless image was b held at c is unhurt due on =
    let o = subst (λ x. IsOnTime costless image x held c) is on in (o.0, next_at _ at c.next due (o.1 unhurt).1, o.2)

-- ---- the clock of the one core that there is, where turns cost nothing

due_now : (at told : ℕ) (next : Next) → next ≡ Due at → IsDueAt told next → at ≡ told
due_now at told next is due = subst (IsDueAt told) is due

begun_busy : (at due : ℕ) (restarted : Bool) (e : Spent) (c : Clock) (runs again : Bool) → c.runs ≡ runs → restarted ≡ again → c.next ≡ Due at → IsNeverIdle c
    → IsNeverIdle (record (paid e (begun at restarted c)) { next = Due due })
begun_busy at due restarted e c true true is so next busy = rw (is, so) (record { idle = busy.idle; due = λ none. absurd (true≢false none) })
begun_busy at due restarted e c true false is so next busy = rw (is, so) (record { idle = busy.idle; due = λ none. absurd (true≢false none) })
begun_busy at due restarted e c false again is so next busy =
    let now = due_now at (told c) c.next next (busy.due is) in
    rw is (record { idle = omega (arith, busy.idle, now); due = λ none. absurd (true≢false none) })

waits_busy : (at : ℕ) (cause : Cause) (c : Clock) → c.runs ≡ true → IsNeverIdle c → IsNeverIdle (record c { next = Waits at cause })
waits_busy at cause c runs busy = record { idle = busy.idle; due = λ none. absurd (true≢false (sym runs ∙ none)) }

left_never_idle : (at : ℕ) (e : Spent) (c : Clock) → c.runs ≡ true → IsNeverIdle c → IsNeverIdle (record (left at e c) { next = Due (at + 1 + total e) })
left_never_idle at e c runs busy = rw runs (record { idle = busy.idle; due = λ none. omega arith })

over_idle : (at end : ℕ) (e : Spent) (c : Clock) → end ≡ at + 1 + total e → c.runs ≡ true → IsNeverIdle c → (sum_of no_steps (closed end (record (left at e c) { next = Gone })).account).idle ≡ 0
over_idle at end e c is runs busy = rw runs (omega (arith, busy.idle, is))

pub first_busy : IsNeverIdle first_clock
first_busy = record { idle = refl; due = λ none. refl }

-- ---- sums

sum_over-none : (f : Clock → ℕ) (clocks : ℕ → Clock) → sum_over f clocks 0 ≡ 0
unfolding sum_over
sum_over-none f clocks = refl

sum_over-more : (f : Clock → ℕ) (clocks : ℕ → Clock) (n : ℕ) → sum_over f clocks (suc n) ≡ sum_over f clocks n + f (clocks n)
unfolding sum_over
sum_over-more f clocks n = refl

same_sum : (f : Clock → ℕ) (old new : ℕ → Clock) (n : ℕ) → ((k : ℕ) → k < n → f (new k) ≡ f (old k)) → sum_over f new n ≡ sum_over f old n
same_sum f old new zero same = sum_over-none f new ∙ sym (sum_over-none f old)
same_sum f old new (suc n) same =
    let before = same_sum f old new n (λ k below. same k (omega (arith, below))) in
    omega (arith, before, same n (omega arith), sum_over-more f new n, sum_over-more f old n)

one_sum : (f : Clock → ℕ) (old new : ℕ → Clock) (core more n : ℕ) → ((k : ℕ) → k ≢ core → f (new k) ≡ f (old k)) → f (new core) ≡ f (old core) + more
    → core < n → sum_over f new n ≡ sum_over f old n + more
one_sum f old new core more zero same here below = absurd (omega (arith, below))
one_sum f old new core more (suc n) same here below = elim (cases_eq n core) [
  | inl is ↦
      let before = same_sum f old new n (λ k less. same k (λ e. omega (arith, less, e, is))) in
      let now : f (new n) ≡ f (old n) + more = subst (λ k. f (new k) ≡ f (old k) + more) (sym is) here in
      omega (arith, before, now, sum_over-more f new n, sum_over-more f old n)
  | inr other ↦
      let before = one_sum f old new core more n same here (omega (arith, below, other)) in
      omega (arith, before, same n other, sum_over-more f new n, sum_over-more f old n)
]

instructions_more : (image : LoadedImage) (n : ℕ) → instructions_in_order image (n + 1) ≡ instructions_in_order image n + epoch_count image n
unfolding instructions_in_order
instructions_more image n = rw add-one refl

instructions_none : (image : LoadedImage) → instructions_in_order image 0 ≡ 0
unfolding instructions_in_order
instructions_none image = refl

instructions_suc : (image : LoadedImage) (n : ℕ) → instructions_in_order image (suc n) ≡ instructions_in_order image n + epoch_count image n
unfolding instructions_in_order
instructions_suc image n = refl

steps_suc : (image : LoadedImage) (n : ℕ) → steps_in_order image (suc n) ≡ steps_in_order image n + (epoch_count image n + 2)
unfolding steps_in_order
steps_suc image n = refl

steps_none : (image : LoadedImage) → steps_in_order image 0 ≡ 0
unfolding steps_in_order
steps_none image = refl

-- the steps in order are the instructions, and two for each epoch
steps_are : (image : LoadedImage) (n : ℕ) → steps_in_order image n ≡ instructions_in_order image n + (n + n)
steps_are image zero = omega (arith, steps_none image, instructions_none image)
steps_are image (suc n) = omega (arith, steps_are image n, steps_suc image n, instructions_suc image n)

-- ---- the end of the run

closed_useful : (end : ℕ) (c : Clock) (runs : Bool) → (woken end c).runs ≡ runs → IsSameUseful c.account (closed end c).account
closed_useful end c true is = rw is (woken_useful end c c.next)
closed_useful end c false is = rw is (woken_useful end c c.next)

-- a part of an account that sums, and that the end of the run leaves
module _ (f : Account → ℕ) (none : f no_steps ≡ 0) (sums : (a b : Account) → f (sum_of a b) ≡ f a + f b) (closes : (end : ℕ) (c : Clock) → f (closed end c).account ≡ f c.account) where
  account_sum : (end : ℕ) (clocks : ℕ → Clock) (n : ℕ) → f (account_of end clocks n) ≡ sum_over (λ c. f c.account) clocks n
  account_sum end clocks zero = ap f (account_of-none end clocks) ∙ (none ∙ sym (sum_over-none (λ c. f c.account) clocks))
  account_sum end clocks (suc n) =
      let more : f (account_of end clocks (suc n)) ≡ f (account_of end clocks n) + f (closed end (clocks n)).account =
      ap (λ (k : ℕ). f (account_of end clocks k)) (suc_is n) ∙ (ap f (account_of-more end clocks n) ∙ sums (account_of end clocks n) (closed end (clocks n)).account) in
      omega (arith, more, account_sum end clocks n, closes end (clocks n), sum_over-more (λ c. f c.account) clocks n)
    where
      suc_is : (k : ℕ) → suc k ≡ k + 1
      suc_is k = omega arith

account_busy : (end : ℕ) (clocks : ℕ → Clock) (n : ℕ) → (account_of end clocks n).busy ≡ busy_of clocks n
account_busy end clocks n = account_sum (λ a. a.busy) refl (λ a b. refl) (λ e c. (closed_useful e c (woken e c).runs refl).0) end clocks n

account_spent : (end : ℕ) (clocks : ℕ → Clock) (n : ℕ) → total (account_of end clocks n).spent ≡ spent_of clocks n
account_spent end clocks n = account_sum (λ a. total a.spent) refl (λ a b. omega arith) (λ e c. ap total (closed_useful e c (woken e c).runs refl).1) end clocks n

-- ---- as a turn begins

module _ (costless : Bool) (image : LoadedImage) (due at : ℕ) (queues : Bool) (c : Clock) (is : c.next ≡ Due due) (before : due ≤ at) (calm : costless ≡ true → queues ≡ false) where
  late_by : (q : Bool) (core : CoreState) (held : Option HartState) → queues ≡ q → IsOnTime costless image (Some core) held c → IsOnTime costless image (Some core) held (late q due at c)
  late_by true core held so on = (
    on.0,
    λ unhurt. ((on.1 unhurt).0, omega (arith, next_at _ due c.next is (on.1 unhurt).1, before)),
    λ none. absurd (true≢false (sym so ∙ calm none)),
  )
  late_by false core held so on = (on.0, λ unhurt. ((on.1 unhurt).0, omega (arith, next_at _ due c.next is (on.1 unhurt).1, before)), on.2)

  late_runs : (q : Bool) → (late q due at c).runs ≡ c.runs
  late_runs true = refl
  late_runs false = refl

  late_time : (core : Option CoreState) (held : Option HartState) → IsOnTime costless image core held c → IsOnTime costless image core held (late queues due at c)
  late_time None held on = late_runs queues ∙ on
  late_time (Some core) held on = late_by queues core held refl on

  late_useful : (q : Bool) → IsSameUseful c.account (late q due at c).account
  late_useful true = (refl, refl)
  late_useful false = (refl, refl)

  late_busy : queues ≡ false → IsNeverIdle c → IsNeverIdle (late queues due at c)
  late_busy none busy = rw none (record { idle = busy.idle; due = λ idle. omega (arith, due_now due (told c) c.next is (busy.due idle), before) })

module _ (costless : Bool) (image : LoadedImage) (cores : ℕ) (s : FlatState) (p : Pace) (queues : Bool) (lates : ℕ → Clock) (t : Turn) (due : due_of (p.clocks t.core).next ≡ Some t.due)
    (before : t.due ≤ t.at) (calm : costless ≡ true → queues ≡ false) (each : (k : ℕ) → lates k ≡ late_clocks queues p.clocks t k) where
  own_due : (p.clocks t.core).next ≡ Due t.due
  own_due = due_is (p.clocks t.core).next t.due due

  lates_by : (P : ℕ → Clock → Type 0) → P t.core (late queues t.due t.at (p.clocks t.core)) → (k : ℕ) → P k (p.clocks k) → P k (lates k)
  lates_by P own k other = subst (P k) (sym (each k)) (elim (cases_eq k t.core) [
    | inl e ↦ subst (λ b. P k (cond b (late queues t.due t.at (p.clocks k)) (p.clocks k))) (sym (eq-eqb k t.core e)) (subst (λ j. P j (late queues t.due t.at (p.clocks j))) (sym e) own)
    | inr ne ↦ subst (λ b. P k (cond b (late queues t.due t.at (p.clocks k)) (p.clocks k))) (sym (ne_eqb k t.core ne)) other
  ])

  lates_useful : (k : ℕ) → IsSameUseful (p.clocks k).account (lates k).account
  lates_useful k = lates_by (λ j c. IsSameUseful (p.clocks j).account c.account) (late_useful costless image t.due t.at queues (p.clocks t.core) own_due before calm queues) k (refl, refl)

  pub late_on_time : t.core < cores → AreOnTime costless image cores s p → AreOnTime costless image cores s (record { held = p.held; clocks = lates; free = at_turn p.free t })
  late_on_time there on = record {
    going = on.going;
    each = λ k below. lates_by (λ j c. IsOnTime costless image (s.cores j) (p.held j) c)
        (late_time costless image t.due t.at queues (p.clocks t.core) own_due before calm (s.cores t.core) (p.held t.core) (on.each t.core there)) k (on.each k below);
    busy = same_sum (λ c. c.account.busy) p.clocks lates cores (λ k below. (lates_useful k).0) ∙ on.busy;
    spent = λ none. same_sum (λ c. total c.account.spent) p.clocks lates cores (λ k below. ap total (lates_useful k).1) ∙ on.spent none;
  }

  pub late_never_idle : queues ≡ false → IsNeverIdle (p.clocks 0) → IsNeverIdle (lates 0)
  late_never_idle none busy = subst IsNeverIdle (sym (each 0)) (by_first (0 == t.core) refl)
    where
      by_first : (here : Bool) → (0 == t.core) ≡ here → IsNeverIdle (cond here (late queues t.due t.at (p.clocks 0)) (p.clocks 0))
      by_first true is =
          late_busy costless image t.due t.at queues (p.clocks 0) (due_is (p.clocks 0).next t.due (subst (λ k. due_of (p.clocks k).next ≡ Some t.due) (sym (eqb-true 0 t.core is)) due)) before calm none
          busy
      by_first false is = busy

-- ---- a whole turn

-- what is in hand and the clocks after a turn of a core that was due as it began
abbrev pub paced : {S : Type 0} → Driver S → Driver S → Pace → Turn → Answer → Pace
paced old new p t answer = record {
  held = with_held p.held t.core (held_after answer (p.held t.core));
  clocks = clocks_after old new p.clocks t answer;
  free = free_after p.free t.at t.price answer;
}

module _ {S : Type 0} (costless : Bool) (image : LoadedImage) (cores : ℕ) (s u : FlatState) (p : Pace) (old mid : Driver S) (t : Turn) (same_image : old.book.image ≡ image) (there : t.core < cores)
    (due : due_of (p.clocks t.core).next ≡ Some t.at) (free : costless ≡ true → total t.price.spent ≡ 0) (on : AreOnTime costless image cores s p) where
  abbrev clock : Clock
  clock = p.clocks t.core

  abbrev e : Spent
  e = t.price.spent

  is_due : clock.next ≡ Due t.at
  is_due = due_is clock.next t.at due

  own_time : IsOnTime costless image (s.cores t.core) (p.held t.core) clock
  own_time = on.each t.core there

  abbrev answers : Answer → Clock
  answers answer = answered t.at (restarts old mid) (executed_by old.book.image answer) e answer clock

  abbrev turned : Answer → ℕ → Clock
  turned answer k = cond (k == t.core) (answered t.at (restarts old mid) (executed_by old.book.image answer) e answer (p.clocks k)) (p.clocks k)

  own_turned : (answer : Answer) → turned answer t.core ≡ answers answer
  own_turned answer = rw (eq-eqb t.core t.core refl) refl

  other_turned : (answer : Answer) (k : ℕ) → k ≢ t.core → turned answer k ≡ p.clocks k
  other_turned answer k other = rw (ne_eqb k t.core other) refl

  own_held : (now : Option HartState) → with_held p.held t.core now t.core ≡ now
  own_held now = rw (eq-eqb t.core t.core refl) refl

  other_held : (now : Option HartState) (k : ℕ) → k ≢ t.core → with_held p.held t.core now k ≡ p.held k
  other_held now k other = rw (ne_eqb k t.core other) refl

  -- each core after the turn, but for the wake
  turned_each : (answer : Answer) → ((k : ℕ) → k ≢ t.core → Moves (s.cores k) (u.cores k))
      → IsOnTime costless image (u.cores t.core) (held_after answer (p.held t.core)) (answers answer)
      → (k : ℕ) → k < cores → IsOnTime costless image (u.cores k) (with_held p.held t.core (held_after answer (p.held t.core)) k) (turned answer k)
  turned_each answer others own k below = elim (cases_eq k t.core) [
    | inl e ↦ subst (λ j. IsOnTime costless image (u.cores j) (with_held p.held t.core (held_after answer (p.held t.core)) j) (turned answer j)) (sym e)
        (subst (λ c. IsOnTime costless image (u.cores t.core) (with_held p.held t.core (held_after answer (p.held t.core)) t.core) c) (sym (own_turned answer))
        (subst (λ h. IsOnTime costless image (u.cores t.core) h (answers answer)) (sym (own_held (held_after answer (p.held t.core)))) own))
    | inr other ↦ subst (λ c. IsOnTime costless image (u.cores k) (with_held p.held t.core (held_after answer (p.held t.core)) k) c) (sym (other_turned answer k other))
        (subst (λ h. IsOnTime costless image (u.cores k) h (p.clocks k)) (sym (other_held (held_after answer (p.held t.core)) k other))
        (moved costless image (s.cores k) (u.cores k) (p.held k) (p.clocks k) (others k other) (on.each k below)))
  ]

  turned_sum : (f : Clock → ℕ) (answer : Answer) (more : ℕ) → f (answers answer) ≡ f clock + more → sum_over f (turned answer) cores ≡ sum_over f p.clocks cores + more
  turned_sum f answer more own =
      one_sum f p.clocks (turned answer) t.core more cores (λ k other. ap f (other_turned answer k other)) (ap f (own_turned answer) ∙ own) there

  no_others : u ≡ s → (k : ℕ) → k ≢ t.core → Moves (s.cores k) (u.cores k)
  no_others same k other =
      let is = ap (λ (x : FlatState). x.cores k) same in record { idle = λ none. sym is ∙ none; runs = λ d at. (d, sym is ∙ at, λ unhurt. refl, refl) }

  -- what was busy and spent, of the epochs up to this one
  record AreCounted (answer : Answer) (n : ℕ) : Type 0 where
    busy : busy_of (turned answer) cores ≡ instructions_in_order image n
    spent : costless ≡ true → spent_of (turned answer) cores ≡ n + n

  record TurnedOn (answer : Answer) : Type 0 where
    each : (k : ℕ) → k < cores → IsOnTime costless image (u.cores k) (with_held p.held t.core (held_after answer (p.held t.core)) k) (turned answer k)
    counted : AreCounted answer u.homefree
    going : (u.end ≡ None) ⊎ (u.homefree ≡ 0)

  same_going : u ≡ s → (u.end ≡ None) ⊎ (u.homefree ≡ 0)
  same_going same = subst (λ (x : FlatState). (x.end ≡ None) ⊎ (x.homefree ≡ 0)) (sym same) on.going

  still_counted : (answer : Answer) → u.homefree ≡ s.homefree → IsSameUseful clock.account (answers answer).account → AreCounted answer u.homefree
  still_counted answer homefree own = record {
    busy = turned_sum (λ c. c.account.busy) answer 0 (own.0 ∙ sym (add-zero _)) ∙ (add-zero _ ∙ (on.busy ∙ ap (instructions_in_order image) (sym homefree)));
    spent = λ none. turned_sum (λ c. total c.account.spent) answer 0 (ap total own.1 ∙ sym (add-zero _)) ∙ (add-zero _ ∙ (on.spent none ∙ ap (λ n. n + n) (sym homefree)));
  }

  goes : (hart : HartState) → GoesTo image s u t.core (p.held t.core) (restarts old mid) hart → TurnedOn (Go hart)
  goes hart g =
      let executes : executed_by old.book.image (Go hart) ≡ (next_event image hart).now.done - hart.done = ap (λ i. (next_event i hart).now.done - hart.done) same_image in
      let is : answers (Go hart) ≡ gone_on image t.at (restarts old mid) e hart clock = ap (λ n. answered t.at (restarts old mid) n e (Go hart) clock) executes in
      record {
        each = turned_each (Go hart) g.others (subst (λ c. IsOnTime costless image (u.cores t.core) (Some hart) c) (sym is)
            (goes_on_time costless image t.at (restarts old mid) e hart clock free (u.cores t.core) g.now g.runs g.hart_is
            (goes_by costless image t.at (restarts old mid) e hart clock free (s.cores t.core) (p.held t.core) is_due g.from own_time)));
        counted = still_counted (Go hart) g.homefree (same_useful t.at (restarts old mid) e clock clock.runs (restarts old mid) refl refl);
        going = inl g.going;
      }

  waits : (cause : Cause) → u ≡ s → waits_for cause t.at clock ≡ record clock { next = Waits t.at cause } → TurnedOn (Again cause)
  waits cause same is = record {
    each = turned_each (Again cause) (no_others same) (subst (λ c. IsOnTime costless image (u.cores t.core) (p.held t.core) c) (sym is)
        (subst (λ (x : FlatState). IsOnTime costless image (x.cores t.core) (p.held t.core) (record clock { next = Waits t.at cause })) (sym same)
        (waits_on_time costless image (s.cores t.core) (p.held t.core) t.at cause clock is_due own_time)));
    counted = still_counted (Again cause) (ap (λ (x : FlatState). x.homefree) same) (ap (λ (c : Clock). c.account.busy) is, ap (λ (c : Clock). c.account.spent) is);
    going = same_going same;
  }

  stops : s.cores t.core ≡ None → u ≡ s → TurnedOn (Again NoEpoch)
  stops idle same = record {
    each = turned_each (Again NoEpoch) (no_others same)
        (subst (λ (x : FlatState). IsOnTime costless image (x.cores t.core) (p.held t.core) (record clock { next = Gone })) (sym same)
        (subst (λ o. IsOnTime costless image o (p.held t.core) (record clock { next = Gone })) (sym idle) (subst (λ o. IsOnTime costless image o (p.held t.core) clock) idle own_time)));
    counted = still_counted (Again NoEpoch) (ap (λ (x : FlatState). x.homefree) same) (refl, refl);
    going = same_going same;
  }

  commits : (answer : Answer) → Leaves image s u t.core → (answers answer).account ≡ (left t.at e clock).account → AreCounted answer u.homefree
  commits answer l is =
      let was = was_time costless image (s.cores t.core) l.was (p.held t.core) t.at clock l.runs l.unhurt is_due own_time in
      let own = ap (λ (a : Account). a.busy) is ∙ left_busy t.at (next_event image l.was.hart).now.done e clock was.0 was.1 in
      let more = turned_sum (λ c. c.account.busy) answer (next_event image l.was.hart).now.done own in
      let all : busy_of (turned answer) cores ≡ instructions_in_order image (s.homefree + 1) = omega (arith, more, on.busy, instructions_more image s.homefree, l.count) in
      record {
        busy = all ∙ ap (instructions_in_order image) (sym l.homefree);
        spent = λ none.
            let spent = ap (λ (a : Account). total a.spent) is ∙ left_spent t.at e clock was.0 in
            let also = turned_sum (λ c. total c.account.spent) answer (total clock.spent + total e + 1) spent in
            omega (arith, also, on.spent none, was.2 none, free none, l.homefree);
      }

  leaves_it : u.end ≡ None → Leaves image s u t.core → TurnedOn Left
  leaves_it still l = record {
    each = turned_each Left l.others (subst (λ o. IsOnTime costless image o None (answers Left)) (sym l.idle) refl);
    counted = commits Left l refl;
    going = inl still;
  }

  comes_by : (answer : Answer) → ((end : End) → answer ≢ Over end) → Came image s u t.core (p.held t.core) (restarts old mid) answer → ((cause : StopCause) → answer ≢ Stopped cause) → TurnedOn answer
  comes_by (Go hart) going came unstopped = goes hart came
  comes_by (Again NoEpoch) going came unstopped = stops came.idle came.same
  comes_by (Again NotHomefree) going came unstopped = waits NotHomefree came.same refl
  comes_by (Again NoWay) going came unstopped = waits NoWay came.same refl
  comes_by (Again OrbFull) going came unstopped = waits OrbFull came.same refl
  comes_by (Again OrbBusy) going came unstopped = waits OrbBusy came.same refl
  comes_by Left going came unstopped = leaves_it came.0 came.1
  comes_by (Over end) going came unstopped = absurd (going end refl)
  comes_by (Stopped cause) going came unstopped = absurd (unstopped cause refl)

  -- and the wake
  woken_each : (answer : Answer) (k : ℕ) (core : Option CoreState) (held : Option HartState) (clocks : ℕ → Clock) → IsWaitBefore t.at (clocks k).next → IsOnTime costless image core held (clocks k)
      → IsOnTime costless image core held (woken_by answer t.at clocks k)
  woken_each (Go hart) k core held clocks before is = woken_time costless image core held t.at (clocks k) before is
  woken_each (Again cause) k core held clocks before is = is
  woken_each Left k core held clocks before is = woken_time costless image core held t.at (clocks k) before is
  woken_each (Over end) k core held clocks before is = is
  woken_each (Stopped cause) k core held clocks before is = is

  woken_by_useful : (answer : Answer) (k : ℕ) (clocks : ℕ → Clock) → IsSameUseful (clocks k).account (woken_by answer t.at clocks k).account
  woken_by_useful (Go hart) k clocks = woken_useful t.at (clocks k) (clocks k).next
  woken_by_useful (Again cause) k clocks = (refl, refl)
  woken_by_useful Left k clocks = woken_useful t.at (clocks k) (clocks k).next
  woken_by_useful (Over end) k clocks = (refl, refl)
  woken_by_useful (Stopped cause) k clocks = (refl, refl)

  pub turn_on_time : (answer : Answer) → ((end : End) → answer ≢ Over end) → ((cause : StopCause) → answer ≢ Stopped cause)
      → Came image s u t.core (p.held t.core) (restarts old mid) answer → ((k : ℕ) → k < cores → IsWaitBefore t.at (turned answer k).next)
      → AreOnTime costless image cores u (paced old mid p t answer)
  turn_on_time answer going unstopped came before =
      let is = comes_by answer going came unstopped in record {
        each = λ k below. woken_each answer k (u.cores k) _ (turned answer) (before k below) (is.each k below);
        busy = same_sum (λ c. c.account.busy) (turned answer) (clocks_after old mid p.clocks t answer) cores (λ k below. (woken_by_useful answer k (turned answer)).0) ∙ is.counted.busy;
        spent = λ none. same_sum (λ c. total c.account.spent) (turned answer) (clocks_after old mid p.clocks t answer) cores (λ k below. ap total (woken_by_useful answer k (turned answer)).1)
            ∙ is.counted.spent none;
        going = is.going;
      }

  -- the loop is done
  over_by : (n : ℕ) → (u.homefree ≡ n) × (Leaves image s u t.core ⊎ WasOver s u t.core n) → AreCounted (Over (Done n)) n
  over_by n came = subst (AreCounted (Over (Done n))) came.0 (elim came.1 [
    | inl l ↦ commits (Over (Done n)) l refl
    | inr w ↦ still_counted (Over (Done n)) w.homefree (idle_useful t.at e clock (subst (λ o. IsOnTime costless image o (p.held t.core) clock) w.idle own_time))
  ])

  module _ (n end : ℕ) (clocks' : ℕ → Clock) (account : Account) (came : Came image s u t.core (p.held t.core) (restarts old mid) (Over (Done n)))
      (are : (k : ℕ) → clocks' k ≡ clocks_after old mid p.clocks t (Over (Done n)) k) (sum : account ≡ account_of end clocks' cores) where
    pub over_busy : account.busy ≡ instructions_in_order image n
    over_busy =
        ap (λ (a : Account). a.busy) sum ∙ (account_busy end clocks' cores
        ∙ (same_sum (λ c. c.account.busy) (turned (Over (Done n))) clocks' cores (λ k below. ap (λ (c : Clock). c.account.busy) (are k)) ∙ (over_by n came).busy))

    pub over_useful : costless ≡ true → useful_in account ≡ steps_in_order image n
    over_useful none =
        let spent : total account.spent ≡ n + n =
        ap (λ (a : Account). total a.spent) sum ∙ (account_spent end clocks' cores
        ∙ (same_sum (λ c. total c.account.spent) (turned (Over (Done n))) clocks' cores (λ k below. ap (λ (c : Clock). total c.account.spent) (are k)) ∙ (over_by n came).spent none)) in
        omega (arith, over_busy, spent, steps_are image n)

  -- ---- the one core that there is

  runs_on : (b : CoreState) → s.cores t.core ≡ Some b → b.hurt ≡ false → clock.runs ≡ true
  runs_on b is unhurt = (was_time costless image (s.cores t.core) b (p.held t.core) t.at clock is unhurt is_due own_time).0

  stays_busy : (cause : Cause) → StaysAt s u t.core → IsNeverIdle clock → waits_for cause t.at clock ≡ record clock { next = Waits t.at cause } → IsNeverIdle (waits_for cause t.at clock)
  stays_busy cause l busy is = subst IsNeverIdle (sym is) (waits_busy t.at cause clock (runs_on l.was l.runs l.unhurt) busy)

  own_busy : (answer : Answer) → ((end : End) → answer ≢ Over end) → Came image s u t.core (p.held t.core) (restarts old mid) answer → IsNeverIdle clock
      → IsNeverIdle (woken_by answer t.at (λ _. answers answer) t.core)
  own_busy (Go hart) going came busy =
      begun_busy t.at (t.at + 1 + total e + executed_by old.book.image (Go hart)) (restarts old mid) e clock clock.runs (restarts old mid) refl refl is_due busy
  own_busy (Again NoEpoch) going came busy = record { idle = busy.idle; due = λ none. tt }
  own_busy (Again NotHomefree) going came busy = stays_busy NotHomefree came busy refl
  own_busy (Again NoWay) going came busy = stays_busy NoWay came busy refl
  own_busy (Again OrbFull) going came busy = stays_busy OrbFull came busy refl
  own_busy (Again OrbBusy) going came busy = stays_busy OrbBusy came busy refl
  own_busy Left going came busy = left_never_idle t.at e clock (runs_on came.1.was came.1.runs came.1.unhurt) busy
  own_busy (Over end) going came busy = absurd (going end refl)
  own_busy (Stopped cause) going came busy = busy

  busy_by : (answer : Answer) (k : ℕ) (f g : ℕ → Clock) → f k ≡ g k → woken_by answer t.at f k ≡ woken_by answer t.at g k
  busy_by (Go hart) k f g same = ap (woken t.at) same
  busy_by (Again cause) k f g same = same
  busy_by Left k f g same = ap (woken t.at) same
  busy_by (Over end) k f g same = same
  busy_by (Stopped cause) k f g same = same

  pub turn_busy : (answer : Answer) → ((end : End) → answer ≢ Over end) → Came image s u t.core (p.held t.core) (restarts old mid) answer → IsNeverIdle clock
      → IsNeverIdle (clocks_after old mid p.clocks t answer t.core)
  turn_busy answer going came busy =
      subst IsNeverIdle (sym (busy_by answer t.core (turned answer) (λ _. answers answer) (own_turned answer))) (own_busy answer going came busy)

  -- the loop wasn't done before, where it has an epoch
  wasnt_over : (n : ℕ) → u.homefree ≡ suc n → WasOver s u t.core (suc n) → ⊥
  wasnt_over n is w = elim on.going [
    | inl none ↦ none_and_some s.end (Done (suc n)) none w.over
    | inr first ↦ omega (arith, is, w.homefree, first)
  ]

  over_runs : (n : ℕ) → Came image s u t.core (p.held t.core) (restarts old mid) (Over (Done (suc n))) → clock.runs ≡ true
  over_runs n came = elim came.1 [
    | inl l ↦ runs_on l.was l.runs l.unhurt
    | inr w ↦ absurd (wasnt_over n came.0 w)
  ]

  pub over_never_idle : (n end : ℕ) (clocks' : ℕ → Clock) (account : Account) → Came image s u t.core (p.held t.core) (restarts old mid) (Over (Done (suc n))) → IsNeverIdle clock
      → end ≡ t.at + 1 + total e → t.core ≡ 0 → cores ≡ 1 → ((k : ℕ) → clocks' k ≡ clocks_after old mid p.clocks t (Over (Done (suc n))) k) → account ≡ account_of end clocks' cores
      → account.idle ≡ 0
  over_never_idle n end clocks' account came busy is first one are sum =
      let now = answers (Over (Done (suc n))) in
      let own : clocks' 0 ≡ now = ap clocks' (sym first) ∙ (are t.core ∙ own_turned (Over (Done (suc n)))) in
      let all : account ≡ sum_of no_steps (closed end now).account =
      sum ∙ (ap (account_of end clocks') one ∙ (account_one end clocks' ∙ ap (λ c. sum_of no_steps (closed end c).account) own)) in
      ap (λ (a : Account). a.idle) all ∙ over_idle t.at end e clock is (over_runs n came) busy

-- ---- the start of the run

first_sum : (f : Clock → ℕ) (n : ℕ) → f first_clock ≡ 0 → sum_over f (λ _. first_clock) n ≡ 0
first_sum f zero none = sum_over-none f (λ _. first_clock)
first_sum f (suc n) none = omega (arith, first_sum f n none, sum_over-more f (λ _. first_clock) n, none)

pub first_on_time : (costless : Bool) (image : LoadedImage) (cores : ℕ) (history : List Entry) (s : FlatState) → history ≡ [] → replay image cores history ≡ Some s
    → AreOnTime costless image cores s at_first
first_on_time costless image cores history s none replays =
    let is : first_state image ≡ s = first_is (sym (no_entries image cores) ∙ (ap (replay image cores) (sym none) ∙ replays)) in
    subst (λ x. AreOnTime costless image cores x at_first) is (record {
      each = λ k below. refl;
      busy = first_sum (λ c. c.account.busy) cores refl ∙ sym (instructions_none image);
      spent = λ none. first_sum (λ c. total c.account.spent) cores refl;
      going = inr refl;
    })
  where
    first_is : Some (first_state image) ≡ Some s → first_state image ≡ s
    first_is e = cc

pub start_on_time : (costless : Bool) (image : LoadedImage) (cores : ℕ) (history : List Entry) (s : FlatState) (p : Pace) → history ≡ [] → replay image cores history ≡ Some s → p ≡ at_first
    → AreOnTime costless image cores s p
start_on_time costless image cores history s p none replays is =
    subst (λ q. AreOnTime costless image cores s q) (sym is) (first_on_time costless image cores history s none replays)

-- ---- along a run

abbrev pub Timed : {S : Type 0} → Bool → BookView S → Pace → Type 0
Timed costless b p = (s : FlatState) × (replay b.image b.cores b.history ≡ Some s) × AreOnTime costless b.image b.cores s p

-- as a turn begins
pub late_timed : {S : Type 0} (costless : Bool) (b : BookView S) (p : Pace) (queues : Bool) (lates : ℕ → Clock) (t : Turn) → due_of (p.clocks t.core).next ≡ Some t.due → t.due ≤ t.at
    → (costless ≡ true → queues ≡ false) → ((k : ℕ) → lates k ≡ late_clocks queues p.clocks t k) → t.core < b.cores → Timed costless b p
    → Timed costless b (record { held = p.held; clocks = lates; free = at_turn p.free t })
late_timed costless b p queues lates t due before calm each there timed =
    (timed.0, timed.1, late_on_time costless b.image b.cores timed.0 p queues lates t due before calm each there timed.2)

same_book : {S : Type 0} (costless : Bool) (old new : BookView S) (s : FlatState) (p : Pace) → IsOfSameLoop old new → AreOnTime costless old.image old.cores s p → AreOnTime costless new.image new.cores s p
same_book costless old new s p same on = rw (same.image, same.cores) on

module _ {S : Type 0} (costless : Bool) (old mid : Driver S) (p : Pace) (t : Turn) (same : IsOfSameLoop old.book mid.book) (first : IsTurnOf p.clocks old.book.cores t)
    (free : costless ≡ true → total t.price.spent ≡ 0) (timed : Timed costless old.book p) where
  here : (result : Result Answer TurnFault) (l : Leads old mid t.core (p.held t.core) result) → AreOnTime costless old.book.image old.book.cores l.before p
  here result l =
      subst (λ x. AreOnTime costless old.book.image old.book.cores x p)
      (one_value (replay old.book.image old.book.cores old.book.history) timed.0 l.before timed.1 l.led) timed.2

  pub timed_on : (answer : Answer) (p' : Pace) → Leads old mid t.core (p.held t.core) (Ok answer) → ((end : End) → answer ≢ Over end) → ((cause : StopCause) → answer ≢ Stopped cause)
      → ((k : ℕ) → p'.held k ≡ with_held p.held t.core (held_after answer (p.held t.core)) k) → ((k : ℕ) → p'.clocks k ≡ clocks_after old mid p.clocks t answer k)
      → p'.free ≡ free_after p.free t.at t.price answer
      → ((k : ℕ) → k < old.book.cores
      → IsWaitBefore t.at (cond (k == t.core) (answered t.at (restarts old mid) (executed_by old.book.image answer) t.price.spent answer (p.clocks k)) (p.clocks k)).next)
      → Timed costless mid.book p'
  timed_on answer p' l going unstopped held_is clocks_are free_is before =
      let held_path = fun_ext held_is in
      let clocks_path = fun_ext clocks_are in
      let same_pace : p' ≡ paced old mid p t answer = λ i. record { held = held_path i; clocks = clocks_path i; free = free_is i } in (
        l.after,
        l.leads,
        same_book costless old.book mid.book l.after p' same (subst (λ q. AreOnTime costless old.book.image old.book.cores l.after q) (sym same_pace)
            (turn_on_time costless old.book.image old.book.cores l.before l.after p old mid t refl first.core first.due free (here (Ok answer) l) answer going unstopped l.came before)),
      )

  module _ (end : End) (n steps : ℕ) (clocks' : ℕ → Clock) (account : Account) (l : Leads old mid t.core (p.held t.core) (Ok (Over end))) (is : end ≡ Done n)
      (are : (k : ℕ) → clocks' k ≡ clocks_after old mid p.clocks t (Over end) k) (sum : account ≡ account_of steps clocks' old.book.cores) where
    done : Leads old mid t.core (p.held t.core) (Ok (Over (Done n)))
    done = subst (λ e. Leads old mid t.core (p.held t.core) (Ok (Over e))) is l

    done_are : (k : ℕ) → clocks' k ≡ clocks_after old mid p.clocks t (Over (Done n)) k
    done_are k = are k ∙ ap (λ e. clocks_after old mid p.clocks t (Over e) k) is

    pub busy_timed : account.busy ≡ instructions_in_order old.book.image n
    busy_timed =
        over_busy costless old.book.image old.book.cores done.before done.after p old mid t refl first.core first.due free (here (Ok (Over (Done n))) done) n steps clocks' account done.came done_are sum

    pub over_timed : costless ≡ true → useful_in account ≡ steps_in_order old.book.image n
    over_timed =
        over_useful costless old.book.image old.book.cores done.before done.after p old mid t refl first.core first.due free (here (Ok (Over (Done n))) done) n steps clocks' account done.came done_are sum

  pub busy_on : (answer : Answer) (p' : Pace) → Leads old mid t.core (p.held t.core) (Ok answer) → ((end : End) → answer ≢ Over end)
      → ((k : ℕ) → p'.clocks k ≡ clocks_after old mid p.clocks t answer k) → t.core ≡ 0 → IsNeverIdle (p.clocks 0) → IsNeverIdle (p'.clocks 0)
  busy_on answer p' l going clocks_are at_zero busy =
      let own = turn_busy costless old.book.image old.book.cores l.before l.after p old mid t refl first.core first.due free (here (Ok answer) l) answer going l.came
      (subst (λ k. IsNeverIdle (p.clocks k)) (sym at_zero) busy) in
      subst (λ k. IsNeverIdle (p'.clocks k)) at_zero (subst IsNeverIdle (sym (clocks_are t.core)) own)

  pub over_steps : (end : End) (n steps : ℕ) (clocks' : ℕ → Clock) (account : Account) → Leads old mid t.core (p.held t.core) (Ok (Over end)) → end ≡ Done (suc n)
      → ((k : ℕ) → clocks' k ≡ clocks_after old mid p.clocks t (Over end) k) → account ≡ account_of steps clocks' old.book.cores → costless ≡ true → steps ≡ t.at + 1 + total t.price.spent
      → t.core ≡ 0 → old.book.cores ≡ 1 → IsNeverIdle (p.clocks 0) → WastesNone account → account.held ≡ 0 → steps_of account ≡ 1 * steps → steps ≡ steps_in_order old.book.image (suc n)
  over_steps end n steps clocks' account l is are sum none last at_zero one busy wastes unheld whole =
      let d = done end (suc n) steps clocks' account l is are sum in
      let idle = over_never_idle costless old.book.image old.book.cores d.before d.after p old mid t refl first.core first.due free (here (Ok (Over (Done (suc n)))) d) n steps clocks' account d.came
      (subst (λ k. IsNeverIdle (p.clocks k)) (sym at_zero) busy) last at_zero one (done_are end (suc n) steps clocks' account l is are sum) sum in
      let useful = over_timed end (suc n) steps clocks' account l is are sum none in
      omega (arith, idle, useful, wastes.lost, wastes.dropped, wastes.waiting, unheld, whole)
