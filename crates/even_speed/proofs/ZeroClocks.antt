-- Clocks of two runs with the same turns, at no cost: where the first tells a core that is late as in a queue, the second tells it as held.
use Rattle.std.proofs.Common.{◌≡◌, ℕ, zero, suc, ◌+◌, ◌-◌, ◌≤◌, Bool, true, false, cond, refl, sym, ap, subst, ◌∙◌, arith, true≢false}
use Rattle.homefree.specs.declared.answer.Answer.{Answer}
use Rattle.homefree.specs.declared.answer.Answer.TheVariants.{Go, Again, Left, Over, Stopped}
use Rattle.homefree.specs.declared.answer.Cause.{Cause}
use Rattle.homefree.specs.declared.answer.Cause.TheVariants.{NoEpoch, NotHomefree, NoWay, OrbFull, OrbBusy}
use Rattle.even_speed.specs.declared.account.Account.{Account}
use Rattle.even_speed.specs.declared.account.Spent.{Spent}
use Rattle.even_speed.specs.declared.clock.Clock.{Clock}
use Rattle.even_speed.specs.declared.clock.Next.{Next}
use Rattle.even_speed.specs.declared.clock.Next.TheVariants.{Due, Waits, Gone}
use Rattle.even_speed.specs.Account.{no_steps, nothing_spent, one_more, sum_of, total, useful_in, with_idle, with_useful, with_waited}
use Rattle.even_speed.specs.Clocks.{account_of, answered, begun, closed, dropped, ended, late, left, paid, parted, steps_to, waits_for, woken, woken_from}
use Rattle.even_speed.specs.Kept.{told}
use Rattle.even_speed.specs.ZeroCosts.{AreOneAccount, but_for_late}

-- a clock without what the two tell in two ways
abbrev pub but_for_wait : Clock → Clock
but_for_wait c = record c { waited = 0; spent = record c.spent { queue = 0 }; account = but_for_late c.account }

-- what the first tells as its attempt's queue, the second tells as waited and held; who runs no attempt wasn't late
pub record AreAlike (queues : Bool) (c d : Clock) : Type 0 where
  pub rest : but_for_wait c ≡ but_for_wait d
  pub waited : d.waited ≡ c.waited + c.spent.queue
  pub idle : c.runs ≡ false → c.spent.queue ≡ 0
  pub queue : d.spent.queue ≡ 0
  pub none_held : queues ≡ true → c.account.held ≡ 0
  pub none_queues : d.account.spent.queue ≡ 0
  pub late : c.account.spent.queue + c.account.lost + c.account.dropped + c.account.held + c.spent.queue ≡ d.account.lost + d.account.dropped + d.account.held
  pub lost : d.account.lost ≤ c.account.lost
  pub dropped : d.account.dropped ≤ c.account.dropped

pub runs_alike : (queues : Bool) (c d : Clock) → AreAlike queues c d → d.runs ≡ c.runs
runs_alike queues c d a = sym (ap (λ (x : Clock). x.runs) a.rest)

pub next_alike : (queues : Bool) (c d : Clock) → AreAlike queues c d → d.next ≡ c.next
next_alike queues c d a = sym (ap (λ (x : Clock). x.next) a.rest)

-- ---- a turn begins

pub late_alike : (queues : Bool) (due at : ℕ) (c d : Clock) → (c.runs ≡ false → at - due ≡ 0) → AreAlike queues c d → AreAlike queues (late queues due at c) (late false due at d)
late_alike true due at c d soon a = record {
  rest = ap (λ (x : Clock). record x { next = Due at }) a.rest;
  waited = omega (arith, a.waited);
  idle = λ none. omega (arith, a.idle none, soon none);
  queue = a.queue;
  none_held = a.none_held;
  none_queues = a.none_queues;
  late = omega (arith, a.late);
  lost = a.lost;
  dropped = a.dropped;
}
late_alike false due at c d soon a = record {
  rest = ap (λ (x : Clock). record x { next = Due at }) a.rest;
  waited = omega (arith, a.waited);
  idle = a.idle;
  queue = a.queue;
  none_held = λ is. absurd (true≢false (sym is));
  none_queues = a.none_queues;
  late = omega (arith, a.late);
  lost = a.lost;
  dropped = a.dropped;
}

-- where it isn't late, both tell the same
pub late_same : (queues : Bool) (due at : ℕ) (c : Clock) → at - due ≡ 0 → late queues due at c ≡ late false due at c
late_same true due at c none = λ i. record c {
  next = Due at;
  waited = waited i;
  spent = record c.spent { queue = queue i };
  account = record c.account { held = held i };
}
  where
    waited : c.waited ≡ c.waited + (at - due)
    waited = omega (arith, none)

    queue : c.spent.queue + (at - due) ≡ c.spent.queue
    queue = omega (arith, none)

    held : c.account.held ≡ c.account.held + (at - due)
    held = omega (arith, none)
late_same false due at c none = refl

-- ---- a clock whose next turn is set, or that pays nothing more

next_set : (queues : Bool) (next : Next) (c d : Clock) → AreAlike queues c d → AreAlike queues (record c { next = next }) (record d { next = next })
next_set queues next c d a = record {
  rest = ap (λ (x : Clock). record x { next = next }) a.rest;
  waited = a.waited;
  idle = a.idle;
  queue = a.queue;
  none_held = a.none_held;
  none_queues = a.none_queues;
  late = a.late;
  lost = a.lost;
  dropped = a.dropped;
}

-- so much handling is paid
paid_alike : (queues : Bool) (n : ℕ) (c d : Clock) → AreAlike queues c d
    → AreAlike queues (paid (record { handling = n; memory = 0; queue = 0 }) c) (paid (record { handling = n; memory = 0; queue = 0 }) d)
paid_alike queues n c d a = record {
  rest = ap (λ (x : Clock). but_for_wait (paid (record { handling = n; memory = 0; queue = 0 }) x)) a.rest;
  waited = omega (arith, a.waited);
  idle = λ none. omega (arith, a.idle none);
  queue = omega (arith, a.queue);
  none_held = a.none_held;
  none_queues = a.none_queues;
  late = omega (arith, a.late);
  lost = a.lost;
  dropped = a.dropped;
}

-- ---- an attempt begins and ends

-- the steps of who runs no attempt
idle_steps : (queues : Bool) (end : ℕ) (c d : Clock) → c.runs ≡ false → AreAlike queues c d → steps_to end c ≡ steps_to end d
idle_steps queues end c d none a =
    let since : c.since ≡ d.since = ap (λ (x : Clock). x.since) a.rest in
    omega (arith, a.idle none, a.waited, since)

-- it parts from what it did, of which these are no steps of an attempt
parted_idle : (queues runs : Bool) (at steps steps' : ℕ) (spent : Spent) (c d : Clock) → spent.queue ≡ 0 → c.spent.queue ≡ 0 → steps ≡ steps' → AreAlike queues c d
    → AreAlike queues (parted at runs spent (with_idle steps c.account) c) (parted at runs spent (with_idle steps' d.account) d)
parted_idle queues runs at steps steps' spent c d none no_queue is a = record {
  rest = λ i. but_for_wait (parted at runs spent (with_idle (is i) (a.rest i).account) (a.rest i));
  waited = omega (arith, none);
  idle = λ idle. none;
  queue = none;
  none_held = a.none_held;
  none_queues = a.none_queues;
  late = omega (arith, a.late, none, no_queue);
  lost = a.lost;
  dropped = a.dropped;
}

-- it begins, where it had no epoch
abbrev first_begun : ℕ → Clock → Clock
first_begun at c = parted at true (one_more nothing_spent) (with_idle (steps_to at c) c.account) c

begun_alike : (queues restarted runs : Bool) (at : ℕ) (c d : Clock) → c.runs ≡ runs → told d ≤ at → AreAlike queues c d
    → AreAlike queues (begun at restarted c) (begun at restarted d)
begun_alike queues true true at c d is before a =
    let since : c.since ≡ d.since = ap (λ (x : Clock). x.since) a.rest in
    rw (is, runs_alike queues c d a ∙ is) (record {
      rest = ap (λ (x : Clock). but_for_wait (parted at true (one_more nothing_spent) x.account x)) a.rest;
      waited = refl;
      idle = λ idle. refl;
      queue = refl;
      none_held = a.none_held;
      none_queues = a.none_queues;
      late = omega (arith, a.late, a.waited, since, before);
      lost = omega (arith, a.lost, a.waited, since);
      dropped = a.dropped;
    })
begun_alike queues false true at c d is before a =
    subst (λ r. AreAlike queues (cond r c (first_begun at c)) (begun at false d)) (sym is)
    (subst (λ r. AreAlike queues c (cond r d (first_begun at d))) (sym (runs_alike queues c d a ∙ is)) a)
begun_alike queues restarted false at c d is before a =
    rw (is, runs_alike queues c d a ∙ is)
    (parted_idle queues true at (steps_to at c) (steps_to at d) (one_more nothing_spent) c d refl (a.idle is) (idle_steps queues at c d is a) a)

ended_alike : (queues runs : Bool) (end : ℕ) (c d : Clock) → c.runs ≡ runs → AreAlike queues c d → AreAlike queues (ended end c) (ended end d)
ended_alike queues true end c d is a = rw (is, runs_alike queues c d a ∙ is) (record {
  rest = λ i. but_for_wait (parted end false nothing_spent (with_useful (useful i) (a.rest i).spent (a.rest i).account) (a.rest i));
  waited = refl;
  idle = λ idle. refl;
  queue = refl;
  none_held = a.none_held;
  none_queues = omega (arith, a.none_queues, a.queue);
  late = omega (arith, a.late);
  lost = a.lost;
  dropped = a.dropped;
})
  where
    since : c.since ≡ d.since
    since = ap (λ (x : Clock). x.since) a.rest

    handling : c.spent.handling ≡ d.spent.handling
    handling = ap (λ (x : Clock). x.spent.handling) a.rest

    memory : c.spent.memory ≡ d.spent.memory
    memory = ap (λ (x : Clock). x.spent.memory) a.rest

    useful : steps_to end c - total c.spent ≡ steps_to end d - total d.spent
    useful = omega (arith, since, handling, memory, a.waited, a.queue)
ended_alike queues false end c d is a =
    rw (is, runs_alike queues c d a ∙ is)
    (parted_idle queues false end (steps_to end c) (steps_to end d) nothing_spent c d refl (a.idle is) (idle_steps queues end c d is a) a)

dropped_alike : (queues runs : Bool) (end : ℕ) (c d : Clock) → c.runs ≡ runs → told d ≤ end → AreAlike queues c d → AreAlike queues (dropped end c) (dropped end d)
dropped_alike queues true end c d is before a =
    let since : c.since ≡ d.since = ap (λ (x : Clock). x.since) a.rest in
    rw (is, runs_alike queues c d a ∙ is) (record {
      rest = ap (λ (x : Clock). but_for_wait (parted end false nothing_spent x.account x)) a.rest;
      waited = refl;
      idle = λ idle. refl;
      queue = refl;
      none_held = a.none_held;
      none_queues = a.none_queues;
      late = omega (arith, a.late, a.waited, since, before);
      lost = a.lost;
      dropped = omega (arith, a.dropped, a.waited, since);
    })
dropped_alike queues false end c d is before a =
    rw (is, runs_alike queues c d a ∙ is)
    (parted_idle queues false end (steps_to end c) (steps_to end d) nothing_spent c d refl (a.idle is) (idle_steps queues end c d is a) a)

-- ---- a turn

waits_alike : (queues : Bool) (cause : Cause) (at : ℕ) (c d : Clock) → AreAlike queues c d → AreAlike queues (waits_for cause at c) (waits_for cause at d)
waits_alike queues NoEpoch at c d a = next_set queues Gone c d a
waits_alike queues NotHomefree at c d a = next_set queues (Waits at NotHomefree) c d a
waits_alike queues NoWay at c d a = next_set queues (Waits at NoWay) c d a
waits_alike queues OrbFull at c d a = next_set queues (Waits at OrbFull) c d a
waits_alike queues OrbBusy at c d a = next_set queues (Waits at OrbBusy) c d a

left_alike : (queues : Bool) (next : Next) (at : ℕ) (c d : Clock) → AreAlike queues c d
    → AreAlike queues (record (left at nothing_spent c) { next = next }) (record (left at nothing_spent d) { next = next })
left_alike queues next at c d a =
    let more = paid_alike queues 1 c d a in
    next_set queues next (left at nothing_spent c) (left at nothing_spent d)
    (ended_alike queues c.runs (at + 1 + 0) (paid (one_more nothing_spent) c) (paid (one_more nothing_spent) d) refl more)

pub answered_alike : (queues restarted : Bool) (at executed : ℕ) (answer : Answer) (c d : Clock) → told d ≤ at → AreAlike queues c d
    → AreAlike queues (answered at restarted executed nothing_spent answer c) (answered at restarted executed nothing_spent answer d)
answered_alike queues restarted at executed (Go hart) c d before a =
    next_set queues (Due (at + 1 + 0 + executed)) (paid nothing_spent (begun at restarted c)) (paid nothing_spent (begun at restarted d))
    (paid_alike queues 0 (begun at restarted c) (begun at restarted d) (begun_alike queues restarted c.runs at c d refl before a))
answered_alike queues restarted at executed (Again cause) c d before a = waits_alike queues cause at c d a
answered_alike queues restarted at executed Left c d before a = left_alike queues (Due (at + 1 + 0)) at c d a
answered_alike queues restarted at executed (Over end) c d before a = left_alike queues Gone at c d a
answered_alike queues restarted at executed (Stopped cause) c d before a = a

-- ---- a wake

-- what a wait leaves as it is
abbrev late_of : Account → ℕ × ℕ × ℕ × ℕ
late_of a = (a.spent.queue, a.lost, a.dropped, a.held)

waited_late : (cause : Cause) (n : ℕ) (a : Account) → late_of (with_waited cause n a) ≡ late_of a
waited_late NoEpoch n a = refl
waited_late NotHomefree n a = refl
waited_late NoWay n a = refl
waited_late OrbFull n a = refl
waited_late OrbBusy n a = refl

waited_rest : (cause : Cause) (n : ℕ) (a : Account) → but_for_late (with_waited cause n a) ≡ with_waited cause n (but_for_late a)
waited_rest NoEpoch n a = refl
waited_rest NotHomefree n a = refl
waited_rest NoWay n a = refl
waited_rest OrbFull n a = refl
waited_rest OrbBusy n a = refl

woken_by_next : (queues : Bool) (next : Next) (at : ℕ) (c d : Clock) → AreAlike queues c d → AreAlike queues (woken_from next at c) (woken_from next at d)
woken_by_next queues (Due due) at c d a = a
woken_by_next queues (Waits since cause) at c d a = record {
  rest = λ i. record (a.rest i) { next = Due at; account = accounts i };
  waited = omega (arith, a.waited);
  idle = a.idle;
  queue = a.queue;
  none_held = λ is. ap (λ x. x.3) mine ∙ a.none_held is;
  none_queues = ap (λ x. x.0) its ∙ a.none_queues;
  late = omega (arith, a.late, ap (λ x. x.0) mine, ap (λ x. x.1) mine, ap (λ x. x.2) mine, ap (λ x. x.3) mine, ap (λ x. x.1) its, ap (λ x. x.2) its, ap (λ x. x.3) its);
  lost = omega (arith, a.lost, ap (λ x. x.1) mine, ap (λ x. x.1) its);
  dropped = omega (arith, a.dropped, ap (λ x. x.2) mine, ap (λ x. x.2) its);
}
  where
    mine : late_of (with_waited cause (at - since) c.account) ≡ late_of c.account
    mine = waited_late cause (at - since) c.account

    its : late_of (with_waited cause (at - since) d.account) ≡ late_of d.account
    its = waited_late cause (at - since) d.account

    accounts : but_for_late (with_waited cause (at - since) c.account) ≡ but_for_late (with_waited cause (at - since) d.account)
    accounts =
        waited_rest cause (at - since) c.account
        ∙ (ap (λ (x : Clock). with_waited cause (at - since) x.account) a.rest ∙ sym (waited_rest cause (at - since) d.account))
woken_by_next queues Gone at c d a = a

pub woken_alike : (queues : Bool) (at : ℕ) (c d : Clock) → AreAlike queues c d → AreAlike queues (woken at c) (woken at d)
woken_alike queues at c d a =
    subst (λ n. AreAlike queues (woken at c) (woken_from n at d)) (sym (next_alike queues c d a)) (woken_by_next queues c.next at c d a)

-- ---- the account

useful_more : (a b : Account) → b.spent.queue ≡ 0 → but_for_late a ≡ but_for_late b → useful_in a ≡ useful_in b + a.spent.queue
useful_more a b none rest =
    let busy : a.busy ≡ b.busy = ap (λ (y : Account). y.busy) rest in
    let handling : a.spent.handling ≡ b.spent.handling = ap (λ (y : Account). y.spent.handling) rest in
    let memory : a.spent.memory ≡ b.spent.memory = ap (λ (y : Account). y.spent.memory) rest in
    omega (arith, busy, handling, memory, none)

closed_account : (queues : Bool) (end : ℕ) (c d : Clock) → told (woken end d) ≤ end → AreAlike queues c d → AreOneAccount queues (closed end c).account (closed end d).account
closed_account queues end c d before a =
    let woke = woken_alike queues end c d a in
    let x = dropped_alike queues (woken end c).runs end (woken end c) (woken end d) refl before woke in record {
      none_held = x.none_held;
      none_queues = x.none_queues;
      useful = useful_more (closed end c).account (closed end d).account x.none_queues (ap (λ (y : Clock). y.account) x.rest);
      lost = x.lost;
      dropped = x.dropped;
      late = omega (arith, x.late);
      rest = ap (λ (y : Clock). y.account) x.rest;
    }

no_account : (queues : Bool) → AreOneAccount queues no_steps no_steps
no_account queues = record { none_held = λ is. refl; none_queues = refl; useful = refl; lost = omega arith; dropped = omega arith; late = refl; rest = refl }

sum_account : (queues : Bool) (a b x y : Account) → AreOneAccount queues a b → AreOneAccount queues x y → AreOneAccount queues (sum_of a x) (sum_of b y)
sum_account queues a b x y one two = record {
  none_held = λ is. omega (arith, one.none_held is, two.none_held is);
  none_queues = omega (arith, one.none_queues, two.none_queues);
  useful = omega (arith, one.useful, two.useful);
  lost = omega (arith, one.lost, two.lost);
  dropped = omega (arith, one.dropped, two.dropped);
  late = omega (arith, one.late, two.late);
  rest = λ i. sum_of (one.rest i) (two.rest i);
}

pub account_alike : (queues : Bool) (end : ℕ) (c d : ℕ → Clock) (n : ℕ) → ((k : ℕ) → told (woken end (d k)) ≤ end) → ((k : ℕ) → AreAlike queues (c k) (d k))
    → AreOneAccount queues (account_of end c n) (account_of end d n)
unfolding account_of
account_alike queues end c d zero before each = no_account queues
account_alike queues end c d (suc n) before each =
    sum_account queues (account_of end c n) (account_of end d n) (closed end (c n)).account (closed end (d n)).account
    (account_alike queues end c d n before each) (closed_account queues end (c n) (d n) (before n) (each n))
