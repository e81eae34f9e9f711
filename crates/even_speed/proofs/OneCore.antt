-- The clock of the one core that there is.
use Rattle.std.proofs.Common.{◌≡◌, ℕ, ◌+◌, ◌==◌, Bool, true, false, cond, Some, Ok, ◌≤◌, refl, sym, ap, subst, ◌∙◌, arith, eq-eqb}
use Rattle.std.proofs.lemmas.Option.{same_Some}
use Rattle.rv32_exec.specs.declared.sequential.End.{End}
use Rattle.homefree.specs.declared.answer.Answer.{Answer}
use Rattle.homefree.specs.declared.answer.Answer.TheVariants.{Go, Again, Left, Over, Stopped}
use Rattle.homefree.specs.declared.answer.Cause.TheVariants.{NoEpoch, NotHomefree, NoWay, OrbFull, OrbBusy}
use Rattle.homefree.specs.Driven.{Driver}
use Rattle.even_speed.specs.declared.account.Account.{Account}
use Rattle.even_speed.specs.declared.clock.Clock.{Clock}
use Rattle.even_speed.specs.declared.clock.Next.{Next}
use Rattle.even_speed.specs.declared.clock.Next.TheVariants.{Due, Waits, Gone}
use Rattle.even_speed.specs.declared.account.Spent.{Spent}
use Rattle.even_speed.specs.declared.clocks.Turn.{Turn}
use Rattle.even_speed.specs.declared.pricing.Free.{Free}
use Rattle.even_speed.specs.declared.pricing.Price.{Price}
use Rattle.even_speed.specs.Account.{WastesNone, no_steps, sum_of, total}
use Rattle.even_speed.specs.Clocks.{IsFirst, account_of, answered, begun, closed, dropped, due_of, dues, first_clock, late, late_clocks, left, paid, woken, woken_by, woken_from}
use Rattle.even_speed.specs.Pricing.{begins, no_price}
use Rattle.even_speed.specs.Even.{clocks_after, executed_by, restarts}
use Rattle.even_speed.specs.Kept.{IsAloneClock, NeverWaits, NeverWaitsAt}
use Rattle.even_speed.proofs.Sounding.{account_of-more, account_of-none, free_due, later_of}

pub first_alone : (U : Type 0) → IsAloneClock U 0 first_clock
first_alone U = record { account = record { lost = refl; dropped = refl; waiting = refl }; held = λ unheld. refl; next = omega arith }

begun_by : (U : Type 0) (at due : ℕ) (e : Spent) (runs : Bool) (c : Clock) → c.runs ≡ runs → at ≤ due → IsAloneClock U at c → IsAloneClock U at (record (paid e (begun at false c)) { next = Due due })
begun_by U at due e true c is passes a = rw is (record { account = a.account; held = a.held; next = passes })
begun_by U at due e false c is passes a =
    rw is (record { account = record { lost = a.account.lost; dropped = a.account.dropped; waiting = a.account.waiting }; held = a.held; next = passes })

left_by : (U : Type 0) (at : ℕ) (e : Spent) (n : Next) (runs : Bool) (c : Clock) → c.runs ≡ runs → NeverWaitsAt at n → IsAloneClock U at c → IsAloneClock U at (record (left at e c) { next = n })
left_by U at e n true c is none a =
    rw is (record { account = record { lost = a.account.lost; dropped = a.account.dropped; waiting = a.account.waiting }; held = a.held; next = none })
left_by U at e n false c is none a =
    rw is (record { account = record { lost = a.account.lost; dropped = a.account.dropped; waiting = a.account.waiting }; held = a.held; next = none })

answered_alone : (U : Type 0) (at executed : ℕ) (e : Spent) (answer : Answer) (c : Clock) → NeverWaits (Ok answer) → IsAloneClock U at c → IsAloneClock U at (answered at false executed e answer c)
answered_alone U at executed e (Go hart) c never a = begun_by U at (at + 1 + total e + executed) e c.runs c refl (omega arith) a
answered_alone U at executed e (Again NoEpoch) c never a = record { account = a.account; held = a.held; next = tt }
answered_alone U at executed e (Again NotHomefree) c never a = absurd never
answered_alone U at executed e (Again NoWay) c never a = absurd never
answered_alone U at executed e (Again OrbFull) c never a = absurd never
answered_alone U at executed e (Again OrbBusy) c never a = absurd never
answered_alone U at executed e Left c never a = left_by U at e (Due (at + 1 + total e)) c.runs c refl (omega arith) a
answered_alone U at executed e (Over end) c never a = left_by U at e Gone c.runs c refl tt a
answered_alone U at executed e (Stopped cause) c never a = a

woken_from_alone : (U : Type 0) (now at : ℕ) (n : Next) (c : Clock) → c.next ≡ n → IsAloneClock U now c → IsAloneClock U now (woken_from n at c)
woken_from_alone U now at (Due due) c is a = a
woken_from_alone U now at (Waits since cause) c is a = absurd (subst (NeverWaitsAt now) is a.next)
woken_from_alone U now at Gone c is a = a

woken_alone : (U : Type 0) (now at : ℕ) (c : Clock) → IsAloneClock U now c → IsAloneClock U now (woken at c)
woken_alone U now at c a = woken_from_alone U now at c.next c refl a

woken_by_alone : (U : Type 0) (answer : Answer) (at : ℕ) (clocks : ℕ → Clock) → IsAloneClock U at (clocks 0) → IsAloneClock U at (woken_by answer at clocks 0)
woken_by_alone U (Go hart) at clocks a = woken_alone U at at (clocks 0) a
woken_by_alone U (Again cause) at clocks a = a
woken_by_alone U Left at clocks a = woken_alone U at at (clocks 0) a
woken_by_alone U (Over end) at clocks a = a
woken_by_alone U (Stopped cause) at clocks a = a

-- as its turn begins
due_after : (now due : ℕ) (n : Next) → due_of n ≡ Some due → NeverWaitsAt now n → now ≤ due
due_after now due (Due at) is never = omega (arith, same_Some at due is, never)
due_after now due (Waits since cause) is never = absurd never
due_after now due Gone is never = absurd cc

-- a free turn begins when it is due, where it is due after the last one
free_begins : (free : Free) (p : Price) (due : ℕ) → p ≡ no_price → free.began ≤ due → begins free p due ≡ due
free_begins free p due none passes = rw none (later_of free.began due passes)

-- so that it isn't late; or it is late in a queue
late_alone_by : (U : Type 0) (now due at : ℕ) (queues : Bool) (c : Clock) → (U → queues ≡ false → at ≡ due) → IsAloneClock U now c → IsAloneClock U at (late queues due at c)
late_alone_by U now due at true c is a = record { account = a.account; held = a.held; next = omega arith }
late_alone_by U now due at false c is a = record {
  account = record { lost = a.account.lost; dropped = a.account.dropped; waiting = a.account.waiting };
  held = λ unheld. omega (arith, a.held unheld, is unheld refl);
  next = omega arith;
}

pub late_alone : (U : Type 0) (free : Free) (prices : ℕ → Price) (queues : Bool) (held : ℕ → Bool) (clocks lates : ℕ → Clock) (n : ℕ) (t : Turn)
    → (U → queues ≡ false → (k : ℕ) → prices k ≡ no_price) → t.core ≡ 0 → IsFirst free prices (dues held clocks) n t
    → ((k : ℕ) → lates k ≡ late_clocks queues clocks t k) → IsAloneClock U free.began (clocks 0) → IsAloneClock U t.at (lates 0)
late_alone U free prices queues held clocks lates n t costless first is each a =
    let was : due_of (clocks 0).next ≡ Some t.due = free_due (held 0) _ t.due (subst (λ k. dues held clocks k ≡ Some t.due) first is.due) in
    let at : U → queues ≡ false → t.at ≡ t.due = λ unheld none.
    is.begins_at ∙ free_begins free t.price t.due (is.price ∙ costless unheld none t.core) (due_after free.began t.due (clocks 0).next was a.next) in
    subst (IsAloneClock U t.at) (sym (each 0 ∙ ap (λ b. cond b (late queues t.due t.at (clocks 0)) (clocks 0)) (eq-eqb 0 t.core (sym first))))
    (late_alone_by U free.began t.due t.at queues (clocks 0) at a)

-- ---- a turn

by_core : (core : ℕ) (now before : Clock) → core ≡ 0 → cond (0 == core) now before ≡ now
by_core core now before is = ap (λ b. cond b now before) (eq-eqb 0 core (sym is))

module _ {S : Type 0} (U : Type 0) (old mid : Driver S) (clocks : ℕ → Clock) (t : Turn) (answer : Answer) (first : t.core ≡ 0) (restart : restarts old mid ≡ false)
    (never : NeverWaits (Ok answer)) where
  abbrev executes : ℕ
  executes = executed_by old.book.image answer

  abbrev turned : ℕ → Clock
  turned k = cond (k == t.core) (answered t.at (restarts old mid) executes t.price.spent answer (clocks k)) (clocks k)

  turned_is : turned 0 ≡ answered t.at false executes t.price.spent answer (clocks 0)
  turned_is = by_core t.core _ _ first ∙ ap (λ r. answered t.at r executes t.price.spent answer (clocks 0)) restart

  pub turn_alone : IsAloneClock U t.at (clocks 0) → IsAloneClock U t.at (clocks_after old mid clocks t answer 0)
  turn_alone a = woken_by_alone U answer t.at turned (subst (IsAloneClock U t.at) (sym turned_is) (answered_alone U t.at executes t.price.spent answer (clocks 0) never a))

-- ---- the end of the run

-- the one core's attempt ended by the last turn
over_runs : (at executed : ℕ) (e : Spent) (restarted : Bool) (end : End) (c : Clock) → (answered at restarted executed e (Over end) c).runs ≡ false
over_runs at executed e restarted end c = refl

-- nothing wasted, and nothing held where it is so
record IsSpared (U : Type 0) (a : Account) : Type 0 where
  wastes : WastesNone a
  unheld : U → a.held ≡ 0

dropped_none : (U : Type 0) (now end : ℕ) (c : Clock) → c.runs ≡ false → IsAloneClock U now c → IsSpared U (dropped end c).account
dropped_none U now end c is a = rw is (record { wastes = record { lost = a.account.lost; dropped = a.account.dropped; waiting = a.account.waiting }; unheld = a.held })

woken_runs : (at : ℕ) (n : Next) (c : Clock) → (woken_from n at c).runs ≡ c.runs
woken_runs at (Due due) c = refl
woken_runs at (Waits since cause) c = refl
woken_runs at Gone c = refl

closed_none : (U : Type 0) (now end : ℕ) (c : Clock) → c.runs ≡ false → IsAloneClock U now c → IsSpared U (closed end c).account
closed_none U now end c is a = dropped_none U now end (woken end c) (woken_runs end c.next c ∙ is) (woken_alone U now end c a)

sum_none : (U : Type 0) (a : Account) → IsSpared U a → IsSpared U (sum_of no_steps a)
sum_none U a w = record {
  wastes = record { lost = omega (arith, w.wastes.lost); dropped = omega (arith, w.wastes.dropped); waiting = omega (arith, w.wastes.waiting) };
  unheld = λ u. omega (arith, w.unheld u);
}

pub account_one : (end : ℕ) (clocks : ℕ → Clock) → account_of end clocks 1 ≡ sum_of no_steps (closed end (clocks 0)).account
account_one end clocks = account_of-more end clocks 0 ∙ ap (λ a. sum_of a (closed end (clocks 0)).account) (account_of-none end clocks)

spares : (U : Type 0) (at end executed cores : ℕ) (e : Spent) (over : End) (clocks : ℕ → Clock) (c : Clock) (account : Account) → cores ≡ 1
    → clocks 0 ≡ answered at false executed e (Over over) c → IsAloneClock U at c → account ≡ account_of end clocks cores → IsSpared U account
spares U at end executed cores e over clocks c account one is a sum =
    let clock = answered at false executed e (Over over) c in
    let all : account ≡ sum_of no_steps (closed end clock).account =
    sum ∙ (ap (account_of end clocks) one ∙ (account_one end clocks ∙ ap (λ k. sum_of no_steps (closed end k).account) is)) in
    subst (IsSpared U) (sym all) (sum_none U _ (closed_none U at end clock (over_runs at executed e false over c) (answered_alone U at executed e (Over over) c tt a)))

module _ {S : Type 0} (U : Type 0) (old mid : Driver S) (clocks : ℕ → Clock) (t : Turn) (first : t.core ≡ 0) (restart : restarts old mid ≡ false) (over : End) (end : ℕ) (clocks' : ℕ → Clock)
    (are : (k : ℕ) → clocks' k ≡ clocks_after old mid clocks t (Over over) k) (account : Account) (cores : ℕ) (one : cores ≡ 1) (sum : account ≡ account_of end clocks' cores)
    (a : IsAloneClock U t.at (clocks 0)) where
  over_spares : IsSpared U account
  over_spares = spares U t.at end (executed_by old.book.image (Over over)) cores t.price.spent over clocks' (clocks 0) account one
      (are 0 ∙ turned_is U old mid clocks t (Over over) first restart tt) a sum

  pub over_none : WastesNone account
  over_none = over_spares.wastes

  pub over_unheld : U → account.held ≡ 0
  over_unheld = over_spares.unheld
