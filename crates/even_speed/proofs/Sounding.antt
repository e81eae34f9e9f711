-- What a turn, a wake and the end of the run keep of a clock.
use Rattle.std.proofs.Common.{◌≡◌, ℕ, ◌+◌, ◌-◌, ◌*◌, ◌<◌, ◌≤◌, ◌^◌, Bool, true, false, cond, ◌==◌, ◌||◌, List, length, Option, Some, None, refl, ap, subst, sym, ◌∙◌, arith, add-one, eq-eqb, eqb-true}
use Rattle.std.proofs.lemmas.Bool.{or_right}
use Rattle.std.proofs.lemmas.Bool.Decides.{nat_tests}
use Rattle.std.proofs.lemmas.Option.{same_Some}
use Rattle.homefree.specs.declared.answer.Answer.{Answer}
use Rattle.homefree.specs.declared.answer.Answer.TheVariants.{Go, Again, Left, Over, Stopped}
use Rattle.homefree.specs.declared.answer.Cause.{Cause}
use Rattle.homefree.specs.declared.answer.Cause.TheVariants.{NoEpoch, NotHomefree, NoWay, OrbFull, OrbBusy}
use Rattle.even_speed.specs.declared.account.Account.{Account}
use Rattle.even_speed.specs.declared.clock.Clock.{Clock}
use Rattle.even_speed.specs.declared.clock.Next.{Next}
use Rattle.even_speed.specs.declared.clock.Next.TheVariants.{Due, Waits, Gone}
use Rattle.even_speed.specs.declared.account.Spent.{Spent}
use Rattle.even_speed.specs.declared.pricing.Free.{Free}
use Rattle.even_speed.specs.declared.pricing.Price.{Price}
use Rattle.even_speed.specs.Account.{no_steps, steps_of, sum_of, total, with_waited}
use Rattle.even_speed.specs.declared.clocks.Turn.{Turn}
use Rattle.even_speed.specs.Clocks.{IsFirst, account_of, answered, begun, clock_at, closed, dropped, due_of, dues, first_clock, late, late_clocks, left, paid, waits_for, woken, woken_from}
use Rattle.even_speed.specs.Kept.{AreSound, IsWaitBefore, IsTurnOf, MayWake, IsDueBy, IsSound, IsSoundNext, last_in, most_steps, told, used}
use Rattle.even_speed.specs.Pricing.{IsLow, all_free, begins, free_after, held_until, if_needed, later, leaves, over_at}

pub first_sound : IsSound 0 0 first_clock
first_sound = record { whole = refl; so_far = omega arith; next = omega arith }

-- ---- time passes

later_next : (now t used : ℕ) (n : Next) → now ≤ t → IsSoundNext now used n → IsSoundNext t used n
later_next now t used (Due at) passes s = s
later_next now t used (Waits since cause) passes s = (omega (arith, passes, s.0), s.1)
later_next now t used Gone passes s = tt

pub sound_later : (now last t last' : ℕ) (c : Clock) → now ≤ t → last ≤ last' → IsSound now last c → IsSound t last' c
sound_later now last t last' c passes lasts s = record {
  whole = s.whole;
  so_far = omega (arith, lasts, s.so_far);
  next = later_next now t (used c) c.next passes s.next;
}

used_by : (t used due : ℕ) (n : Next) → due_of n ≡ Some due → IsSoundNext t used n → used ≤ due
used_by t used due (Due at) is s = omega (arith, same_Some at due is, s)
used_by t used due (Waits since cause) is s = absurd cc
used_by t used due Gone is s = absurd cc

pub used_due : (t last due : ℕ) (c : Clock) → due_of c.next ≡ Some due → IsSound t last c → used c ≤ due
used_due t last due c is s = used_by t (used c) due c.next is s.next

-- ---- a wake

more_waited : (cause : Cause) (n : ℕ) (a : Account) → steps_of (with_waited cause n a) ≡ steps_of a + n
more_waited NoEpoch n a = omega arith
more_waited NotHomefree n a = omega arith
more_waited NoWay n a = omega arith
more_waited OrbFull n a = omega arith
more_waited OrbBusy n a = omega arith

woken_next : (t last : ℕ) (c : Clock) (n : Next) → t ≤ last → steps_of c.account ≡ told c → told c ≤ last + 1 → IsSoundNext t (used c) n → c.next ≡ n → IsSound t last (woken_from n t c)
woken_next t last c (Due at) passes whole so_far s is = record { whole = whole; so_far = so_far; next = subst (IsSoundNext t (used c)) (sym is) s }
woken_next t last c (Waits since cause) passes whole so_far s is = record {
  whole = more_waited cause (t - since) c.account ∙ omega (arith, whole, s.0, s.1);
  so_far = omega (arith, passes, s.0, s.1);
  next = omega (arith, s.0, s.1);
}
woken_next t last c Gone passes whole so_far s is = record { whole = whole; so_far = so_far; next = subst (IsSoundNext t (used c)) (sym is) s }

pub woken_sound : (t last : ℕ) (c : Clock) → t ≤ last → IsSound t last c → IsSound t last (woken t c)
woken_sound t last c passes s = woken_next t last c c.next passes s.whole s.so_far s.next refl

may_next : (now t used : ℕ) (n : Next) → now ≤ t → IsSoundNext now used n → IsWaitBefore t n
may_next now t used (Due at) passes s = tt
may_next now t used (Waits since cause) passes s = omega (arith, passes, s.0)
may_next now t used Gone passes s = tt

pub may_wake : (now t last : ℕ) (c : Clock) → now ≤ t → last < 2 ^ 61 → IsSound now last c → MayWake t c
may_wake now t last c passes few s = record { whole = s.whole; few = omega (arith, s.so_far, few); before = may_next now t (used c) c.next passes s.next }

-- ---- the end

-- its waits up to this time aside, nothing of it was told after the time before
woken_told : (t : ℕ) (c : Clock) (n : Next) → steps_of c.account ≡ told c → told c ≤ t + 1 → IsSoundNext t (used c) n
    → (steps_of (woken_from n (t + 1) c).account ≡ told (woken_from n (t + 1) c)) × (told (woken_from n (t + 1) c) ≤ t + 1)
woken_told t c (Due at) whole so_far s = (whole, so_far)
woken_told t c (Waits since cause) whole so_far s =
    (more_waited cause (t + 1 - since) c.account ∙ omega (arith, whole, s.0, s.1), omega (arith, s.0, s.1))
woken_told t c Gone whole so_far s = (whole, so_far)

dropped_by : (end : ℕ) (c : Clock) (runs : Bool) → c.runs ≡ runs → steps_of c.account ≡ told c → told c ≤ end → steps_of (dropped end c).account ≡ end
dropped_by end c true is whole so_far = rw is (omega (arith, whole, so_far))
dropped_by end c false is whole so_far = rw is (omega (arith, whole, so_far))

pub woken_at_end : (t : ℕ) (c : Clock) → IsSound t t c → (steps_of (woken (t + 1) c).account ≡ told (woken (t + 1) c)) × (told (woken (t + 1) c) ≤ t + 1)
woken_at_end t c s = woken_told t c c.next s.whole s.so_far s.next

-- the same, where the end is given
same_end : (end : ℕ) → 1 ≤ end → end - 1 + 1 ≡ end
same_end end least = omega (arith, least)

pub may_wake_end : (end : ℕ) (c : Clock) → 1 ≤ end → end < 2 ^ 60 → IsSound (end - 1) (end - 1) c → MayWake end c
may_wake_end end c least few s = may_wake (end - 1) end (end - 1) c (omega (arith, least)) (omega (arith, least, few)) s

pub woken_end : (end : ℕ) (c w : Clock) → 1 ≤ end → IsSound (end - 1) (end - 1) c → w ≡ woken end c → steps_of w.account ≡ told w
woken_end end c w least s is =
    subst (λ (v : Clock). steps_of v.account ≡ told v) (sym is)
    (subst (λ e. steps_of (woken e c).account ≡ told (woken e c)) (same_end end least) (woken_at_end (end - 1) c s).0)

pub told_end : (end : ℕ) (c w : Clock) → 1 ≤ end → IsSound (end - 1) (end - 1) c → w ≡ woken end c → told w ≤ end
told_end end c w least s is =
    subst (λ (v : Clock). told v ≤ end) (sym is)
    (subst (λ e. told (woken e c) ≤ e) (same_end end least) (woken_at_end (end - 1) c s).1)

pub closed_end : (end : ℕ) (c w d : Clock) → 1 ≤ end → IsSound (end - 1) (end - 1) c → w ≡ woken end c → d ≡ dropped end w → steps_of d.account ≡ end
closed_end end c w d least s is so =
    subst (λ (v : Clock). steps_of v.account ≡ end) (sym so)
    (dropped_by end w w.runs refl (woken_end end c w least s is) (told_end end c w least s is))

-- ---- a turn

module _ (t last : ℕ) (e : Spent) (c : Clock) (passes : t ≤ last) (whole : steps_of c.account ≡ told c) (before : used c ≤ t) where
  begun_by : (due : ℕ) (runs restarted : Bool) → c.runs ≡ runs → t + 1 + total e ≤ due → IsSound t last (record (paid e (begun t restarted c)) { next = Due due })
  begun_by due true true is later = rw is (record { whole = omega (arith, whole, before); so_far = omega (arith, passes); next = omega (arith, later) })
  begun_by due true false is later = rw is (record { whole = whole; so_far = omega (arith, before, passes); next = omega (arith, before, later) })
  begun_by due false restarted is later = rw is (record { whole = omega (arith, whole, before); so_far = omega (arith, passes); next = omega (arith, later) })

  left_by : (n : Next) (runs : Bool) → c.runs ≡ runs → t + total e ≤ last → IsSoundNext t (t + 1 + total e + 0 + 0) n → IsSound t last (record (left t e c) { next = n })
  left_by n true is lasts s = rw is (record { whole = omega (arith, whole, before); so_far = omega (arith, lasts); next = s })
  left_by n false is lasts s = rw is (record { whole = omega (arith, whole, before); so_far = omega (arith, lasts); next = s })

  waits_by : (cause : Cause) → IsSound t last (waits_for cause t c)
  waits_by NoEpoch = record { whole = whole; so_far = omega (arith, before, passes); next = tt }
  waits_by NotHomefree = record { whole = whole; so_far = omega (arith, before, passes); next = (omega arith, before) }
  waits_by NoWay = record { whole = whole; so_far = omega (arith, before, passes); next = (omega arith, before) }
  waits_by OrbFull = record { whole = whole; so_far = omega (arith, before, passes); next = (omega arith, before) }
  waits_by OrbBusy = record { whole = whole; so_far = omega (arith, before, passes); next = (omega arith, before) }

-- an attempt that goes on has spent no more than the time that is told
pub begun_few : (t : ℕ) (restarted : Bool) (c : Clock) (runs again : Bool) → c.runs ≡ runs → restarted ≡ again → used c ≤ t → total (begun t restarted c).spent ≤ t + 1
begun_few t restarted c true true is so before = rw (is, so) (omega arith)
begun_few t restarted c true false is so before = rw (is, so) (omega (arith, before))
begun_few t restarted c false again is so before = rw is (omega arith)

pub answered_sound : (t last : ℕ) (restarted : Bool) (executed : ℕ) (e : Spent) (answer : Answer) (c : Clock) → t ≤ last → (leaves answer ≡ true → t + total e ≤ last) → IsSound t last c → used c ≤ t
    → IsSound t last (answered t restarted executed e answer c)
answered_sound t last restarted executed e (Go hart) c passes lasts s before =
    begun_by t last e c passes s.whole before (t + 1 + total e + executed) c.runs restarted refl (omega arith)
answered_sound t last restarted executed e (Again cause) c passes lasts s before = waits_by t last e c passes s.whole before cause
answered_sound t last restarted executed e Left c passes lasts s before =
    left_by t last e c passes s.whole before (Due (t + 1 + total e)) c.runs refl (lasts refl) (omega arith)
answered_sound t last restarted executed e (Over end) c passes lasts s before = left_by t last e c passes s.whole before Gone c.runs refl (lasts refl) tt
answered_sound t last restarted executed e (Stopped cause) c passes lasts s before = s

-- ---- bounds

woken_due : (bound t : ℕ) (c : Clock) (n : Next) → t ≤ bound → IsDueBy bound c.next → IsDueBy bound (woken_from n t c).next
woken_due bound t c (Due at) by b = b
woken_due bound t c (Waits since cause) by b = by
woken_due bound t c Gone by b = b

pub woken_bound : (bound t : ℕ) (c : Clock) → t ≤ bound → IsDueBy bound c.next → IsDueBy bound (woken t c).next
woken_bound bound t c by b = woken_due bound t c c.next by b

pub answered_bound : (bound t : ℕ) (restarted : Bool) (executed : ℕ) (e : Spent) (answer : Answer) (c : Clock) → t + 1 + total e + executed ≤ bound → IsDueBy bound c.next
    → IsDueBy bound (answered t restarted executed e answer c).next
answered_bound bound t restarted executed e (Go hart) c by b = by
answered_bound bound t restarted executed e (Again NoEpoch) c by b = tt
answered_bound bound t restarted executed e (Again NotHomefree) c by b = omega (arith, by)
answered_bound bound t restarted executed e (Again NoWay) c by b = omega (arith, by)
answered_bound bound t restarted executed e (Again OrbFull) c by b = omega (arith, by)
answered_bound bound t restarted executed e (Again OrbBusy) c by b = omega (arith, by)
answered_bound bound t restarted executed e Left c by b = omega (arith, by)
answered_bound bound t restarted executed e (Over end) c by b = tt
answered_bound bound t restarted executed e (Stopped cause) c by b = b

-- ---- the account of all cores

pub account_of-none : (end : ℕ) (clocks : ℕ → Clock) → account_of end clocks 0 ≡ no_steps
unfolding account_of
account_of-none end clocks = refl

pub account_of-more : (end : ℕ) (clocks : ℕ → Clock) (n : ℕ) → account_of end clocks (n + 1) ≡ sum_of (account_of end clocks n) (closed end (clocks n)).account
unfolding account_of
account_of-more end clocks n = rw add-one refl

pub steps_of-sum : (a b : Account) → steps_of (sum_of a b) ≡ steps_of a + steps_of b
steps_of-sum a b = omega arith

pub account_more : (end n : ℕ) (clocks : ℕ → Clock) (sum more new : Account) (clock : Clock) → sum ≡ account_of end clocks n → clock ≡ clocks n → more ≡ (closed end clock).account
    → new ≡ sum_of sum more → new ≡ account_of end clocks (n + 1)
account_more end n clocks sum more new clock is here told grown =
    grown ∙ (ap (λ a. sum_of a more) is ∙ (ap (sum_of (account_of end clocks n)) (told ∙ ap (λ k. (closed end k).account) here) ∙ sym (account_of-more end clocks n)))

pub whole_more : (end n : ℕ) (sum more new : Account) → steps_of sum ≡ n * end → steps_of more ≡ end → new ≡ sum_of sum more → steps_of new ≡ (n + 1) * end
whole_more end n sum more new whole told grown = ap steps_of grown ∙ (steps_of-sum sum more ∙ omega (arith, whole, told))

-- ---- what is free

pub later_least : (now due : ℕ) → (now ≤ later now due) × (due ≤ later now due)
later_least now due = (grind (arith, nat_tests), grind (arith, nat_tests))

pub later_bound : (now due bound : ℕ) → now ≤ bound → due ≤ bound → later now due ≤ bound
later_bound now due bound one two = grind (arith, nat_tests)

needed_least : (needs : Bool) (free at : ℕ) → at ≤ if_needed needs free at
needed_least true free at = (later_least free at).1
needed_least false free at = omega arith

-- nor is what one of them needs past a bound that neither is
pub needed_bound : (needs : Bool) (free at bound : ℕ) → free ≤ bound → at ≤ bound → if_needed needs free at ≤ bound
needed_bound true free at bound one two = later_bound free at bound one two
needed_bound false free at bound one two = two

-- a turn begins no sooner than it is due, than the last one, and than over what is free
pub begins_over : (free : Free) (p : Price) (due : ℕ) → later free.began due ≤ begins free p due
begins_over free p due =
    let over = needed_least p.needs_bus free.bus (later free.began due) in
    omega (arith, over, needed_least p.in_order free.order (if_needed p.needs_bus free.bus (later free.began due)))

pub begins_least : (free : Free) (p : Price) (due : ℕ) → (free.began ≤ begins free p due) × (due ≤ begins free p due)
begins_least free p due =
    let least = later_least free.began due in
    (omega (arith, least.0, begins_over free p due), omega (arith, least.1, begins_over free p due))

begins_bound : (free : Free) (p : Price) (due bound : ℕ) → free.began ≤ bound → free.bus ≤ bound → free.order ≤ bound → due ≤ bound → begins free p due ≤ bound
begins_bound free p due bound now bus order at =
    needed_bound p.in_order free.order _ bound order (needed_bound p.needs_bus free.bus _ bound bus (later_bound free.began due bound now at))

held_bound : (bus at messages bound : ℕ) (none : Bool) → (messages == 0) ≡ none → bus ≤ bound → at ≤ bound → held_until bus at messages ≤ bound + messages
held_bound bus at messages bound true is one two = rw is (omega (arith, one))
held_bound bus at messages bound false is one two = rw is (omega (arith, later_bound bus at bound one two))

order_least : (free : Free) (at : ℕ) (p : Price) (answer : Answer) → (free.order ≤ (free_after free at p answer).order) × (leaves answer ≡ true → at + total p.spent ≤ (free_after free at p answer).order)
order_least free at p answer = (needed_least (p.in_order || leaves answer) (at + total p.spent) free.order, λ left. over left)
  where
    over : leaves answer ≡ true → at + total p.spent ≤ if_needed (p.in_order || leaves answer) (at + total p.spent) free.order
    over left = rw (left, or_right p.in_order true refl) ((later_least (at + total p.spent) free.order).0)

-- the last turn or commit goes on no longer before a turn than after it
last_grows : (free : Free) (at : ℕ) (p : Price) (answer : Answer) → free.began ≤ at → last_in free ≤ last_in (free_after free at p answer)
last_grows free at p answer passes =
    let least = later_least (free_after free at p answer).order at in
    later_bound free.order free.began (last_in (free_after free at p answer)) (omega (arith, (order_least free at p answer).0, least.0)) (omega (arith, passes, least.1))

-- ---- the clocks of all cores

pub all_first : (cores : ℕ) (clocks : List Clock) → length clocks ≡ cores → cores ≤ 16 → ((k : ℕ) → clock_at clocks k ≡ first_clock) → AreSound 0 cores all_free clocks
all_first cores clocks count few first = record {
  count = count;
  few = few;
  each = λ k below. subst (IsSound 0 0) (sym (first k)) first_sound;
  due = λ k below. subst (λ (c : Clock). IsDueBy (0 * most_steps) c.next) (sym (first k)) (omega arith);
  soon = omega arith;
  bus = omega arith;
  order = omega arith;
}

-- ---- as a turn begins

pub free_due : (held : Bool) (due : Option ℕ) (at : ℕ) → cond held None due ≡ Some at → due ≡ Some at
free_due true due at is = absurd cc
free_due false due at is = is

due_by : (bound at : ℕ) (n : Next) → due_of n ≡ Some at → IsDueBy bound n → at ≤ bound
due_by bound at (Due due) is b = omega (arith, same_Some due at is, b)
due_by bound at (Waits since cause) is b = absurd cc
due_by bound at Gone is b = absurd cc

pub late_sound : (t last due : ℕ) (queues : Bool) (c : Clock) → t ≤ last → used c ≤ due → due ≤ t → IsSound t last c → IsSound t last (late queues due t c)
late_sound t last due true c passes used_due before s = record { whole = s.whole; so_far = s.so_far; next = omega (arith, before, used_due) }
late_sound t last due false c passes used_due before s = record {
  whole = omega (arith, s.whole, before);
  so_far = omega (arith, before, used_due, passes);
  next = omega (arith, before, used_due);
}

-- what is free as the turn begins
abbrev pub at_turn : Free → Turn → Free
at_turn free t = record free { began = t.at }

module _ (taken cores : ℕ) (free : Free) (clocks : List Clock) (a : AreSound taken cores free clocks) (held : ℕ → Bool) (prices : ℕ → Price) (t : Turn)
    (first : IsFirst free prices (dues held (clock_at clocks)) cores t) where
  pub was_due : due_of (clock_at clocks t.core).next ≡ Some t.due
  was_due = free_due (held t.core) (due_of (clock_at clocks t.core).next) t.due first.due

  pub due_before : t.due ≤ t.at
  due_before = omega (arith, (begins_least free t.price t.due).1, first.begins_at)

  pub passes : free.began ≤ t.at
  passes = omega (arith, (begins_least free t.price t.due).0, first.begins_at)

  due_bound : t.due ≤ taken * most_steps
  due_bound = due_by (taken * most_steps) t.due (clock_at clocks t.core).next was_due (a.due t.core first.core)

  pub begins_by : t.at ≤ taken * most_steps
  begins_by = omega (arith, first.begins_at, begins_bound free t.price t.due (taken * most_steps) a.soon a.bus a.order due_bound)

  last_passes : last_in free ≤ last_in (at_turn free t)
  last_passes =
      let least = later_least free.order t.at in
      later_bound free.order free.began (last_in (at_turn free t)) least.0 (omega (arith, passes, least.1))

  sound_then : (k : ℕ) → k < cores → IsSound t.at (last_in (at_turn free t)) (clock_at clocks k)
  sound_then k below = sound_later free.began (last_in free) t.at (last_in (at_turn free t)) (clock_at clocks k) passes last_passes (a.each k below)

  pub used_before : used (clock_at clocks t.core) ≤ t.due
  used_before = used_due t.at (last_in (at_turn free t)) t.due (clock_at clocks t.core) was_due (sound_then t.core first.core)

  pub whole_before : steps_of (clock_at clocks t.core).account ≡ told (clock_at clocks t.core)
  whole_before = (a.each t.core first.core).whole

  -- the clocks as it begins
  module _ (queues : Bool) (lates : List Clock) (count : length lates ≡ length clocks) (each : (k : ℕ) → clock_at lates k ≡ late_clocks queues (clock_at clocks) t k) where
    late_by : (k : ℕ) (here : Bool) → (k == t.core) ≡ here → k < cores → IsSound t.at (last_in (at_turn free t)) (cond here (late queues t.due t.at (clock_at clocks k)) (clock_at clocks k))
    late_by k true is below =
        late_sound t.at (last_in (at_turn free t)) t.due queues (clock_at clocks k) (later_least free.order t.at).1
        (subst (λ j. used (clock_at clocks j) ≤ t.due) (sym (eqb-true k t.core is)) used_before) due_before (sound_then k below)
    late_by k false is below = sound_then k below

    late_next : (q : Bool) (c : Clock) → (late q t.due t.at c).next ≡ Due t.at
    late_next true c = refl
    late_next false c = refl

    late_due : (k : ℕ) (here : Bool) → k < cores → IsDueBy (taken * most_steps) (cond here (late queues t.due t.at (clock_at clocks k)) (clock_at clocks k)).next
    late_due k true below = subst (IsDueBy (taken * most_steps)) (sym (late_next queues (clock_at clocks k))) begins_by
    late_due k false below = a.due k below

    pub lates_sound : AreSound taken cores (at_turn free t) lates
    lates_sound = record {
      count = count ∙ a.count;
      few = a.few;
      each = λ k below. subst (IsSound t.at (last_in (at_turn free t))) (sym (each k)) (late_by k (k == t.core) refl below);
      due = λ k below. subst (λ (c : Clock). IsDueBy (taken * most_steps) c.next) (sym (each k)) (late_due k (k == t.core) below);
      soon = begins_by;
      bus = a.bus;
      order = a.order;
    }

late_is_due : (queues : Bool) (due at : ℕ) (c : Clock) → due_of (late queues due at c).next ≡ Some at
late_is_due true due at c = refl
late_is_due false due at c = refl

pub late_turn : (free : Free) (prices : ℕ → Price) (due : ℕ → Option ℕ) (queues : Bool) (clocks lates : ℕ → Clock) (n : ℕ) (t : Turn) → IsFirst free prices due n t
    → ((k : ℕ) → lates k ≡ late_clocks queues clocks t k) → IsTurnOf lates n t
late_turn free prices due queues clocks lates n t first each = record {
  core = first.core;
  due = ap (λ (c : Clock). due_of c.next) (each t.core) ∙ (rw (eq-eqb t.core t.core refl) (late_is_due queues t.due t.at (clocks t.core)));
}

-- ---- where turns cost nothing

-- no commit goes on after the last turn
pub order_calm : (free : Free) (t : Turn) (answer : Answer) → total t.price.spent ≡ 0 → free.order ≤ free.began → free.began ≤ t.at → (free_after free t.at t.price answer).order ≤ t.at
order_calm free t answer none calm passes =
    needed_bound (t.price.in_order || leaves answer) (t.at + total t.price.spent) free.order t.at (omega (arith, none)) (omega (arith, calm, passes))

pub later_of : (a b : ℕ) → a ≤ b → later a b ≡ b
later_of a b less = grind (arith, nat_tests)

pub over_calm : (free : Free) (t : Turn) → free.order ≤ free.began → free.began ≤ t.at → over_at free t.at t.price ≡ t.at + 1 + total t.price.spent
over_calm free t calm passes =
    let is = later_of free.order (t.at + total t.price.spent) (omega (arith, calm, passes)) in omega (arith, is)

-- ---- after a turn of a core that is due as it begins
module _ (taken cores : ℕ) (free : Free) (clocks : List Clock) (t : Turn) (low : IsLow t.price) (a : AreSound taken cores (at_turn free t) clocks) (first : IsTurnOf (clock_at clocks) cores t) where
  pub by_bound : t.at ≤ taken * most_steps
  by_bound = a.soon

  pub used_at : used (clock_at clocks t.core) ≤ t.at
  used_at = used_due t.at (last_in (at_turn free t)) t.at (clock_at clocks t.core) first.due (a.each t.core first.core)

  pub whole_at : steps_of (clock_at clocks t.core).account ≡ told (clock_at clocks t.core)
  whole_at = (a.each t.core first.core).whole

  -- so long that also what the turn costs is told
  module _ (last : ℕ) (answer : Answer) (goes_on : last_in (at_turn free t) ≤ last) (lasts : leaves answer ≡ true → t.at + total t.price.spent ≤ last) (restarted : Bool) (executed : ℕ)
      (clocks' : List Clock) (each : (k : ℕ) → clock_at clocks' k ≡ cond (k == t.core) (answered t.at restarted executed t.price.spent answer (clock_at clocks t.core)) (clock_at clocks k)) where
    at_last : t.at ≤ last
    at_last = omega (arith, goes_on, (later_least free.order t.at).1)

    sound_at : (k : ℕ) → k < cores → IsSound t.at last (clock_at clocks k)
    sound_at k below = sound_later t.at (last_in (at_turn free t)) t.at last (clock_at clocks k) (omega arith) goes_on (a.each k below)

    turned_by : (k : ℕ) (here : Bool) → (k == t.core) ≡ here → k < cores
        → IsSound t.at last (cond here (answered t.at restarted executed t.price.spent answer (clock_at clocks t.core)) (clock_at clocks k))
    turned_by k true is below = answered_sound t.at last restarted executed t.price.spent answer (clock_at clocks t.core) at_last lasts (sound_at t.core first.core) used_at
    turned_by k false is below = sound_at k below

    pub turned_each : (k : ℕ) → k < cores → IsSound t.at last (clock_at clocks' k)
    turned_each k below = subst (IsSound t.at last) (sym (each k)) (turned_by k (k == t.core) refl below)

  -- the clocks after the turn
  module _ (restarted : Bool) (executed : ℕ) (answer : Answer) (few : executed ≤ 1000001) (clocks' : List Clock) (count : length clocks' ≡ length clocks)
      (each : (k : ℕ) → clock_at clocks' k ≡ cond (k == t.core) (answered t.at restarted executed t.price.spent answer (clock_at clocks t.core)) (clock_at clocks k)) where
    abbrev after : Free
    after = free_after free t.at t.price answer

    last_after : t.at ≤ last_in after
    last_after = (later_least after.order t.at).1

    pub turned_last : (k : ℕ) → k < cores → IsSound t.at (last_in after) (clock_at clocks' k)
    turned_last = turned_each (last_in after) answer (last_grows (at_turn free t) t.at t.price answer (omega arith))
        (λ left. omega (arith, (order_least free t.at t.price answer).1 left, (later_least after.order t.at).0)) restarted executed clocks' each

    order_most : after.order ≤ (taken + 1) * most_steps
    order_most = needed_bound (t.price.in_order || leaves answer) (t.at + total t.price.spent) free.order ((taken + 1) * most_steps) (omega (arith, by_bound, low.spent)) (omega (arith, a.order))

    pub may_wake_all : taken * most_steps < 2 ^ 60 → (k : ℕ) → k < length clocks' → MayWake t.at (clock_at clocks' k)
    may_wake_all small k below =
        may_wake t.at t.at (last_in after) (clock_at clocks' k) (omega arith)
        (omega (arith, small, later_bound after.order t.at ((taken + 1) * most_steps) order_most (omega (arith, by_bound))))
        (turned_last k (subst (λ n. k < n) (count ∙ a.count) below))

    bus_most : after.bus ≤ (taken + 1) * most_steps
    bus_most = omega (arith, held_bound free.bus t.at t.price.bus (taken * most_steps) (t.price.bus == 0) refl a.bus by_bound, low.bus)

    due_more : (n : Next) → IsDueBy (taken * most_steps) n → IsDueBy ((taken + 1) * most_steps) n
    due_more (Due at) b = omega (arith, b)
    due_more (Waits since cause) b = omega (arith, b)
    due_more Gone b = tt

    bound_by : (k : ℕ) (here : Bool) → (k == t.core) ≡ here → k < cores
        → IsDueBy ((taken + 1) * most_steps) (cond here (answered t.at restarted executed t.price.spent answer (clock_at clocks t.core)) (clock_at clocks k)).next
    bound_by k true is below =
        answered_bound ((taken + 1) * most_steps) t.at restarted executed t.price.spent answer (clock_at clocks t.core) (omega (arith, few, by_bound, low.spent))
        (due_more (clock_at clocks t.core).next (a.due t.core first.core))
    bound_by k false is below = due_more (clock_at clocks k).next (a.due k below)

    pub turned_sound : AreSound (taken + 1) cores after clocks'
    turned_sound = record {
      count = count ∙ a.count;
      few = a.few;
      each = turned_last;
      due = λ k below. subst (λ (c : Clock). IsDueBy ((taken + 1) * most_steps) c.next) (sym (each k)) (bound_by k (k == t.core) refl below);
      soon = omega (arith, by_bound);
      bus = bus_most;
      order = order_most;
    }

    pub woken_all : (clocks'' : List Clock) → length clocks'' ≡ length clocks' → ((k : ℕ) → clock_at clocks'' k ≡ woken t.at (clock_at clocks' k)) → AreSound (taken + 1) cores after clocks''
    woken_all clocks'' long are = record {
      count = long ∙ (count ∙ a.count);
      few = a.few;
      each = λ k below. subst (IsSound t.at (last_in after)) (sym (are k)) (woken_sound t.at (last_in after) (clock_at clocks' k) last_after (turned_last k below));
      due = λ k below. subst (λ (c : Clock). IsDueBy ((taken + 1) * most_steps) c.next) (sym (are k))
          (woken_bound ((taken + 1) * most_steps) t.at (clock_at clocks' k) (omega (arith, by_bound)) (turned_sound.due k below));
      soon = turned_sound.soon;
      bus = turned_sound.bus;
      order = turned_sound.order;
    }

    -- where the run is over
    module _ (end : ℕ) (is : end ≡ over_at free t.at t.price) where
      abbrev last : ℕ
      last = later free.order (t.at + total t.price.spent)

      one_back : last ≡ end - 1
      one_back = omega (arith, is)

      pub turned_end : (k : ℕ) → k < length clocks' → IsSound (end - 1) (end - 1) (clock_at clocks' k)
      turned_end k below =
          let least = later_least free.order (t.at + total t.price.spent) in
          subst (λ n. IsSound n n (clock_at clocks' k)) one_back
          (sound_later t.at last last last (clock_at clocks' k) (omega (arith, least.1)) (omega arith)
          (turned_each last answer (later_bound free.order t.at last least.0 (omega (arith, least.1))) (λ left. least.1) restarted executed clocks' each
          k (subst (λ n. k < n) (count ∙ a.count) below)))

      pub end_least : 1 ≤ end
      end_least = omega (arith, is)

      pub end_most : end ≤ (taken + 1) * most_steps
      end_most = omega (arith, is, later_bound free.order (t.at + total t.price.spent) (taken * most_steps + 69000000) (omega (arith, a.order)) (omega (arith, by_bound, low.spent)))
