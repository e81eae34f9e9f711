-- A run in which no core restarts loses no step by a restart.
use Rattle.std.proofs.Common.{◌≡◌, ℕ, zero, suc, ◌-◌, ◌==◌, Bool, true, false, if◌then◌else◌, refl, arith}
use Rattle.homefree.specs.declared.answer.Answer.{Answer}
use Rattle.homefree.specs.declared.answer.Answer.TheVariants.{Go, Again, Left, Over, Stopped}
use Rattle.homefree.specs.declared.answer.Cause.{Cause}
use Rattle.homefree.specs.declared.answer.Cause.TheVariants.{NoEpoch, NotHomefree, NoWay, OrbFull, OrbBusy}
use Rattle.even_speed.specs.declared.account.Account.{Account}
use Rattle.even_speed.specs.declared.account.Spent.{Spent}
use Rattle.even_speed.specs.declared.clock.Clock.{Clock}
use Rattle.even_speed.specs.declared.clock.Next.{Next}
use Rattle.even_speed.specs.declared.clock.Next.TheVariants.{Due, Waits, Gone}
use Rattle.even_speed.specs.declared.clocks.Turn.{Turn}
use Rattle.even_speed.specs.Account.{with_waited}
use Rattle.even_speed.specs.Clocks.{account_of, answered, closed, late, late_clocks, woken, woken_by, woken_from}

abbrev pub LosesNone : Clock → Type 0
LosesNone c = c.account.lost ≡ 0

-- one of two
one_of : (b : Bool) (x y : Account) → x.lost ≡ 0 → y.lost ≡ 0 → (if b then x else y).lost ≡ 0
one_of true x y first second = first
one_of false x y first second = second

clock_of : (b : Bool) (x y : Clock) → LosesNone x → LosesNone y → LosesNone (if b then x else y)
clock_of true x y first second = first
clock_of false x y first second = second

not_again : (runs restarted : Bool) (x c y : Clock) → restarted ≡ false → LosesNone c → LosesNone y → LosesNone (if runs then (if restarted then x else c) else y)
not_again true true x c y none first second = absurd cc
not_again true false x c y none first second = first
not_again false restarted x c y none first second = second

waited_none : (cause : Cause) (n : ℕ) (a : Account) → a.lost ≡ 0 → (with_waited cause n a).lost ≡ 0
waited_none NoEpoch n a none = none
waited_none NotHomefree n a none = none
waited_none NoWay n a none = none
waited_none OrbFull n a none = none
waited_none OrbBusy n a none = none

woken_by_next : (n : Next) (at : ℕ) (c : Clock) → LosesNone c → LosesNone (woken_from n at c)
woken_by_next (Due due) at c none = none
woken_by_next (Waits since cause) at c none = waited_none cause (at - since) c.account none
woken_by_next Gone at c none = none

woken_none : (at : ℕ) (c : Clock) → LosesNone c → LosesNone (woken at c)
woken_none at c none = woken_by_next c.next at c none

late_none : (queues : Bool) (due at : ℕ) (c : Clock) → LosesNone c → LosesNone (late queues due at c)
late_none true due at c none = none
late_none false due at c none = none

answered_none : (answer : Answer) (at : ℕ) (restarted : Bool) (executed : ℕ) (spent : Spent) (c : Clock) → restarted ≡ false → LosesNone c
    → LosesNone (answered at restarted executed spent answer c)
answered_none (Go hart) at restarted executed spent c never none = not_again c.runs restarted _ c _ never none none
answered_none (Again NoEpoch) at restarted executed spent c never none = none
answered_none (Again NotHomefree) at restarted executed spent c never none = none
answered_none (Again NoWay) at restarted executed spent c never none = none
answered_none (Again OrbFull) at restarted executed spent c never none = none
answered_none (Again OrbBusy) at restarted executed spent c never none = none
answered_none Left at restarted executed spent c never none = one_of c.runs _ _ none none
answered_none (Over end) at restarted executed spent c never none = one_of c.runs _ _ none none
answered_none (Stopped cause) at restarted executed spent c never none = none

each_woken : (answer : Answer) (at : ℕ) (clocks : ℕ → Clock) (k : ℕ) → LosesNone (clocks k) → LosesNone (woken_by answer at clocks k)
each_woken (Go hart) at clocks k none = woken_none at (clocks k) none
each_woken (Again cause) at clocks k none = none
each_woken Left at clocks k none = woken_none at (clocks k) none
each_woken (Over end) at clocks k none = none
each_woken (Stopped cause) at clocks k none = none

-- after a turn
pub turn_none : (clocks : ℕ → Clock) (queues : Bool) (t : Turn) (answer : Answer) (restarted : Bool) (executed : ℕ) (spent : Spent) → restarted ≡ false → ((k : ℕ) → LosesNone (clocks k))
    → (k : ℕ) → LosesNone (woken_by answer t.at (λ j. if j == t.core then answered t.at restarted executed spent answer (late_clocks queues clocks t j) else late_clocks queues clocks t j) k)
turn_none clocks queues t answer restarted executed spent never none k =
    let was : LosesNone (late_clocks queues clocks t k) = clock_of (k == t.core) (late queues t.due t.at (clocks k)) (clocks k) (late_none queues t.due t.at (clocks k) (none k)) (none k) in
    each_woken answer t.at (λ j. if j == t.core then answered t.at restarted executed spent answer (late_clocks queues clocks t j) else late_clocks queues clocks t j) k
    (clock_of (k == t.core) (answered t.at restarted executed spent answer (late_clocks queues clocks t k)) (late_clocks queues clocks t k)
    (answered_none answer t.at restarted executed spent (late_clocks queues clocks t k) never was) was)

closed_none : (end : ℕ) (c : Clock) → LosesNone c → LosesNone (closed end c)
closed_none end c none = let was = woken_none end c none in one_of (woken end c).runs _ _ was was

-- at the end
pub all_none : (end : ℕ) (clocks : ℕ → Clock) (n : ℕ) → ((k : ℕ) → LosesNone (clocks k)) → (account_of end clocks n).lost ≡ 0
unfolding account_of
all_none end clocks zero none = refl
all_none end clocks (suc n) none = omega (arith, all_none end clocks n none, closed_none end (clocks n) (none n))
