-- The entries of a turn are all of the core that takes it.
use Rattle.std.proofs.Common.{◌≡◌, ℕ, zero, suc, ◌<◌, Bool, true, false, cond, All, List, [], ◌++◌, refl, sym, subst}
use Rattle.std.proofs.lemmas.List.Elements.{All-nil, All-cons, All-append, All-weaker}
use Rattle.spec_history.specs.declared.entry.Entry.{Entry}
use Rattle.spec_history.specs.declared.entry.What.{What}
use Rattle.spec_history.specs.FlatState.{CoreState}
use Rattle.violations.specs.View.{StoreView}
use Rattle.homefree.specs.declared.answer.Answer.{Answer}
use Rattle.homefree.specs.Hurts.{entry, entry_for_each, hurts}
use Rattle.homefree.specs.Turned.{Turn, Outcome, does, publish_of}
use Rattle.homefree.specs.Turned as turn

abbrev pub AllBy : ℕ → List Entry → Type 0
AllBy by entries = All (λ (e : Entry). e.by ≡ by) entries

none_by : (by : ℕ) → AllBy by []
none_by by = All-nil (λ (e : Entry). e.by ≡ by)

one_by : (by : ℕ) (what : What) → AllBy by (entry by what)
one_by by what = All-cons (λ (e : Entry). e.by ≡ by) (record { by = by; what = what }) [] refl (none_by by)

both_by : (by : ℕ) (first later : List Entry) → AllBy by first → AllBy by later → AllBy by (first ++ later)
both_by by first later one two = All-append (λ (e : Entry). e.by ≡ by) first later one two

if_by : (by : ℕ) (b : Bool) (what : What) → AllBy by (cond b (entry by what) [])
if_by by true what = one_by by what
if_by by false what = none_by by

each_by : (by : ℕ) (these : ℕ → Bool) (what : ℕ → What) (n : ℕ) → AllBy by (entry_for_each by these what n)
each_by by these what zero = none_by by
each_by by these what (suc n) = both_by by (entry_for_each by these what n) (cond (these n) (entry by (what n)) []) (each_by by these what n) (if_by by (these n) (what n))

-- a batch of hurts or cancels, and then an entry
then_by : (by : ℕ) (these : ℕ → Bool) (what : ℕ → What) (n : ℕ) (last : What) → AllBy by (entry_for_each by these what n ++ entry by last)
then_by by these what n last = both_by by (entry_for_each by these what n) (entry by last) (each_by by these what n) (one_by by last)

entries_are : (by : ℕ) (out : Outcome) (entries : List Entry) (answer : Answer) → out ≡ does entries answer → AllBy by entries → AllBy by out.entries
entries_are by out entries answer is all = subst (λ (o : Outcome). AllBy by o.entries) (sym is) all

published_by : (t : Turn) (b : Bool) (hurt : ℕ → Bool) (what : What) → AllBy t.core (cond b [] (hurts t.cores t.state t.core hurt ++ entry t.core what))
published_by t true hurt what = none_by t.core
published_by t false hurt what = then_by t.core hurt _ t.cores what

straight_by : (t : Turn) (c : CoreState) (first hurt : ℕ → Bool) (what : What) → AllBy t.core (publish_of t c first ++ (hurts t.cores t.state t.core hurt ++ entry t.core what))
straight_by t c first hurt what = both_by t.core (publish_of t c first) _ (published_by t c.straight first _) (then_by t.core hurt _ t.cores what)

follows_by : (t : Turn) (v w : StoreView) (out : Outcome) → turn.Follows t v w out → AllBy t.core out.entries
follows_by t v w out (turn.loads l) = entries_are t.core out _ _ l.out_is (then_by t.core l.hurt _ t.cores _)
follows_by t v w out (turn.stores l) = entries_are t.core out _ _ l.out_is (then_by t.core l.hurt _ t.cores _)
follows_by t v w out (turn.waits l) = entries_are t.core out _ _ l.out_is (none_by t.core)
follows_by t v w out (turn.loads_straight l) = entries_are t.core out _ _ l.out_is (straight_by t l.core l.first l.hurt _)
follows_by t v w out (turn.stores_straight l) = entries_are t.core out _ _ l.out_is (straight_by t l.core l.first l.hurt _)
follows_by t v w out (turn.is_early l) = entries_are t.core out _ _ l.out_is (none_by t.core)
follows_by t v w out (turn.commits l) = entries_are t.core out _ _ l.out_is (then_by t.core l.hurt _ t.cores _)
follows_by t v w out (turn.exits_loop l) = entries_are t.core out _ _ l.out_is
    (both_by t.core (hurts t.cores t.state t.core l.hurt) _ (each_by t.core l.hurt _ t.cores) (then_by t.core _ _ t.cores _))
follows_by t v w out (turn.faults l) = entries_are t.core out _ _ l.out_is (then_by t.core l.hurt _ t.cores _)

pub acts_by : (t : Turn) (v w : StoreView) (out : Outcome) → turn.Acts t v w out → AllBy t.core out.entries
acts_by t v w out (turn.starts l) = entries_are t.core out _ _ l.out_is (one_by t.core _)
acts_by t v w out (turn.finds_none l) = entries_are t.core out _ _ l.out_is (none_by t.core)
acts_by t v w out (turn.restarts l) = entries_are t.core out _ _ l.out_is (one_by t.core _)
acts_by t v w out (turn.is_told l) = entries_are t.core out _ _ l.out_is (none_by t.core)
acts_by t v w out (turn.follows l) = follows_by t v w out l

-- they are of one of the cores
pub of_cores : (by count : ℕ) (entries : List Entry) → by < count → AllBy by entries → All (λ (e : Entry). e.by < count) entries
of_cores by count entries there all =
    All-weaker (λ (e : Entry). e.by ≡ by) (λ (e : Entry). e.by < count) (λ e is. subst (λ n. n < count) (sym is) there) entries all
