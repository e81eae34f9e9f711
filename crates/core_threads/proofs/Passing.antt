-- Passes that go on, that are split and joined, and what they have counted.
use Rattle.std.proofs.Common.{◌≡◌, ℕ, ◌<◌, ◌≤◌, ◌+◌, ◌^◌, Bool, true, false, cond, List, [], length, refl, sym, ap, ◌∙◌, subst, arith}
use Rattle.std.specs.Prelude.{nat_lt}
use Rattle.run_ledger.specs.declared.counts.Counts.{Counts}
use Rattle.run_ledger.specs.Counts.{no_counts, sum_of, IsAtMost}
use Rattle.spec_history.specs.declared.entry.What.{What}
use Rattle.spec_history.specs.Replay.{counts_of}
use Rattle.ticket_lock.specs.Past.{entries_of}
use Rattle.ticket_lock.specs.Known.{LockOf, Hold, mine, joined_pass}
use Rattle.ticket_lock.proofs.Pasts.{starts_trans, entries_of-entries_of}
use Rattle.homefree.specs.declared.book.Loop.{Loop}
use Rattle.homefree.specs.BookView.{BookView}
use Rattle.homefree.specs.LockView.{loop_of, past_of}
use Rattle.homefree.specs.Room.{most_room}
use Rattle.core_threads.specs.Passes.{Knows, IsLater, IsCounted, counts_in}
use Rattle.core_threads.specs.Starting.{IsNew, IsNewOf, HasBook, HasBookAs}
use Rattle.core_threads.proofs.Counting.{few_in, own_no_more, counts_of_both}

abbrev Past : Type 0
Past = List (ℕ × What)

pub later_trans : (p q r : Knows) → IsLater p q → IsLater q r → IsLater p r
later_trans p q r a b = record { lock = b.lock ∙ a.lock; lo = b.lo ∙ a.lo; hi = b.hi ∙ a.hi; seen = starts_trans b.seen a.seen }

counts-empty : counts_in [] ≡ no_counts
unfolding counts_of
counts-empty = refl

pub new_counted : (p : Knows) (c : Counts) → mine p ≡ [] → length p.seen ≤ most_room → c ≡ no_counts → IsCounted p c
new_counted p c none few is = record { counted = is ∙ (sym counts-empty ∙ sym (ap (λ (l : Past). counts_in l) none)); few = few }

-- a pass that has no entries of its own has none in its parts
part_below : (p : Knows) (k : ℕ) → k ≤ p.hi → mine p ≡ [] → entries_of p.lo k p.seen ≡ []
part_below p k high none = sym (entries_of-entries_of p.lo k p.lo p.hi (omega arith) high p.seen) ∙ ap (λ (l : Past). entries_of p.lo k l) none

part_from : (p : Knows) (k : ℕ) → p.lo ≤ k → mine p ≡ [] → entries_of k p.hi p.seen ≡ []
part_from p k low none = sym (entries_of-entries_of k p.hi p.lo p.hi low (omega arith) p.seen) ∙ ap (λ (l : Past). entries_of k p.hi l) none

module _ (l : LockOf Loop) where
  -- the numbers below k of a pass that has made no entry, and those from k on
  pub new_below : (p q : Knows) (k : ℕ) → q ≡ record p { hi = k } → p.lo < k → k ≤ p.hi → IsNew l p → IsNewOf l p.lo k q
  new_below p q k is low high n =
      let r : Knows = record p { hi = k } in
      let new : IsNewOf l p.lo k r = (record { lock = n.lock; some = low; none = part_below p k high n.none; few = n.few }, refl, refl) in
      subst (λ (z : Knows). IsNewOf l p.lo k z) (sym is) new

  pub new_from : (p q : Knows) (k : ℕ) → q ≡ record p { lo = k } → p.lo ≤ k → k < p.hi → IsNew l p → IsNewOf l k p.hi q
  new_from p q k is low high n =
      let r : Knows = record p { lo = k } in
      let new : IsNewOf l k p.hi r = (record { lock = n.lock; some = high; none = part_from p k low n.none; few = n.few }, refl, refl) in
      subst (λ (z : Knows). IsNewOf l k p.hi z) (sym is) new

  pub new_shares : (p : Knows) (c : Counts) → IsNew l p → c ≡ no_counts → IsCounted p c
  new_shares p c n zero = new_counted p c n.none n.few zero

  -- such a pass that has taken the book, and one that could not
  pub takes_new : {S : Type 0} (n : ℕ) (p : Knows) (h : Hold Loop What (BookView S)) → IsNewOf l n (n + 1) p → h.pass ≡ record p { seen = past_of h.value.history } → loop_of h.value ≡ l.fixed
      → mine h.pass ≡ mine p → HasBookAs l n h
  takes_new n p h (new, lo, hi) is fixed own =
      let same_lo : h.pass.lo ≡ p.lo = ap (λ (z : Knows). z.lo) is in
      let same_hi : h.pass.hi ≡ p.hi = ap (λ (z : Knows). z.hi) is in
      let held : HasBook l h = record {
        lock = ap (λ (z : Knows). z.lock) is ∙ new.lock;
        some = subst (λ (z : Knows). z.lo < z.hi) (sym is) new.some;
        none = own ∙ new.none;
        seen = ap (λ (z : Knows). z.seen) is;
        fixed = fixed;
      } in
      (held, same_lo ∙ lo, same_hi ∙ hi)

  pub stays_new : (n k : ℕ) (p q : Knows) → IsNewOf l n k p → q ≡ record p { out = true } → IsNewOf l n k q
  stays_new n k p q (new, lo, hi) is =
      let r : Knows = record p { out = true } in
      let still : IsNewOf l n k r = (record { lock = new.lock; some = new.some; none = new.none; few = new.few }, lo, hi) in
      subst (λ (z : Knows). IsNewOf l n k z) (sym is) still

few_longer : (a b : Past) (n : ℕ) → length a ≤ n → length b ≤ n → (t : Bool) → length (cond t b a) ≤ n
few_longer a b n x y true = y
few_longer a b n x y false = x

-- two passes side by side, with what each has counted, in one
pub both_counted : (a b r : Knows) (c d : Counts) → a.hi ≡ b.lo → a.lo ≤ a.hi → b.lo ≤ b.hi → IsCounted a c → IsCounted b d
    → r ≡ joined_pass a b → entries_of a.lo a.hi (mine r) ≡ mine a → entries_of b.lo b.hi (mine r) ≡ mine b → IsCounted r (sum_of c d)
both_counted a b r c d beside low high ca cb is ma mb =
    let rlo : r.lo ≡ a.lo = ap (λ (z : Knows). z.lo) is in
    let rhi : r.hi ≡ b.hi = ap (λ (z : Knows). z.hi) is in
    let M : Past = mine r in
    let whole : counts_in (entries_of a.lo b.hi M) ≡ sum_of (counts_in (entries_of a.lo a.hi M)) (counts_in (entries_of a.hi b.hi M)) = counts_of_both a.lo a.hi b.hi low (omega arith) M in
    let again : entries_of a.lo b.hi M ≡ M = (λ i. entries_of a.lo b.hi (entries_of (rlo i) (rhi i) r.seen)) ∙ (entries_of-entries_of a.lo b.hi a.lo b.hi (omega arith) (omega arith) r.seen ∙ (λ i. entries_of (sym rlo i) (sym rhi i) r.seen)) in
    let two : entries_of a.hi b.hi M ≡ mine b = (λ i. entries_of (beside i) b.hi M) ∙ mb in
    let sums : counts_in M ≡ sum_of c d = ap (λ (l : Past). counts_in l) (sym again) ∙ (whole ∙ (λ i. sum_of ((ap (λ (l : Past). counts_in l) ma ∙ sym ca.counted) i) ((ap (λ (l : Past). counts_in l) two ∙ sym cb.counted) i))) in
    record {
      counted = sym sums;
      few = subst (λ (z : Knows). length z.seen ≤ most_room) (sym is) (few_longer a.seen b.seen most_room ca.few cb.few (nat_lt (length a.seen) (length b.seen)));
    }

-- no sum of two shares is large
pub may_gather : (r : Knows) (c d : Counts) → IsCounted r (sum_of c d) → IsAtMost (2 ^ 63) (sum_of c d)
may_gather r c d k =
    let f = few_in r.seen in
    let o = own_no_more r.lo r.hi r.seen in
    let fl = f.loads in let fs = f.stores in let fr = f.restarts in let fc = f.commits in
    let ol = o.loads in let os = o.stores in let ore = o.restarts in let oc = o.commits in
    let n = k.few in
    let small : IsAtMost (2 ^ 63) (counts_in (mine r)) = record { loads = omega arith; stores = omega arith; restarts = omega arith; commits = omega arith } in
    subst (IsAtMost (2 ^ 63)) (sym k.counted) small

-- so with the shares that were gathered
pub all_gathered : (r : Knows) (c d all : Counts) → all ≡ sum_of c d → IsCounted r (sum_of c d) → IsCounted r all
all_gathered r c d all is counted = subst (IsCounted r) (sym is) counted

-- a promise that was kept of the pass that it was made for
pub kept_of : (p q r : Knows) (c : Counts) → q ≡ p → IsLater q r × IsCounted r c → IsLater p r × IsCounted r c
kept_of p q r c is kept = subst (λ (z : Knows). IsLater z r × IsCounted r c) is kept
