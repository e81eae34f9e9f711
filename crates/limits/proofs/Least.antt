-- Steps that are as early as they can be are a timing, and no timing has earlier ones.
use Rattle.std.proofs.Common.{◌≡◌, ℕ, zero, suc, ◌+◌, ◌-◌, ◌*◌, ◌<◌, ◌≤◌, List, length, slice_index, refl, sym, ap, subst, ◌∙◌, inl, inr, arith}
use Rattle.std.proofs.lemmas.Bool.{cases_lt}
use Rattle.rv32_image.specs.Image.{LoadedImage}
use Rattle.epoch_paths.specs.InOrder.{AreAll}
use Rattle.epoch_paths.specs.Lengths.{Lasts}
use Rattle.limits.specs.declared.limit.Waits.{Waits}
use Rattle.limits.specs.declared.limit.Waits.TheVariants.{Commit, Store}
use Rattle.limits.specs.Limits.{IsLimit, IsTiming, Timing, awaited, steps_of}
use Rattle.limits.specs.Kept.{HasWaited, HaveRun, IsEarliest, Kept, last_commit}
use Rattle.limits.proofs.Extending.{last_none}
use Rattle.limits.proofs.Stopping.{lasts_once, lasts_some, before_end}

-- ---- any timing

module _ (image : LoadedImage) (waits : Waits) (cores epochs : ℕ) (t : Timing) (is : IsTiming image waits cores epochs t) where
  pub climbs : (epoch length place k : ℕ) → epoch < epochs → Lasts image epoch length → place + k ≤ length → t.at epoch place + k ≤ t.at epoch (place + k)
  climbs epoch length place zero low lasts within =
      let same : place + 0 ≡ place = omega arith in rw same (omega arith)
  climbs epoch length place (suc k) low lasts within =
      let before = climbs epoch length place k low lasts (omega (arith, within)) in
      let more = is.next epoch (place + k) length low lasts (omega (arith, within)) in
      let same : place + suc k ≡ place + k + 1 = omega arith in rw same (omega (arith, before, more))

  -- each further place takes a step at least
  climb : (epoch length place place' : ℕ) → epoch < epochs → Lasts image epoch length → place ≤ place' → place' ≤ length
      → t.at epoch place + place' ≤ t.at epoch place' + place
  climb epoch length place place' low lasts up within =
      let sum : place + (place' - place) ≡ place' = omega (arith, up) in
      let more = climbs epoch length place (place' - place) low lasts (omega (arith, up, within)) in
      let there = ap (t.at epoch) sum in omega (arith, more, there, up)

-- where each load waits for a commit, it waits for the store
store_by_commit : (image : LoadedImage) (cores epochs : ℕ) (t : Timing) → AreAll image epochs → IsTiming image Commit cores epochs t → IsTiming image Store cores epochs t
store_by_commit image cores epochs t all is = record {
  begins = is.begins;
  first = is.first;
  next = is.next;
  ready = λ epoch place byte earlier stored depends.
      let low = all.no_more epoch depends.within depends.in_order in
      let before = depends.store.before in
      let low' : earlier < epochs = omega (arith, low, before) in
      let some = lasts_some image earlier in
      let within = before_end image earlier some.0 stored byte some.1 depends.store.there in
      let up = climb image Commit cores epochs t is earlier some.0 stored some.0 low' some.1 within (omega arith) in
      let ends = is.ends earlier some.0 low' some.1 in
      let ready = is.ready epoch place byte earlier stored depends in omega (arith, up, ends, ready, within);
  ends = is.ends;
  in_order = is.in_order;
}

pub store_within_commit : (image : LoadedImage) (cores forward commit : ℕ) → IsLimit image Store cores forward → IsLimit image Commit cores commit → forward ≤ commit
store_within_commit image cores forward commit first second =
    let most = most_by first.epochs second.epochs first.all second.all in
    let least = most_by second.epochs first.epochs second.all first.all in
    let same : second.epochs ≡ first.epochs = omega (arith, most, least) in
    let is : IsTiming image Store cores first.epochs second.timing =
    subst (λ n. IsTiming image Store cores n second.timing) same (store_by_commit image cores second.epochs second.timing second.all second.is) in
    let low = first.least second.timing is in
    let steps = sym (ap (λ n. steps_of n second.timing) same) ∙ second.steps_are in omega (arith, low, steps)
  where
    most_by : (n m : ℕ) → AreAll image n → AreAll image m → n ≤ m
    most_by zero m one other = omega arith
    most_by (suc n) m one other =
        let within = one.most in
        let here = other.no_more n (omega (arith, within)) (one.each n (omega arith)) in omega (arith, here)

-- ---- the earliest steps

-- no step of this epoch is earlier in the other timing
record IsNoLater (image : LoadedImage) (t late : Timing) (epoch : ℕ) : Type 0 where
  pub commit : t.commit epoch ≤ late.commit epoch
  pub at : (place length : ℕ) → Lasts image epoch length → place ≤ length → t.at epoch place ≤ late.at epoch place

awaited_no_later : (image : LoadedImage) (waits : Waits) (t late : Timing) (earlier stored length : ℕ) → IsNoLater image t late earlier → Lasts image earlier length
    → stored ≤ length → awaited waits t earlier stored ≤ awaited waits late earlier stored
awaited_no_later image Store t late earlier stored length less lasts within = less.at stored length lasts within
awaited_no_later image Commit t late earlier stored length less lasts within = less.commit

module _ (image : LoadedImage) (waits : Waits) (cores epochs : ℕ) (t : Timing) (each : (d : ℕ) → d < epochs → IsEarliest image waits cores t d) where
  pub earliest_timing : AreAll image epochs → IsTiming image waits cores epochs t
  earliest_timing all = record {
    begins = λ epoch low. let late = (each (epoch + cores) low).begin.late epoch refl in omega (arith, late);
    first = λ epoch low. let one = each epoch low in let begins = one.are.first in let at = one.at 0 in omega (arith, begins, at);
    next = λ epoch place length low lasts within.
        let one = each epoch low in
        let rise = one.are.rise place in
        let at = one.at place in
        let at' = one.at (place + 1) in omega (arith, rise, at, at');
    ready = λ epoch place byte earlier stored depends. (each epoch (all.no_more epoch depends.within depends.in_order)).ready place byte earlier stored depends;
    ends = λ epoch length low lasts.
        let one = each epoch low in subst (λ n. t.at epoch n ≤ t.commit epoch) (lasts_once image epoch one.length length one.lasts lasts) one.ends;
    in_order = λ epoch low. (each (epoch + 1) low).in_order epoch refl;
  }

  module _ (some : 1 ≤ cores) (late : Timing) (is : IsTiming image waits cores epochs late) where
    waited_no_later : (epoch place base length : ℕ) → epoch < epochs → ((d : ℕ) → d < epoch → IsNoLater image t late d)
        → HasWaited image waits t epoch place base → Lasts image epoch length → place ≤ length → base + place ≤ late.at epoch place
    waited_no_later epoch place base length low before w lasts within =
        let less = w.depends.store.before in
        let one = each w.earlier (omega (arith, less, low)) in
        let stored = before_end image w.earlier one.length w.stored w.byte one.lasts w.depends.store.there in
        let awaited_low = awaited_no_later image waits t late w.earlier w.stored one.length (before w.earlier less) one.lasts stored in
        let ready = is.ready epoch w.load w.byte w.earlier w.stored w.depends in
        let there = w.is in
        let from = w.low in
        let up = climb image waits cores epochs late is epoch length w.load place low lasts from within in
        omega (arith, awaited_low, ready, there, up)

    begun_no_later : (epoch : ℕ) → epoch < epochs → ((d : ℕ) → d < epoch → IsNoLater image t late d) → t.begin epoch ≤ late.begin epoch
    begun_no_later epoch low before = elim (cases_lt epoch cores) [
      | inl early ↦ (let none = (each epoch low).begin.early early in omega (arith, none))
      | inr from ↦
          (let sum : epoch ≡ epoch - cores + cores = omega (arith, from) in
          let begin = (each epoch low).begin.late (epoch - cores) sum in
          let less = (before (epoch - cores) (omega (arith, from, some))).commit in
          let after : late.commit (epoch - cores) < late.begin epoch = subst (λ n. late.commit (epoch - cores) < late.begin n) (sym sum) (is.begins (epoch - cores) (omega (arith, sum, low))) in
          omega (arith, begin, less, after))
    ]

    at_no_later : (epoch place length : ℕ) → epoch < epochs → ((d : ℕ) → d < epoch → IsNoLater image t late d) → Lasts image epoch length → place ≤ length
        → t.at epoch place ≤ late.at epoch place
    at_no_later epoch place length low before lasts within =
        let one = each epoch low in
        let there = one.at place in
        elim (one.are.why place) [
          | inl at_once ↦
              (let begun = begun_no_later epoch low before in
              let first = is.first epoch low in
              let up = climb image waits cores epochs late is epoch length 0 place low lasts (omega arith) within in
              omega (arith, there, at_once, begun, first, up))
          | inr waited ↦ (let less = waited_no_later epoch place (one.bases place) length low before waited lasts within in omega (arith, there, less))
        ]

    commit_no_later : (epoch : ℕ) → epoch < epochs → ((d : ℕ) → d < epoch → IsNoLater image t late d) → t.commit epoch ≤ late.commit epoch
    commit_no_later epoch low before =
        let one = each epoch low in
        elim one.commits [
          | inl at_end ↦
              (let less = at_no_later epoch one.length one.length low before one.lasts (omega arith) in
              let ends = is.ends epoch one.length low one.lasts in omega (arith, at_end, less, ends))
          | inr after ↦
              (let number = after.1 in
              let same = after.2 in
              let less = (before after.0 (omega (arith, number))).commit in
              let order : late.commit after.0 ≤ late.commit epoch = subst (λ n. late.commit after.0 ≤ late.commit n) (sym number) (is.in_order after.0 (omega (arith, number, low))) in
              omega (arith, same, less, order))
        ]

    all_no_later : (n epoch : ℕ) → epoch < n → n ≤ epochs → IsNoLater image t late epoch
    all_no_later zero epoch low within = absurd (omega (arith, low))
    all_no_later (suc n) epoch low within = elim (cases_lt epoch n) [
      | inl less ↦ all_no_later n epoch less (omega (arith, within))
      | inr from ↦
          (let before : (d : ℕ) → d < epoch → IsNoLater image t late d = λ d less. all_no_later n d (omega (arith, less, low)) (omega (arith, within)) in
          let here : epoch < epochs = omega (arith, low, within) in
          record { commit = commit_no_later epoch here before; at = λ place length lasts most. at_no_later epoch place length here before lasts most })
    ]

    steps_no_later : (n : ℕ) → n ≡ epochs → steps_of n t ≤ steps_of n late
    steps_no_later zero is_all = omega arith
    steps_no_later (suc last) is_all = let less = (all_no_later epochs last (omega (arith, is_all)) (omega arith)).commit in omega (arith, less)

  pub earliest_limit : 1 ≤ cores → AreAll image epochs → (steps : ℕ) → steps_of epochs t ≡ steps → IsLimit image waits cores steps
  earliest_limit some all steps are = record {
    epochs = epochs;
    all = all;
    timing = t;
    is = earliest_timing all;
    steps_are = are;
    least = λ late is. let less = steps_no_later some late is epochs refl in omega (arith, less, are);
  }

-- ---- what is kept of all epochs

last_is : (n : ℕ) (commits : List ℕ) (t : Timing) → length commits ≡ n → ((d : ℕ) → d < n → slice_index commits d ≡ t.commit d) → last_commit commits + 1 ≡ steps_of n t
last_is zero commits t long are =
    let none = last_none commits long in ap (λ n. n + 1) none
last_is (suc last) commits t long are =
    let place : length commits - 1 ≡ last = omega (arith, long) in
    let here = ap (slice_index commits) place ∙ are last (omega arith) in ap (λ n. n + 1) here

pub run_limit : (image : LoadedImage) (cores : ℕ) (waits : Waits) (s : Kept) → 1 ≤ cores → HaveRun image cores waits s → IsLimit image waits cores (last_commit s.commits + 1)
run_limit image cores waits s some x =
    earliest_limit image waits cores x.epochs x.timing x.before.each some x.all (last_commit s.commits + 1) (sym (last_is x.epochs s.commits x.timing x.before.long x.before.are))

pub run_soon : (image : LoadedImage) (cores : ℕ) (waits : Waits) (s : Kept) → HaveRun image cores waits s → image.epochs ≤ 65535 → last_commit s.commits ≤ 65535 * 1000002
run_soon image cores waits s x few =
    let is = last_is x.epochs s.commits x.timing x.before.long x.before.are in let low = soon_by x.epochs refl in omega (arith, is, low)
  where
    soon_by : (n : ℕ) → n ≡ x.epochs → steps_of n x.timing ≤ 65535 * 1000002 + 1
    soon_by zero all = omega arith
    soon_by (suc last) all =
        let most = x.all.most in
        let soon = x.before.soon last (omega (arith, all)) in omega (arith, all, most, few, soon)
