-- A turn of a book over a plain store that violates no epoch.
use Rattle.std.proofs.Common.{◌≡◌, ◌≢◌, ℕ, ◌<◌, cond, List, ◌++◌, length, length-append, slice_get, Option, Some, None, Ok, option_map, refl, sym, ap, subst, ◌∙◌, inl, inr, arith, eq-eqb, ne_eqb}
use Rattle.std.proofs.lemmas.Bool.{cases_eq, cases_lt}
use Rattle.memory_bytes.proofs.SmallFacts.{ok_same}
use Rattle.rv32_image.proofs.SmallFacts.{one_value}
use Rattle.rv32_exec.specs.declared.sequential.End.{End}
use Rattle.rv32_exec.specs.Arrival.{Arrival}
use Rattle.rv32_exec.specs.Hart.{HartState}
use Rattle.spec_history.specs.declared.entry.Entry.{Entry}
use Rattle.spec_history.specs.FlatState.{CoreState, FlatState}
use Rattle.spec_history.specs.Replay.{replay}
use Rattle.spec_history.proofs.Replay.Staying.{there as below}
use Rattle.violations.specs.View.{never_waits}
use Rattle.violations.specs.Plain.{Makes, store_view}
use Rattle.homefree.specs.declared.answer.Answer.{Answer}
use Rattle.homefree.specs.declared.answer.Answer.TheVariants.{Go, Again, Left, Over, Stopped}
use Rattle.homefree.specs.Agrees.{Agrees}
use Rattle.homefree.specs.BookView.{ReplaysTo}
use Rattle.homefree.specs.Driven.{TurnedWith, arrival_of, driver, held_after, with_held}
use Rattle.homefree.specs.Held.{harts_of, held_by}
use Rattle.homefree.specs.InStep.{InStep}
use Rattle.homefree.specs.Retraced.{HaveHarts}
use Rattle.homefree.specs.Turned as turn
use Rattle.homefree.specs.Turned.{Acting, IsHandedIn, Turn, Turned, turn_at}
use Rattle.homefree.proofs.Books.Drives.{turned_at}
use Rattle.homefree.proofs.Books.Following.{turn_ends}
use Rattle.homefree.proofs.Books.Turns.{agrees_same}
use Rattle.dependences.specs.Laws.{NoneIsHurt}
use Rattle.never_or_shown.specs.declared.drive.Drive.{Drive}
use Rattle.never_or_shown.specs.Drives.{IsAfter, IsDrive, IsTurn}
use Rattle.never_or_shown.specs.Violation.{IsCalmFrom}
use Rattle.never_or_shown.specs.Quiet.{ComesTo, IsQuiet, RunsEpoch, Starts}
use Rattle.never_or_shown.proofs.Turning.{Keeps, OwnHart, acted, begins, keeps}

module _ (old new : Drive) (core : ℕ) (answer : Answer) (unstopped : old.book.stopped ≡ None) (before : InStep store_view old.book) (after : InStep store_view new.book)
    (calm : NoneIsHurt new.book.history)
    (turned : TurnedWith Makes store_view (λ _. never_waits) (driver old.book old.shares) core (harts_of old.held core) (Ok answer) (driver new.book new.shares))
    (s : FlatState) (replays : ReplaysTo old.book s) where
  abbrev next : Option Arrival
  next = option_map (arrival_of old.book.image) (harts_of old.held core)

  abbrev at : Turn
  at = turn_at (λ _. never_waits) old.book s core next

  turned_here : Turned store_view (λ _. never_waits) old.book s old.shares core next (Ok answer) new.book new.shares
  turned_here = turned_at turned s replays

  -- a turn that goes on is of a loop that does
  pub going_by : after.state.end ≡ None → (e : End) → answer ≢ Over e
  going_by still e is =
      let over = turn_ends store_view (λ _. never_waits) old.book new.book s old.shares new.shares core next (Ok answer) replays before turned_here e (ap Ok is) after.state after.replays in
      cc

  was_going_by : ((e : End) → answer ≢ Over e) → Turned store_view (λ _. never_waits) old.book s old.shares core next (Ok answer) new.book new.shares → s.end ≡ None
  was_going_by on (turn.over o same held) = absurd (on o.end (ok_same answer (Over o.end) o.answer_is))
  was_going_by on (turn.stopped o same held) = o.going
  was_going_by on (turn.full o same held) = o.going
  was_going_by on (turn.no_memory may same grows is) = may.going
  was_going_by on (turn.acts a) = a.may.going

  pub was_going : ((e : End) → answer ≢ Over e) → s.end ≡ None
  was_going on = was_going_by on turned_here

  module _ (quiet : IsQuiet s) where
    acting_by : Turned store_view (λ _. never_waits) old.book s old.shares core next (Ok answer) new.book new.shares
        → Acting store_view (λ _. never_waits) old.book new.book s old.shares new.shares core next (Ok answer)
    acting_by (turn.over o same held) = let over = o.over in let going = quiet.going in absurd cc
    acting_by (turn.stopped o same held) = let stopped = o.stopped in absurd cc
    acting_by (turn.full o same held) = let is = o.answer_is in absurd cc
    acting_by (turn.no_memory may same grows is) = absurd cc
    acting_by (turn.acts a) = a

    acting : Acting store_view (λ _. never_waits) old.book new.book s old.shares new.shares core next (Ok answer)
    acting = acting_by turned_here

    leads : replay old.book.image old.book.cores (old.book.history ++ acting.out.entries) ≡ Some after.state
    leads = let g = acting.grows in sym (λ i. replay (g.image i) (g.cores i) (g.history i)) ∙ after.replays

    calm_here : NoneIsHurt (old.book.history ++ acting.out.entries)
    calm_here = subst (λ es. NoneIsHurt es) acting.grows.history calm

    agrees : Agrees s acting.reserved
    agrees = agrees_same s (store_view old.book.store) acting.reserved (subst (λ x. Agrees x (store_view old.book.store)) (one_value (replay old.book.image old.book.cores old.book.history) before.state s before.replays replays) before.agrees) acting.same

    answer_is : answer ≡ acting.out.answer
    answer_is = ok_same answer acting.out.answer acting.answer_is

    -- of a core that runs an epoch
    pub comes_on : (epoch : ℕ) → RunsEpoch s core epoch → ComesTo old.book.image s after.state core epoch answer
    comes_on epoch runs =
        subst (λ a. ComesTo old.book.image s after.state core epoch a) (sym answer_is)
        (acted at acting.reserved (store_view new.book.store) acting.out old.book.history after.state before.is_image replays leads calm_here refl agrees quiet epoch runs acting.acts)

    -- of one that is idle, where an epoch is left
    pub comes_in : s.cores core ≡ None → s.next_epoch < old.book.image.epochs → Starts s after.state core
    comes_in idle left =
        begins at acting.reserved (store_view new.book.store) acting.out old.book.history after.state before.is_image replays leads calm_here refl agrees quiet idle left acting.acts

    -- of any
    module _ (harts : HaveHarts (harts_of old.held) s) (on : (e : End) → answer ≢ Over e) where
      hands : (c : CoreState) → s.cores core ≡ Some c → IsHandedIn next c.hart
      hands c runs = subst (λ o. IsHandedIn (option_map (arrival_of old.book.image) o) c.hart) (sym (harts core c runs (quiet.unhurt core c runs))) refl

      all_kept : Keeps at after.state acting.out
      all_kept = keeps at acting.reserved (store_view new.book.store) acting.out old.book.history after.state before.is_image replays leads calm_here refl agrees quiet hands (λ e is. on e (answer_is ∙ is)) acting.acts

      pub still_quiet : IsQuiet after.state
      still_quiet = all_kept.quiet

      own_by : (a : Answer) (c : CoreState) → acting.out.answer ≡ a → s.cores core ≡ s.cores core → OwnHart at a c → held_after a (harts_of old.held core) ≡ Some c.hart
      own_by (Go hart) c is same own = ap Some (sym own)
      own_by (Again cause) c is same own = harts core c own (quiet.unhurt core c own)
      own_by Left c is same own = absurd own
      own_by (Over e) c is same own = absurd (on e (answer_is ∙ is))
      own_by (Stopped cause) c is same own = absurd own

      pub still_harts : ((k : ℕ) → harts_of new.held k ≡ with_held (harts_of old.held) core (held_by (Ok answer) (harts_of old.held core)) k) → HaveHarts (harts_of new.held) after.state
      still_harts held k c runs unhurt = held k ∙ elim (cases_eq k core) [
        | inl e ↦ ap (λ b. cond b (held_after answer (harts_of old.held core)) (harts_of old.held k)) (eq-eqb k core e)
            ∙ (ap (λ a. held_after a (harts_of old.held core)) answer_is
            ∙ own_by acting.out.answer c refl refl (all_kept.own c (ap after.state.cores (sym e) ∙ runs)))
        | inr other ↦ ap (λ b. cond b (held_after answer (harts_of old.held core)) (harts_of old.held k)) (ne_eqb k core other)
            ∙ harts k c (sym (all_kept.others k other) ∙ runs) unhurt
      ]

      pub has_grown : (hart : HartState) → answer ≡ Go hart → length old.book.history < length new.book.history
      has_grown hart is =
          let some = all_kept.grows hart (sym answer_is ∙ is) in
          let sum = length-append old.book.history acting.out.entries in
          let whole = ap (λ es. length es) acting.grows.history in omega (arith, some, sum, whole)

-- a history with more entries, none of which is a violation
pub calm_more : (old new entries h : List Entry) (from : ℕ) → NoneIsHurt old → new ≡ old ++ entries → h ≡ new → from ≡ length old → IsCalmFrom h from → NoneIsHurt new
calm_more old new entries h from calm grown same at later place entry there = elim (cases_lt place (length old)) [
  | inl low ↦ calm place entry (sym (below old entries place low) ∙ (ap (λ es. slice_get es place) (sym grown) ∙ there))
  | inr high ↦ later place entry (omega (arith, at, high)) (ap (λ es. slice_get es place) same ∙ there)
]

-- what a drive keeps over a turn
module _ (old new : Drive) (core : ℕ) (answer : Answer) (drive : IsDrive old) (before : InStep store_view old.book) (after : InStep store_view new.book) (calm : NoneIsHurt new.book.history)
    (turned : TurnedWith Makes store_view (λ _. never_waits) (driver old.book old.shares) core (harts_of old.held core) (Ok answer) (driver new.book new.shares)) where
  module _ (on : (e : End) → answer ≢ Over e) where
    going : before.state.end ≡ None
    going = was_going old new core answer drive.unstopped before after calm turned before.state before.replays on

    pub drive_grows : (hart : HartState) → answer ≡ Go hart → length old.book.history < length new.book.history
    drive_grows hart is =
        has_grown old new core answer drive.unstopped before after calm turned before.state before.replays (drive.quiet before.state before.replays going)
        (drive.harts before.state before.replays going) on hart is

    still_drive : ((k : ℕ) → harts_of new.held k ≡ with_held (harts_of old.held) core (held_by (Ok answer) (harts_of old.held core)) k)
        → IsQuiet after.state × HaveHarts (harts_of new.held) after.state
    still_drive held = (
      still_quiet old new core answer drive.unstopped before after calm turned before.state before.replays (drive.quiet before.state before.replays going)
          (drive.harts before.state before.replays going) on,
      still_harts old new core answer drive.unstopped before after calm turned before.state before.replays (drive.quiet before.state before.replays going)
          (drive.harts before.state before.replays going) on held,
    )

  pub drive_still : ((k : ℕ) → harts_of new.held k ≡ with_held (harts_of old.held) core (held_by (Ok answer) (harts_of old.held core)) k)
      → (s : FlatState) → ReplaysTo new.book s → s.end ≡ None → IsQuiet s × HaveHarts (harts_of new.held) s
  drive_still held s replays going_on =
      let same : after.state ≡ s = one_value (replay new.book.image new.book.cores new.book.history) after.state s after.replays replays in
      let still : after.state.end ≡ None = ap (λ (x : FlatState). x.end) same ∙ going_on in
      subst (λ (x : FlatState). IsQuiet x × HaveHarts (harts_of new.held) x) same
      (still_drive (going_by old new core answer drive.unstopped before after calm turned before.state before.replays still) held)

go_isnt : (hart : HartState) (e : End) (a : Answer) → a ≡ Go hart → a ≢ Over e
go_isnt hart e a is over = cc

-- where it goes on the history has grown
pub go_grows : (old new : Drive) (core : ℕ) (answer : Answer) (drive : IsDrive old) (before : InStep store_view old.book) (after : InStep store_view new.book) (calm : NoneIsHurt new.book.history)
    → TurnedWith Makes store_view (λ _. never_waits) (driver old.book old.shares) core (harts_of old.held core) (Ok answer) (driver new.book new.shares)
    → (hart : HartState) → answer ≡ Go hart → length old.book.history < length new.book.history
go_grows old new core answer drive before after calm turned hart is = drive_grows old new core answer drive before after calm turned (λ e. go_isnt hart e answer is) hart is

-- the same, of a turn
module _ (old new : Drive) (core : ℕ) (answer : Answer) (x : IsTurn old new core answer) (s : FlatState) (replays : ReplaysTo old.book s) (quiet : IsQuiet s) where
  pub goes_on : (epoch : ℕ) → RunsEpoch s core epoch → IsAfter old.book.image new.book s core epoch answer
  goes_on epoch runs = record {
    state = x.after.state;
    replays = x.after.replays;
    comes = comes_on old new core answer x.unstopped x.before x.after x.drive.calm x.turned s replays quiet epoch runs;
  }

  pub starts : s.cores core ≡ None → s.next_epoch < old.book.image.epochs → Starts s x.after.state core
  starts idle left = comes_in old new core answer x.unstopped x.before x.after x.drive.calm x.turned s replays quiet idle left
