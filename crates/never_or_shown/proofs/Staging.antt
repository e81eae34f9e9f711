-- How far a schedule has come after each of its turns and runs.
use Rattle.std.proofs.Common.{◌≡◌, ◌≢◌, ℕ, ◌+◌, ◌<◌, ◌≤◌, Bool, cond, [], slice_get, Some, None, ne_eqb, Result, Ok, Err, MatchResult, refl, sym, ap, subst, ◌∙◌, inl, inr, true≢false, arith}
use Rattle.std.proofs.lemmas.Bool.{cases_eq, cases_lt}
use Rattle.std.proofs.lemmas.Option.{none-some}
use Rattle.std.proofs.Math.ListN.{replicate}
use Rattle.rv32_image.specs.Image.{LoadedImage, IsImage}
use Rattle.rv32_image.proofs.SmallFacts.{one_value}
use Rattle.rv32_exec.specs.declared.sequential.End.TheVariants.{Done}
use Rattle.run_ledger.specs.declared.counts.Counts.{Counts}
use Rattle.spec_history.specs.declared.entry.Entry.{Entry}
use Rattle.spec_history.specs.FlatState.{CoreState, FlatState, first_state}
use Rattle.spec_history.specs.Replay.{replay}
use Rattle.spec_history.proofs.Replay.Reaching.{no_entries}
use Rattle.violations.specs.Plain.{PlainView}
use Rattle.homefree.specs.declared.answer.Answer.{Answer}
use Rattle.homefree.specs.declared.answer.Answer.TheVariants.{Go, Again, Left, Over, Stopped}
use Rattle.homefree.specs.declared.answer.Cause.{Cause}
use Rattle.homefree.specs.Acted.{IfArrived}
use Rattle.homefree.specs.BookView.{BookView, ReplaysTo}
use Rattle.homefree.specs.Counted.{IsNoMore}
use Rattle.homefree.specs.Held.{held_at}
use Rattle.homefree.proofs.Books.Drives.{none_held}
use Rattle.epoch_paths.specs.InOrder.{IsInOrder}
use Rattle.dependences.specs.Conflict.{first_beside}
use Rattle.never_or_shown.specs.declared.drive.Drive.{Drive}
use Rattle.never_or_shown.specs.Drives.{HasRun, IsAfter, IsDrive, IsTurn}
use Rattle.never_or_shown.specs.Quiet.{HasReadAll, IsQuiet, PassesOver, RunsEpoch, Starts}
use Rattle.never_or_shown.specs.Shown.{IsConflictAt}
use Rattle.never_or_shown.specs.Windows.{IsAhead, IsReady, IsStarting, MeetIn, MeetsNone, NoneMeet}
use Rattle.never_or_shown.proofs.Books.{starts}
use Rattle.never_or_shown.proofs.Meeting.{meets_none, not_beside}

-- a core that is as it was runs what it ran
runs_still : (s t : FlatState) (k epoch : ℕ) → t.cores k ≡ s.cores k → RunsEpoch s k epoch → RunsEpoch t k epoch
runs_still s t k epoch same r = record { core = r.core; runs = same ∙ r.runs; is = r.is }

run_after : (image : LoadedImage) (old new : Drive) (core : ℕ) (answer : Answer) → old.book.image ≡ image → HasRun old new core answer
    → (s : FlatState) (epoch : ℕ) → ReplaysTo old.book s → IsQuiet s → RunsEpoch s core epoch → IsAfter image new.book s core epoch answer
run_after image old new core answer same run s epoch replays quiet runs = subst (λ i. IsAfter i new.book s core epoch answer) same (run.after s epoch replays quiet runs)

-- ---- a fresh book

pub ready_at_first : (b : BookView PlainView) → 0 < b.image.epochs → ReplaysTo b (first_state b.image) → IsReady b 0
ready_at_first b some replays = record {
  state = first_state b.image;
  replays = replays;
  quiet = record {
    going = ap (λ (t : Bool). cond t (Some (Done 0)) None) (ne_eqb 0 b.image.epochs (omega (arith, some)));
    unhurt = λ k c at. absurd (none-some c at);
    speculates = λ k c at. absurd (none-some c at);
  };
  homefree = refl;
  next = refl;
  idle = λ k. refl;
}

-- ---- the epochs before the window

module _ (image : LoadedImage) (old mid new : Drive) (n : ℕ) (ready : IsReady old.book n) (left : n < old.book.image.epochs) (one two : Answer) (turn : IsTurn old mid 0 one) (same : mid.book.image ≡ image)
    (run : HasRun mid new 0 two) where
  begun : Starts ready.state turn.after.state 0
  begun = let next = ready.next in starts old mid 0 one turn ready.state ready.replays ready.quiet (ready.idle 0) (omega (arith, next, left))

  after : IsAfter image new.book turn.after.state 0 ready.state.next_epoch two
  after = run_after image mid new 0 two same run turn.after.state ready.state.next_epoch turn.after.replays begun.quiet begun.runs

  ready_by : (a : IsAfter image new.book turn.after.state 0 ready.state.next_epoch Left) → IsReady new.book (n + 1)
  ready_by a =
      let s = ready.state in
      let t = turn.after.state in
      let c = a.comes in record {
        state = a.state;
        replays = a.replays;
        quiet = c.quiet;
        homefree = c.homefree ∙ ap (λ h. h + 1) (begun.homefree ∙ ready.homefree);
        next = c.next ∙ (begun.next ∙ ap (λ h. h + 1) ready.next);
        idle = λ k. elim (cases_eq k 0) [
          | inl e ↦ subst (λ j. a.state.cores j ≡ None) (sym e) c.idle
          | inr other ↦ c.others k other ∙ (begun.others k other ∙ ready.idle k)
        ];
      }

  pub ready_next : two ≡ Left → IsReady new.book (n + 1)
  ready_next is = ready_by (subst (λ a. IsAfter image new.book turn.after.state 0 ready.state.next_epoch a) is after)

  ends_by : (first : ℕ) → n < first → first < image.epochs → (a : Answer) → two ≡ a → a ≢ Left → IsAfter image new.book turn.after.state 0 ready.state.next_epoch a → IsInOrder image first → ⊥
  ends_by first low within (Go hart) is other x order = run.stands hart is
  ends_by first low within (Again cause) is other x order = let next = ready.next in x.comes.later (next ∙ (sym ready.homefree ∙ sym begun.homefree))
  ends_by first low within Left is other x order = other refl
  ends_by first low within (Over end) is other x order = let next = ready.next in x.comes.last first (omega (arith, low, next)) within order
  ends_by first low within (Stopped cause) is other x order = x.comes

  pub ends_before : (first : ℕ) → n < first → first < image.epochs → two ≢ Left → IsInOrder image first → ⊥
  ends_before first low within other order = ends_by first low within two refl other after order

-- ---- the window starts

pub starting_more : (old new : Drive) (first n : ℕ) (answer : Answer) → IsStarting old.book first n → first + n < old.book.image.epochs → IsTurn old new n answer → IsStarting new.book first (n + 1)
starting_more old new first n answer x left turn =
    let next = x.next in
    let begun = starts old new n answer turn x.state x.replays x.quiet (x.idle n (omega arith)) (omega (arith, next, left)) in record {
      state = turn.after.state;
      replays = turn.after.replays;
      quiet = begun.quiet;
      homefree = begun.homefree ∙ x.homefree;
      next = let later = begun.next in omega (arith, next, later);
      runs = λ k below. elim (cases_eq k n) [
        | inl e ↦ subst (λ j. RunsEpoch turn.after.state j (first + j)) (sym e) (subst (λ m. RunsEpoch turn.after.state n m) next begun.runs)
        | inr other ↦ runs_still x.state turn.after.state k (first + k) (begun.others k other) (x.runs k (omega (arith, below, other)))
      ];
      idle = λ k past. begun.others k (omega (arith, past)) ∙ x.idle k (omega (arith, past));
    }

-- ---- the last one runs ahead

module _ (image : LoadedImage) (old new : Drive) (first last : ℕ) (x : IsStarting old.book first (last + 1)) (same : old.book.image ≡ image) (answer : Answer) (run : HasRun old new last answer) where
  ahead_after : IsAfter image new.book x.state last (first + last) answer
  ahead_after = run_after image old new last answer same run x.state (first + last) x.replays x.quiet (x.runs last (omega arith))

  ahead_by : (cause : Cause) → IsAfter image new.book x.state last (first + last) (Again cause) → IsAhead image new.book first last 0
  ahead_by cause a =
      let on = a.comes.on in record {
        state = a.state;
        replays = a.replays;
        quiet = on.quiet;
        homefree = let homefree = on.homefree ∙ x.homefree in omega (arith, homefree);
        runs = λ k low high. elim (cases_eq k last) [
          | inl e ↦ subst (λ j. RunsEpoch a.state j (first + j)) (sym e) on.runs
          | inr other ↦ runs_still x.state a.state k (first + k) (on.others k other) (x.runs k (omega (arith, high)))
        ];
        read = subst (λ h. HasReadAll image a.state last (first + last) h) x.homefree a.comes.read;
        passed = λ d b from below both. absurd (omega (arith, from, below));
      }

  pub is_ahead : (cause : Cause) → answer ≡ Again cause → IsAhead image new.book first last 0
  is_ahead cause is = ahead_by cause (subst (λ a. IsAfter image new.book x.state last (first + last) a) is ahead_after)

  alone_by : (cores : ℕ) → first ≡ first_beside cores (first + last) → (a : Answer) → answer ≡ a → ((cause : Cause) → a ≢ Again cause) → IsAfter image new.book x.state last (first + last) a
      → IsConflictAt image cores (first + last) → ⊥
  alone_by cores at (Go hart) is other y conflict = run.stands hart is
  alone_by cores at (Again cause) is other y conflict = other cause refl
  alone_by cores at Left is other y conflict = let number = y.comes.is_homefree ∙ x.homefree in not_beside image cores (first + last) (omega (arith, number, at)) conflict
  alone_by cores at (Over end) is other y conflict = let number = y.comes.is_homefree ∙ x.homefree in not_beside image cores (first + last) (omega (arith, number, at)) conflict
  alone_by cores at (Stopped cause) is other y conflict = y.comes

  -- it is the homefree one where it comes to anything else
  pub is_alone : (cores : ℕ) → first ≡ first_beside cores (first + last) → ((cause : Cause) → answer ≢ Again cause) → IsConflictAt image cores (first + last) → ⊥
  is_alone cores at other conflict = alone_by cores at answer refl other ahead_after conflict

-- ---- those before it commit

module _ (image : LoadedImage) (old new : Drive) (first last n : ℕ) (x : IsAhead image old.book first last n) (low : n < last) (same : old.book.image ≡ image) (answer : Answer) (run : HasRun old new n answer) where
  commit_after : IsAfter image new.book x.state n (first + n) answer
  commit_after = run_after image old new n answer same run x.state (first + n) x.replays x.quiet (x.runs n (omega arith) (omega (arith, low)))

  -- what the epoch stores, the last one has not read
  meets_not : PassesOver image x.state n (first + n) → (a : ℕ) → MeetIn image first (first + last) (first + n) a → ⊥
  meets_not passes a both =
      let r = x.runs last (omega (arith, low)) (omega arith) in
      true≢false (sym (x.read r.core a r.runs both.1) ∙ passes last r.core a (omega (arith, low)) r.runs both.0)

  passed_more : PassesOver image x.state n (first + n) → (d a : ℕ) → first ≤ d → d < first + (n + 1) → MeetIn image first (first + last) d a → ⊥
  passed_more passes d a from below both = elim (cases_eq d (first + n)) [
    | inl e ↦ meets_not passes a (subst (λ j. MeetIn image first (first + last) j a) e both)
    | inr other ↦ x.passed d a from (omega (arith, below, other)) both
  ]

  ahead_more : IsAfter image new.book x.state n (first + n) Left → IsAhead image new.book first last (n + 1)
  ahead_more a =
      let c = a.comes in record {
        state = a.state;
        replays = a.replays;
        quiet = c.quiet;
        homefree = let homefree = c.homefree in let was = x.homefree in omega (arith, homefree, was);
        runs = λ k from most. runs_still x.state a.state k (first + k) (c.others k (omega (arith, from))) (x.runs k (omega (arith, from)) most);
        read = λ d b at reads. x.read d b (sym (c.others last (omega (arith, low))) ∙ at) reads;
        passed = λ d b from below both. passed_more c.passes d b from below both;
      }

  pub ahead_next : answer ≡ Left → IsAhead image new.book first last (n + 1)
  ahead_next is = ahead_more (subst (λ a. IsAfter image new.book x.state n (first + n) a) is commit_after)

  none_by : (a : Answer) → answer ≡ a → a ≢ Left → IsAfter image new.book x.state n (first + n) a → first + last < image.epochs → NoneMeet image first (first + last)
  none_by (Go hart) is other y within d b from below order both = run.stands hart is
  none_by (Again cause) is other y within d b from below order both = y.comes.later (sym x.homefree)
  none_by Left is other y within d b from below order both = other refl
  none_by (Over end) is other y within d b from below order both = elim (cases_lt d (first + (n + 1))) [
    | inl early ↦ passed_more y.comes.passes d b from early both
    | inr past ↦ y.comes.last d (omega (arith, past)) (omega (arith, below, within)) order
  ]
  none_by (Stopped cause) is other y within d b from below order both = y.comes

  pub none_meet : answer ≢ Left → first + last < image.epochs → NoneMeet image first (first + last)
  none_meet other within = none_by answer refl other commit_after within

pub all_passed : (image : LoadedImage) (b : BookView PlainView) (first last : ℕ) → IsAhead image b first last last → NoneMeet image first (first + last)
all_passed image b first last x d a from below order both = x.passed d a from below both

-- ---- the whole schedule

-- a fresh book
pub first_is : (b : BookView PlainView) → b.history ≡ [] → ReplaysTo b (first_state b.image)
first_is b empty = ap (replay b.image b.cores) empty ∙ no_entries b.image b.cores

pub no_more : (a b : Counts) → a ≡ b → IsNoMore a b
no_more a b same = subst (λ c. IsNoMore a c) same (record { loads = omega arith; stores = omega arith; restarts = omega arith; commits = omega arith })

pub fresh_drive : (d : Drive) → d.book.history ≡ [] → IsNoMore d.shares d.book.totals → d.held ≡ replicate 16 None → d.book.stopped ≡ None → IsDrive d
fresh_drive d empty shares held unstopped = record {
  shares = shares;
  held = λ k. subst (λ o. IfArrived d.book.image o) (sym (ap (λ xs. held_at xs k) held ∙ none_held 16 k)) tt;
  unstopped = unstopped;
  calm = λ place entry at. absurd (none_there place entry (ap (λ es. slice_get es place) (sym empty) ∙ at));
  quiet = λ s replays going. record {
    going = going;
    unhurt = λ k c at. absurd (idle s replays k c at);
    speculates = λ k c at. absurd (idle s replays k c at);
  };
  harts = λ s replays going k c at unhurt. absurd (idle s replays k c at);
}
  where
    none_there : (place : ℕ) (entry : Entry) → slice_get [] place ≡ Some entry → ⊥
    none_there place entry at = cc

    idle : (s : FlatState) → ReplaysTo d.book s → (k : ℕ) (c : CoreState) → s.cores k ≡ Some c → ⊥
    idle s replays k c at =
        let same : first_state d.book.image ≡ s = one_value (replay d.book.image d.book.cores d.book.history) (first_state d.book.image) s (first_is d.book empty) replays in
        none-some c (ap (λ (x : FlatState). x.cores k) same ∙ at)

pub result_by : {T E : Type 0} (P Q : T → Type 0) (R : E → Type 0) (r : Result T E) → ((x : T) → P x → Q x) → MatchResult r P R → MatchResult r Q R
result_by P Q R (Ok x) so m = so x m
result_by P Q R (Err e) so m = m

module _ (image : LoadedImage) (is : IsImage image) (cores later first last : ℕ) (first_at : first ≡ first_beside cores later) (sum : first + last ≡ later) where
  -- where none of the window stores what the last one reads
  pub none_shown : (d : Drive) → d.book.image ≡ image → IsAhead image d.book first last 0 → later < image.epochs → MeetsNone d last → IsConflictAt image cores later → ⊥
  none_shown d same ahead within none =
      let here : NoneMeet image first (first + last) =
      subst (λ i. NoneMeet i first (first + last)) same
      (none first (subst (λ i. IsAhead i d.book first last 0) (sym same) ahead) (subst (λ (i : LoadedImage). first + last < i.epochs) (sym same) (omega (arith, sum, within)))) in
      meets_none image cores later is (subst (λ n. NoneMeet image n later) first_at (subst (λ n. NoneMeet image first n) sum here))

  -- where the last one is alone in it
  pub none_alone : (old new : Drive) (x : IsStarting old.book first (last + 1)) → old.book.image ≡ image → (answer : Answer) → HasRun old new last answer → ((cause : Cause) → answer ≢ Again cause)
      → IsConflictAt image cores later → ⊥
  none_alone old new x same answer run other conflict =
      is_alone image old new first last x same answer run cores (first_at ∙ ap (first_beside cores) (sym sum)) other (subst (λ n. IsConflictAt image cores n) (sym sum) conflict)
