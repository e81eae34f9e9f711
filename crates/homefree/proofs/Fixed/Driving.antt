-- That turns by a list of core numbers are fixed, from that a turn is.
use Rattle.std.proofs.Common.{◌≡◌, ◌≢◌, ℕ, [], ◌∷◌, Option, Some, None, Result, Ok, Err, option_map, refl, sym, subst, ◌∙◌}
use Rattle.rv32_exec.specs.declared.sequential.End.{End}
use Rattle.rv32_exec.specs.Hart.{HartState}
use Rattle.spec_history.specs.FlatState.{FlatState}
use Rattle.violations.specs.View.{StoreView, Waits}
use Rattle.violations.specs.Calls.{Call}
use Rattle.homefree.specs.declared.answer.Answer.{Answer}
use Rattle.homefree.specs.declared.answer.Answer.TheVariants.{Go, Again, Left, Over, Stopped}
use Rattle.homefree.specs.declared.fault.TurnFault.{TurnFault}
use Rattle.homefree.specs.declared.fault.TurnFault.TheVariants.{NoMemory, HistoryFull}
use Rattle.homefree.specs.BookView.{ReplaysTo}
use Rattle.homefree.specs.Driven.{Driver, Driven, TurnedWith, EndsOrGoes, arrival_of, held_after, with_held}
use Rattle.homefree.specs.DriveFixed.{AreTwinDrivers, DriveIsFixed, IsOneDrive}
use Rattle.homefree.specs.Fixed.{IsOneTurn, TurnIsFixed, TurnsStore}
use Rattle.homefree.proofs.Fixed.Turning.{twin_is, with_store}

-- what a turn of a driver comes to
pub record IsOneStep {S : Type 0} (alike : S → S → Type 0) (answer answer' : Result Answer TurnFault) (new new' : Driver S) : Type 0 where
  pub answer_is : answer' ≡ answer
  pub twins : AreTwinDrivers alike new new'

-- an answer that isn't want of memory, where what it comes to isn't
pub had_memory : (P : Result (Option End) TurnFault → Type 0) (goes : Answer → Type 0) (result : Result (Option End) TurnFault) (answer : Result Answer TurnFault)
    → ((r : Result (Option End) TurnFault) → P r → result ≡ r) → result ≢ Err NoMemory → EndsOrGoes answer P goes → answer ≢ Err NoMemory
had_memory P goes result (Ok a) is memory ends none = absurd cc
had_memory P goes result (Err HistoryFull) is memory ends none = absurd cc
had_memory P goes result (Err NoMemory) is memory ends none = memory (is (Err NoMemory) ends)

module _ {S : Type 0} (makes : S → Call → S → Type 0) (alike : S → S → Type 0) (view : S → StoreView) (waits : S → Waits) (law : TurnIsFixed makes alike view waits) where
  -- from a book and the same book with another store
  from_state : (old : Driver S) (store : S) (core : ℕ) (held : Option HartState) (answer answer' : Result Answer TurnFault) (new new' : Driver S) (s s' : FlatState) → alike old.book.store store
      → ReplaysTo old.book s → ReplaysTo old.book s' → answer ≢ Err NoMemory → answer' ≢ Err NoMemory
      → TurnsStore makes view waits old.book s old.shares core (option_map (arrival_of old.book.image) held) answer new.book new.shares
      → TurnsStore makes view waits (with_store old.book store) s' old.shares core (option_map (arrival_of old.book.image) held) answer' new'.book new'.shares
      → IsOneStep alike answer answer' new new'
  from_state old store core held answer answer' new new' s s' stores leads leads' fed fed' one two =
      record { answer_is = turn.answer_is; twins = record { books = turn.twins; shares_are = turn.shares_are } }
    where
      one_state : s' ≡ s
      one_state = let same = sym leads' ∙ leads in cc

      turn : IsOneTurn alike answer answer' new.book new'.book new.shares new'.shares
      turn = law old.book new.book (with_store old.book store) new'.book s old.shares new.shares new'.shares core (option_map (arrival_of old.book.image) held) answer answer'
          (record { image = refl; cores = refl; room = refl; history = refl; totals = refl; stopped = refl; stores = stores }) leads one
          (subst (λ x. TurnsStore makes view waits (with_store old.book store) x old.shares core (option_map (arrival_of old.book.image) held) answer' new'.book new'.shares) one_state two) fed fed'

  pub one_step : (old old' : Driver S) (core : ℕ) (held : Option HartState) (answer answer' : Result Answer TurnFault) (new new' : Driver S) → AreTwinDrivers alike old old'
      → TurnedWith makes view waits old core held answer new → TurnedWith makes view waits old' core held answer' new' → answer ≢ Err NoMemory → answer' ≢ Err NoMemory
      → IsOneStep alike answer answer' new new'
  one_step old old' core held answer answer' new new' twins one two fed fed' =
      from_state old old'.book.store core held answer answer' new new' one.state second.state twins.books.stores one.replays second.replays fed fed' one.turns second.turns
    where
      driver_is : old' ≡ record { book = with_store old.book old'.book.store; shares = old.shares }
      driver_is = λ i. record { book = sym (twin_is alike old.book old'.book twins.books) i; shares = twins.shares_are i }

      second : TurnedWith makes view waits (record { book = with_store old.book old'.book.store; shares = old.shares }) core held answer' new'
      second = subst (λ (d : Driver S). TurnedWith makes view waits d core held answer' new') driver_is two

  -- the turns after one that came to this answer, in both
  ends_alike : (answer : Result Answer TurnFault) (result result' : Result (Option End) TurnFault) (mid mid' new new' : Driver S) (goes goes' : Answer → Type 0) → AreTwinDrivers alike mid mid'
      → ((a : Answer) → goes a → goes' a → IsOneDrive alike result result' new new') → EndsOrGoes answer (λ r. (new ≡ mid) × (result ≡ r)) goes → EndsOrGoes answer (λ r. (new' ≡ mid') × (result' ≡ r)) goes'
      → IsOneDrive alike result result' new new'
  ends_alike answer result result' mid mid' new new' goes goes' twins more = by_answer answer
    where
      ended : (r : Result (Option End) TurnFault) → (new ≡ mid) × (result ≡ r) → (new' ≡ mid') × (result' ≡ r) → IsOneDrive alike result result' new new'
      ended r one two = record {
        result_is = two.1 ∙ sym one.1;
        twins = subst (λ d. AreTwinDrivers alike d new') (sym one.0) (subst (AreTwinDrivers alike mid) (sym two.0) twins);
      }

      by_answer : (a : Result Answer TurnFault) → EndsOrGoes a (λ r. (new ≡ mid) × (result ≡ r)) goes → EndsOrGoes a (λ r. (new' ≡ mid') × (result' ≡ r)) goes' → IsOneDrive alike result result' new new'
      by_answer (Ok (Over end)) one two = ended (Ok (Some end)) one two
      by_answer (Ok (Stopped cause)) one two = ended (Ok None) one two
      by_answer (Err fault) one two = ended (Err fault) one two
      by_answer (Ok (Go hart)) one two = more (Go hart) one two
      by_answer (Ok (Again cause)) one two = more (Again cause) one two
      by_answer (Ok Left) one two = more Left one two

  pub drive_fixed : DriveIsFixed makes alike view waits
  drive_fixed held old new old' new' [] result result' twins one two fed fed' = record {
    result_is = two.1 ∙ sym one.1;
    twins = subst (λ d. AreTwinDrivers alike d new') (sym one.0) (subst (AreTwinDrivers alike old) (sym two.0) twins);
  }
  drive_fixed held old new old' new' (core ∷ rest) result result' twins (mid, answer, turned, more) (mid', answer', turned', more') fed fed' =
      ends_alike answer result result' mid mid' new new' (below mid new result) (below mid' new' result') step.twins
      (λ a d d'. drive_fixed (with_held held core (held_after a (held core))) mid new mid' new' rest result result' step.twins d d' fed fed') more
      (subst (λ x. EndsOrGoes x (λ r. (new' ≡ mid') × (result' ≡ r)) (below mid' new' result')) step.answer_is more')
    where
      below : Driver S → Driver S → Result (Option End) TurnFault → Answer → Type 0
      below m n r a = Driven makes view waits (with_held held core (held_after a (held core))) m rest r n

      step : IsOneStep alike answer answer' mid mid'
      step = one_step old old' core (held core) answer answer' mid mid' twins turned turned'
          (had_memory (λ r. (new ≡ mid) × (result ≡ r)) (below mid new result) result answer (λ r p. p.1) fed more)
          (had_memory (λ r. (new' ≡ mid') × (result' ≡ r)) (below mid' new' result') result' answer' (λ r p. p.1) fed' more')
