-- That the text of turns is fixed, from that a turn is and that what changed of a store is.
use Rattle.std.proofs.Common.{◌≡◌, ℕ, suc, List, [], ◌∷◌, ◌++◌, Option, Some, None, Result, Ok, sym, ap, subst, ◌∙◌}
use Rattle.std.proofs.lemmas.List.{append_cancel_left}
use Rattle.rv32_exec.specs.declared.sequential.End.{End}
use Rattle.rv32_exec.specs.Hart.{HartState}
use Rattle.spec_history.specs.declared.entry.Entry.{Entry}
use Rattle.violations.specs.View.{StoreView, Waits}
use Rattle.violations.specs.Calls.{Call}
use Rattle.violations.specs.Rule.{IsSameView}
use Rattle.homefree.specs.declared.answer.Answer.{Answer}
use Rattle.homefree.specs.declared.answer.Answer.TheVariants.{Go, Again, Left, Over, Stopped}
use Rattle.homefree.specs.declared.fault.TurnFault.{TurnFault}
use Rattle.homefree.specs.BookView.{BookView}
use Rattle.homefree.specs.Driven.{Driver, EndsOrGoes, held_after, with_held}
use Rattle.homefree.specs.DriveFixed.{AreTwinDrivers}
use Rattle.homefree.specs.Fixed.{AreTwins, TurnIsFixed}
use Rattle.homefree.proofs.Fixed.Driving.{IsOneStep, one_step}
use Rattle.homefree.proofs.Fixed.Hurt.{one_view}
use Rattle.turn_steps.specs.Fixed.{ChangesAreFixed, IsOneText, StepsAreFixed}
use Rattle.turn_steps.specs.Places.{changed}
use Rattle.turn_steps.specs.Rows.{at_changes, row_count}
use Rattle.turn_steps.specs.Stepped.{IsTold, Stepped, attempt_changes, entries_text}
use Rattle.turn_steps.specs.Turns.{hart_line, turn_line}

-- the text of a turn by its parts
abbrev parts_text : ℕ → ℕ → Answer → List Entry → Option HartState → Option HartState → ℕ → StoreView → StoreView → List ℕ → List ℕ
parts_text number core answer entries hart hart' cores old now between =
    turn_line number core answer ++ entries_text entries ++ attempt_changes old.attempt now.attempt cores ++ changed (hart_line core hart) (hart_line core hart')
    ++ between ++ at_changes old.committed now.committed (row_count old)

module _ {S : Type 0} (makes : S → Call → S → Type 0) (alike : S → S → Type 0) (view : S → StoreView) (waits : S → Waits) (changes : ℕ → S → S → List ℕ)
    (law : TurnIsFixed makes alike view waits) (views : (s t : S) → alike s t → IsSameView (view s) (view t)) (fixed : ChangesAreFixed alike changes) where
  one_told : (number core : ℕ) (answer : Answer) (hart : Option HartState) (old new old' new' : BookView S) (text text' : List ℕ) → AreTwins alike old old' → AreTwins alike new new'
      → IsTold view changes number core answer hart old new text → IsTold view changes number core answer hart old' new' text' → text' ≡ text
  one_told number core answer hart old new old' new' text text' before after one two =
      two.text_is
      ∙ ((λ i. parts_text number core answer (entries_are i) hart (held_after answer hart) (before.cores i) (old_is i) (new_is i) (between i)) ∙ sym one.text_is)
    where
      entries_are : two.entries ≡ one.entries
      entries_are = append_cancel_left old.history two.entries one.entries
          (ap (λ h. h ++ two.entries) (sym before.history) ∙ (sym two.history ∙ (after.history ∙ one.history)))

      old_is : view old'.store ≡ view old.store
      old_is = sym (one_view (view old.store) (view old'.store) (views old.store old'.store before.stores))

      new_is : view new'.store ≡ view new.store
      new_is = sym (one_view (view new.store) (view new'.store) (views new.store new'.store after.stores))

      between : changes old'.cores old'.store new'.store ≡ changes old.cores old.store new.store
      between = ap (λ n. changes n old'.store new'.store) before.cores ∙ fixed old.cores old.store new.store old'.store new'.store before.stores after.stores

  pub steps_fixed : StepsAreFixed makes alike view waits changes
  steps_fixed number held old new old' new' [] end end' text text' twins one two = record {
    end_is = two.1 ∙ sym one.1;
    twins = subst (λ d. AreTwinDrivers alike d new') (sym one.0) (subst (AreTwinDrivers alike old) (sym two.0) twins);
    text_is = two.2 ∙ sym one.2;
  }
  steps_fixed number held old new old' new' (core ∷ rest) end end' text text' twins (mid, answer, first, below, turned, told, text_is, more) (mid', answer', first', below', turned', told', text_is', more') =
      by_answer
      (λ a one two. steps_fixed (suc number) (with_held held core (held_after a (held core))) mid new mid' new' rest end end' below below' step.twins one two)
      answer more (subst (λ a. EndsOrGoes (Ok a) (ends mid' new' end' below') (goes mid' new' end' below')) same more')
    where
      ends : Driver S → Driver S → Option End → List ℕ → Result (Option End) TurnFault → Type 0
      ends m n e b r = (n ≡ m) × (r ≡ Ok e) × (b ≡ [])

      goes : Driver S → Driver S → Option End → List ℕ → Answer → Type 0
      goes m n e b a = Stepped makes view waits changes (suc number) (with_held held core (held_after a (held core))) m rest e n b

      step : IsOneStep alike (Ok answer) (Ok answer') mid mid'
      step = one_step makes alike view waits law old old' core (held core) (Ok answer) (Ok answer') mid mid' twins turned turned' (λ is. absurd cc) (λ is. absurd cc)

      same : answer' ≡ answer
      same = let is : Ok answer' ≡ Ok answer = step.answer_is in cc

      first_is : first' ≡ first
      first_is = one_told number core answer (held core) old.book mid.book old'.book mid'.book first first' twins.books step.twins.books told
          (subst (λ a. IsTold view changes number core a (held core) old'.book mid'.book first') same told')

      all : (b b' : List ℕ) → text ≡ first ++ b → text' ≡ first' ++ b' → b' ≡ b → text' ≡ text
      all b b' is is' rest_is = is' ∙ (ap (λ t. t ++ b') first_is ∙ (ap (λ t. first ++ t) rest_is ∙ sym is))

      ended : (r : Result (Option End) TurnFault) → ends mid new end below r → ends mid' new' end' below' r → IsOneText alike end end' new new' text text'
      ended r one two = record {
        end_is = let is : Ok end' ≡ Ok end = sym two.1 ∙ one.1 in cc;
        twins = subst (λ d. AreTwinDrivers alike d new') (sym one.0) (subst (AreTwinDrivers alike mid) (sym two.0) step.twins);
        text_is = all below below' text_is text_is' (two.2 ∙ sym one.2);
      }

      Goes : Type 0
      Goes = (a : Answer) → goes mid new end below a → goes mid' new' end' below' a → IsOneText alike end end' new new' below below'

      going : IsOneText alike end end' new new' below below' → IsOneText alike end end' new new' text text'
      going so = record { end_is = so.end_is; twins = so.twins; text_is = all below below' text_is text_is' so.text_is }

      by_answer : Goes → (a : Answer) → EndsOrGoes (Ok a) (ends mid new end below) (goes mid new end below) → EndsOrGoes (Ok a) (ends mid' new' end' below') (goes mid' new' end' below')
          → IsOneText alike end end' new new' text text'
      by_answer on (Over e) one two = ended (Ok (Some e)) one two
      by_answer on (Stopped cause) one two = ended (Ok None) one two
      by_answer on (Go hart) one two = going (on (Go hart) one two)
      by_answer on (Again cause) one two = going (on (Again cause) one two)
      by_answer on Left one two = going (on Left one two)
