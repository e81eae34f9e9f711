-- That a turn answers that the book was stopped where it was, and nowhere else.
use Rattle.std.proofs.Common.{◌≡◌, ◌≢◌, ℕ, ◌+◌, Option, Some, None, List, Result, Ok, Err, sym, ap, ◌∙◌}
use Rattle.rv32_exec.specs.declared.sequential.End.{End}
use Rattle.rv32_exec.specs.Arrival.{Arrival}
use Rattle.rv32_exec.specs.Hart.{HartState}
use Rattle.run_ledger.specs.declared.counts.Counts.{Counts}
use Rattle.spec_history.specs.declared.entry.Entry.{Entry}
use Rattle.spec_history.specs.FlatState.{FlatState, end_at}
use Rattle.violations.specs.View.{StoreView, Waits}
use Rattle.homefree.specs.declared.answer.Answer.{Answer}
use Rattle.homefree.specs.declared.answer.Answer.TheVariants.{Go, Again, Over, Stopped}
use Rattle.homefree.specs.declared.answer.StopCause.{StopCause}
use Rattle.homefree.specs.declared.fault.TurnFault.{TurnFault}
use Rattle.homefree.specs.BookView.{BookView}
use Rattle.homefree.specs.Turned.{Turn, Turned, Outcome}
use Rattle.homefree.specs.Turned as turn

isnt_stopped : (out : Outcome) (entries : List Entry) (answer : Answer) (cause : StopCause) → out ≡ turn.does entries answer → answer ≢ Stopped cause → out.answer ≢ Stopped cause
isnt_stopped out entries answer cause same isnt is = isnt (sym (ap (λ (o : Outcome). o.answer) same) ∙ is)

go_isnt : (hart : HartState) (cause : StopCause) → Go hart ≢ Stopped cause
go_isnt hart cause is = cc

again_isnt : (why : _) (cause : StopCause) → Again why ≢ Stopped cause
again_isnt why cause is = cc

pub over_isnt : (end : End) (cause : StopCause) → Over end ≢ Stopped cause
over_isnt end cause is = cc

left_isnt : (o : Option End) (cause : StopCause) → turn.left_or_over o ≢ Stopped cause
left_isnt None cause is = cc
left_isnt (Some end) cause is = cc

follows_isnt : (t : Turn) (v w : StoreView) (out : Outcome) (cause : StopCause) → turn.Follows t v w out → out.answer ≢ Stopped cause
follows_isnt t v w out cause (turn.loads l) = isnt_stopped out _ _ cause l.out_is (go_isnt _ cause)
follows_isnt t v w out cause (turn.stores l) = isnt_stopped out _ _ cause l.out_is (go_isnt _ cause)
follows_isnt t v w out cause (turn.waits l) = isnt_stopped out _ _ cause l.out_is (again_isnt _ cause)
follows_isnt t v w out cause (turn.loads_straight l) = isnt_stopped out _ _ cause l.out_is (go_isnt _ cause)
follows_isnt t v w out cause (turn.stores_straight l) = isnt_stopped out _ _ cause l.out_is (go_isnt _ cause)
follows_isnt t v w out cause (turn.is_early l) = isnt_stopped out _ _ cause l.out_is (again_isnt _ cause)
follows_isnt t v w out cause (turn.commits l) = isnt_stopped out _ _ cause l.out_is (left_isnt (end_at t.image (t.state.homefree + 1)) cause)
follows_isnt t v w out cause (turn.exits_loop l) = isnt_stopped out _ _ cause l.out_is (over_isnt _ cause)
follows_isnt t v w out cause (turn.faults l) = isnt_stopped out _ _ cause l.out_is (over_isnt _ cause)

pub acts_isnt : (t : Turn) (v w : StoreView) (out : Outcome) (cause : StopCause) → turn.Acts t v w out → out.answer ≢ Stopped cause
acts_isnt t v w out cause (turn.starts l) = isnt_stopped out _ _ cause l.out_is (go_isnt _ cause)
acts_isnt t v w out cause (turn.finds_none l) = isnt_stopped out _ _ cause l.out_is (again_isnt _ cause)
acts_isnt t v w out cause (turn.restarts l) = isnt_stopped out _ _ cause l.out_is (go_isnt _ cause)
acts_isnt t v w out cause (turn.is_told l) = isnt_stopped out _ _ cause l.out_is (go_isnt _ cause)
acts_isnt t v w out cause (turn.follows l) = follows_isnt t v w out cause l

pub same_answer : (result : Result Answer TurnFault) (a b : Answer) → result ≡ Ok a → result ≡ Ok b → a ≡ b
same_answer result a b x y = cc

pub err_isnt : (answer : Answer) (fault : TurnFault) → Ok answer ≡ Err fault → ⊥
err_isnt answer fault is = cc

pub turn_stopped : {S : Type 0} (view : S → StoreView) (waits : S → Waits) (old new : BookView S) (s : FlatState) (shares shares' : Counts) (core : ℕ) (next : Option Arrival)
    (answer : Result Answer TurnFault) (cause : StopCause) → Turned view waits old s shares core next answer new shares' → answer ≡ Ok (Stopped cause) → old.stopped ≡ Some cause
turn_stopped view waits old new s shares shares' core next answer cause (turn.over o same held) is = absurd (over_isnt o.end cause (same_answer answer (Over o.end) (Stopped cause) o.answer_is is))
turn_stopped view waits old new s shares shares' core next answer cause (turn.stopped o same held) is =
    let causes : Stopped o.cause ≡ Stopped cause = same_answer answer (Stopped o.cause) (Stopped cause) o.answer_is is in
    let stopped = o.stopped in cc
turn_stopped view waits old new s shares shares' core next answer cause (turn.full o same held) is = absurd (err_isnt (Stopped cause) _ (sym is ∙ o.answer_is))
turn_stopped view waits old new s shares shares' core next answer cause (turn.no_memory may same grows none) is = absurd (err_isnt (Stopped cause) _ (sym is ∙ none))
turn_stopped view waits old new s shares shares' core next answer cause (turn.acts a) is =
    absurd (acts_isnt (turn.turn_at waits old s core next) a.reserved (view new.store) a.out cause a.acts (same_answer answer a.out.answer (Stopped cause) a.answer_is is))
