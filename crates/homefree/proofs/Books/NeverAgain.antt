-- The core that runs the homefree epoch, and isn't hurt, never has to come again.
use Rattle.std.proofs.Common.{◌≡◌, ◌≢◌, ◌+◌, ℕ, Option, Some, None, sym, ap, ◌∙◌}
use Rattle.rv32_image.proofs.SmallFacts.{one_value, none_and_some}
use Rattle.rv32_exec.specs.declared.sequential.End.{End}
use Rattle.rv32_exec.specs.Hart.{HartState}
use Rattle.spec_history.specs.FlatState.{CoreState, FlatState, end_at}
use Rattle.violations.specs.View.{StoreView}
use Rattle.homefree.specs.declared.answer.Answer.{Answer}
use Rattle.homefree.specs.declared.answer.Answer.TheVariants.{Go, Again, Over}
use Rattle.homefree.specs.declared.answer.Cause.{Cause}
use Rattle.homefree.specs.Turned.{Turn, Outcome}
use Rattle.homefree.specs.Turned as turn

pub answer_is : (out other : Outcome) (answer : Answer) → out ≡ other → out.answer ≡ answer → other.answer ≡ answer
answer_is out other answer same is = sym (ap (λ (o : Outcome). o.answer) same) ∙ is

not_left : (o : Option End) (cause : Cause) → turn.left_or_over o ≢ Again cause
not_left None cause is = cc
not_left (Some end) cause is = cc

another : (s : FlatState) (core : ℕ) (c d : CoreState) → s.cores core ≡ Some c → s.cores core ≡ Some d → c.epoch ≡ s.homefree → d.epoch ≢ s.homefree → ⊥
another s core c d at_c at_d is isnt = isnt (ap (λ (x : CoreState). x.epoch) (one_value (s.cores core) d c at_d at_c) ∙ is)

go_isnt : (hart : HartState) (cause : Cause) → Go hart ≢ Again cause
go_isnt hart cause is = cc

over_isnt : (end : End) (cause : Cause) → Over end ≢ Again cause
over_isnt end cause is = cc

follows_on : (t : Turn) (v w : StoreView) (out : Outcome) (c : CoreState) (cause : Cause) → t.state.cores t.core ≡ Some c → c.epoch ≡ t.state.homefree
    → turn.Follows t v w out → out.answer ≢ Again cause
follows_on t v w out c cause at home (turn.loads l) is = go_isnt _ cause (answer_is out _ (Again cause) l.out_is is)
follows_on t v w out c cause at home (turn.stores l) is = go_isnt _ cause (answer_is out _ (Again cause) l.out_is is)
follows_on t v w out c cause at home (turn.waits l) is = another t.state t.core c l.core at l.comes.is_at.runs home l.later
follows_on t v w out c cause at home (turn.loads_straight l) is = go_isnt _ cause (answer_is out _ (Again cause) l.out_is is)
follows_on t v w out c cause at home (turn.stores_straight l) is = go_isnt _ cause (answer_is out _ (Again cause) l.out_is is)
follows_on t v w out c cause at home (turn.is_early l) is = another t.state t.core c l.core at l.comes.runs home l.later
follows_on t v w out c cause at home (turn.commits l) is = not_left (end_at t.image (t.state.homefree + 1)) cause (answer_is out _ (Again cause) l.out_is is)
follows_on t v w out c cause at home (turn.exits_loop l) is = over_isnt _ cause (answer_is out _ (Again cause) l.out_is is)
follows_on t v w out c cause at home (turn.faults l) is = over_isnt _ cause (answer_is out _ (Again cause) l.out_is is)

pub never_again : (t : Turn) (v w : StoreView) (out : Outcome) (c : CoreState) (cause : Cause) → t.state.cores t.core ≡ Some c → c.epoch ≡ t.state.homefree
    → turn.Acts t v w out → out.answer ≢ Again cause
never_again t v w out c cause at home (turn.starts l) is = go_isnt _ cause (answer_is out _ (Again cause) l.out_is is)
never_again t v w out c cause at home (turn.finds_none l) is = none_and_some (t.state.cores t.core) c l.idle at
never_again t v w out c cause at home (turn.restarts l) is = go_isnt _ cause (answer_is out _ (Again cause) l.out_is is)
never_again t v w out c cause at home (turn.is_told l) is = go_isnt _ cause (answer_is out _ (Again cause) l.out_is is)
never_again t v w out c cause at home (turn.follows l) is = follows_on t v w out c cause at home l is
