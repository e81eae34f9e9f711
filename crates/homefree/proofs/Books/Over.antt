-- That the entries of a turn which answers that the loop is over lead to that end.
use Rattle.std.proofs.Common.{◌≡◌, ◌≢◌, ◌+◌, Bool, true, false, cond, List, Option, Some, None, sym, ap, subst, ◌∙◌}
use Rattle.rv32_exec.specs.declared.sequential.End.{End}
use Rattle.rv32_exec.specs.declared.sequential.End.TheVariants.{Exit}
use Rattle.rv32_exec.specs.Hart.{HartState}
use Rattle.spec_history.specs.declared.entry.Entry.{Entry}
use Rattle.spec_history.specs.FlatState.{FlatState, end_at}
use Rattle.spec_history.specs.Replay.{replay_from}
use Rattle.spec_history.specs.Laws.{IsKept}
use Rattle.violations.specs.View.{StoreView}
use Rattle.homefree.specs.declared.answer.Answer.{Answer}
use Rattle.homefree.specs.declared.answer.Answer.TheVariants.{Go, Again, Over}
use Rattle.homefree.specs.declared.answer.Cause.{Cause}
use Rattle.homefree.specs.Agrees.{Agrees}
use Rattle.homefree.specs.Turned as turn
use Rattle.homefree.specs.Turned.{Turn, Outcome, does, left_or_over}
use Rattle.homefree.proofs.State.Arms.{Comes}
use Rattle.homefree.proofs.State.Ends as ends
use Rattle.homefree.proofs.Books.NeverAgain.{answer_is}

abbrev pub EndsSo : Turn → Outcome → End → Type 0
EndsSo t out end = (u : FlatState) × (replay_from t.image t.cores t.state out.entries ≡ Some u) × (u.end ≡ Some end)

no_end : (t : Turn) (out : Outcome) (entries : List Entry) (answer : Answer) (end : End) → out ≡ does entries answer → out.answer ≡ Over end → answer ≢ Over end → EndsSo t out end
no_end t out entries answer end same is isnt = absurd (isnt (answer_is out (does entries answer) (Over end) same is))

go_isnt : (hart : HartState) (end : End) → Go hart ≢ Over end
go_isnt hart end is = cc

again_isnt : (cause : Cause) (end : End) → Again cause ≢ Over end
again_isnt cause end is = cc

left_over : (o : Option End) (end : End) → left_or_over o ≡ Over end → o ≡ Some end
left_over None end is = absurd cc
left_over (Some e) end is = cc

pub over_same : (e end : End) → Over e ≡ Over end → e ≡ end
over_same e end is = cc

-- the entries lead to a state of this end
ends_so : (t : Turn) (out : Outcome) (entries : List Entry) (answer : Answer) (u : FlatState) (w : StoreView) (end : End) → out ≡ does entries answer
    → Comes t.image t.cores t.state entries u w → u.end ≡ Some end → EndsSo t out end
ends_so t out entries answer u w end same comes is =
    (u, subst (λ (o : Outcome). replay_from t.image t.cores t.state o.entries ≡ Some u) (sym same) comes.replays, is)

exit_end : (b : Bool) (exit end : End) (o : Option End) → b ≡ true → exit ≡ end → cond b (Some exit) o ≡ Some end
exit_end true exit end o is same = ap Some same
exit_end false exit end o is same = absurd cc

stay_end : (b : Bool) (exit end : End) (o : Option End) → b ≡ false → o ≡ Some end → cond b (Some exit) o ≡ Some end
stay_end true exit end o is same = absurd cc
stay_end false exit end o is same = same

module _ (t : Turn) (v w : StoreView) (out : Outcome) (going : t.state.end ≡ None) (kept : IsKept t.image t.cores t.state) (agrees : Agrees t.state v) (end : End) (over : out.answer ≡ Over end) where
  commit_ends : turn.IsCommit t v w out → EndsSo t out end
  commit_ends l =
      let a = l.comes.is_at in
      let p = ends.has_published t.image t.cores t.state v t.core l.core going kept agrees a.runs a.unhurt l.between l.hurt l.comes.publishes in
      let comes = ends.commits t.image t.cores t.state v t.core l.core going kept agrees a.runs a.unhurt l.between l.hurt p l.comes.homefree w a.event l.stays l.store in
      ends_so t out _ _ _ w end l.out_is comes
      (stay_end _ _ end _ l.stays (left_over (end_at t.image (t.state.homefree + 1)) end (answer_is out _ (Over end) l.out_is over)))

  exit_ends : turn.IsExit t v w out → EndsSo t out end
  exit_ends l =
      let a = l.comes.is_at in
      let p = ends.has_published t.image t.cores t.state v t.core l.core going kept agrees a.runs a.unhurt l.between l.hurt l.comes.publishes in
      let comes = ends.exits_loop t.image t.cores t.state t.core l.core going kept a.unhurt l.comes.homefree l.between l.hurt p a.event l.exits l.alone w l.cancelled l.store in
      ends_so t out _ _ _ w end l.out_is comes
      (exit_end _ (Exit t.state.homefree) end _ l.exits (ap Exit (sym l.comes.homefree) ∙ over_same (Exit l.core.epoch) end (answer_is out _ (Over end) l.out_is over)))

  fault_ends : turn.IsFault t v w out → EndsSo t out end
  fault_ends l =
      let a = l.comes.is_at in
      let p = ends.has_published t.image t.cores t.state v t.core l.core going kept agrees a.runs a.unhurt w l.hurt l.comes.publishes in
      let comes = ends.faults t.image t.cores t.state v t.core l.core going kept agrees a.runs a.unhurt w l.hurt p l.comes.homefree l.cause l.pc a.event in
      ends_so t out _ _ _ w end l.out_is comes (ap Some (over_same _ end (answer_is out _ (Over end) l.out_is over)))

  follows_ends : turn.Follows t v w out → EndsSo t out end
  follows_ends (turn.loads l) = no_end t out _ _ end l.out_is over (go_isnt _ end)
  follows_ends (turn.stores l) = no_end t out _ _ end l.out_is over (go_isnt _ end)
  follows_ends (turn.waits l) = no_end t out _ _ end l.out_is over (again_isnt _ end)
  follows_ends (turn.loads_straight l) = no_end t out _ _ end l.out_is over (go_isnt _ end)
  follows_ends (turn.stores_straight l) = no_end t out _ _ end l.out_is over (go_isnt _ end)
  follows_ends (turn.is_early l) = no_end t out _ _ end l.out_is over (again_isnt _ end)
  follows_ends (turn.commits l) = commit_ends l
  follows_ends (turn.exits_loop l) = exit_ends l
  follows_ends (turn.faults l) = fault_ends l

  pub acts_ends : turn.Acts t v w out → EndsSo t out end
  acts_ends (turn.starts l) = no_end t out _ _ end l.out_is over (go_isnt _ end)
  acts_ends (turn.finds_none l) = no_end t out _ _ end l.out_is over (again_isnt _ end)
  acts_ends (turn.restarts l) = no_end t out _ _ end l.out_is over (go_isnt _ end)
  acts_ends (turn.is_told l) = no_end t out _ _ end l.out_is over (go_isnt _ end)
  acts_ends (turn.follows l) = follows_ends l
