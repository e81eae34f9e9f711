-- What a turn of a run makes of the timing of its epochs.
use Rattle.std.proofs.Common.{◌≡◌, ℕ, ◌+◌, ◌-◌, ◌<◌, ◌≤◌, ◌==◌, Bool, true, false, List, [], ◌++◌, Option, Some, None, IsSome, if◌then◌else◌, refl, sym, subst, eqb-true}
use Rattle.std.proofs.lemmas.Option.{cond_some}
use Rattle.rv32_exec.specs.declared.stop.Stop.TheVariants as stop
use Rattle.rv32_exec.specs.declared.sequential.End.{End}
use Rattle.rv32_exec.specs.declared.sequential.End.TheVariants as end
use Rattle.memory_bytes.specs.Maps.{over}
use Rattle.rv32_image.specs.Image.{IsImage, LoadedImage}
use Rattle.rv32_exec.specs.Hart.{HartState}
use Rattle.rv32_exec.specs.NextEvent.{next_event}
use Rattle.spec_history.specs.declared.entry.Entry.{Entry}
use Rattle.spec_history.specs.declared.entry.What.TheVariants as what
use Rattle.spec_history.specs.FlatState.{CoreState, FlatState, end_at}
use Rattle.spec_history.specs.Replay.{replay}
use Rattle.violations.specs.View.{IsSettled, StoreView}
use Rattle.violations.specs.View as view
use Rattle.violations.specs.Rule.{LoadsStraight, StoresStraight}
use Rattle.homefree.specs.declared.answer.Answer.{Answer}
use Rattle.homefree.specs.declared.answer.Answer.TheVariants.{Go, Again, Left, Over, Stopped}
use Rattle.homefree.specs.Agrees.{Agrees}
use Rattle.homefree.specs.Turned.{Acts, Follows, IsAt, Outcome, Turn, does, left_or_over, publishes_unless}
use Rattle.homefree.specs.Turned as turn
use Rattle.limits.specs.declared.limit.Waits.{Waits}
use Rattle.limits.specs.declared.limit.Waits.TheVariants.{Store}
use Rattle.limits.proofs.Marks.{IsTimedIn, Marks}
use Rattle.limits.proofs.Marking.{goes}
use Rattle.limits.proofs.Finishing.{IsBound}
use Rattle.limits.proofs.Acting.{Went, gap}
use Rattle.limits.proofs.Acting as act
use Rattle.limits.proofs.Publishing as publish

-- ---- what comes of a turn

abbrev pub ComesTo : LoadedImage → Waits → ℕ → ℕ → ℕ → FlatState → Marks → StoreView → StoreView → List Entry → Answer → Type 0
ComesTo image kind cores now core s m v w entries (Go hart) = Went image kind cores now core ((next_event image hart).now.done - hart.done) s m entries w
ComesTo image kind cores now core s m v w entries (Again cause) = (entries ≡ []) × (w ≡ v)
ComesTo image kind cores now core s m v w entries Left = Went image kind cores now core 0 s m entries w
ComesTo image kind cores now core s m v w entries (Over end) = IsBound image kind cores (now + 1)
ComesTo image kind cores now core s m v w entries (Stopped cause) = Unit {0}

-- where the core goes on, the store keeps what every store does
abbrev pub GoesOn : StoreView → Answer → Type 0
GoesOn w (Go hart) = IsSettled w
GoesOn w (Again cause) = Unit {0}
GoesOn w Left = Unit {0}
GoesOn w (Over e) = Unit {0}
GoesOn w (Stopped cause) = Unit {0}

-- where an access waits, a core may go straight before it commits: for loads that wait for stores alone
pub record IsFor (kind : Waits) (waits : view.Waits) : Type 0 where
  pub load : (core address width : ℕ) → IsSome (waits.load core address width) → kind ≡ Store
  pub store : (core address width : ℕ) → IsSome (waits.store core address width) → kind ≡ Store

module _ (t : Turn) (kind : Waits) (now : ℕ) (m : Marks) (v w : StoreView) (history : List Entry) (is : IsImage t.image) (reached : replay t.image t.cores history ≡ Some t.state)
    (still : t.state.end ≡ None) (there : t.core < t.cores) (agrees : Agrees t.state v) (settled : IsSettled v) (timed : IsTimedIn t.image kind t.cores now t.state m)
    (due : m.from t.core + gap t.image (t.state.cores t.core) ≤ now) where
  abbrev s : FlatState
  s = t.state

  abbrev To : Outcome → Type 0
  To o = ComesTo t.image kind t.cores now t.core s m v w o.entries o.answer

  started : (out : Outcome) → turn.IsStart t v w out → To out
  started out l = subst To (sym l.out_is)
      (act.begins t.image t.cores t.core kind now s m v w history is reached still agrees timed due settled l.idle there l.left l.store)

  restarted : (out : Outcome) → turn.IsRestart t v w out → To out
  restarted out l = subst To (sym l.out_is)
      (act.again t.image t.cores t.core kind now s m v w history is reached still agrees timed due settled l.core l.runs l.hurt l.store)

  told : (out : Outcome) → turn.IsTold t v w out → To out
  told out l = subst To (sym l.out_is)
      (act.told t.image t.cores t.core kind now s m v w history is reached still agrees timed due ((next_event t.image l.core.hart).now.done - l.core.hart.done) l.store)

  -- ---- a core that runs

  loaded : (out : Outcome) → turn.IsLoad t v w out → To out
  loaded out l = subst To (sym l.out_is)
      (act.loads t.image t.cores t.core kind now s m v w history is reached still agrees timed due l.core l.comes.is_at.runs l.comes.is_at.unhurt l.comes.speculates
      l.address l.width l.rd l.value l.signed l.hurt l.comes.is_at.event l.store)

  saved : (out : Outcome) → turn.IsStore t v w out → To out
  saved out l = subst To (sym l.out_is)
      (act.saves t.image t.cores t.core kind now s m v w history is reached still agrees timed due l.core l.comes.is_at.runs l.comes.is_at.unhurt l.comes.speculates
      l.address l.width l.value l.hurt l.comes.is_at.event l.store)

  -- ---- the homefree core

  left_by : (entries : List Entry) (o : Option End) → end_at t.image (s.homefree + 1) ≡ o
      → (end_at t.image (s.homefree + 1) ≡ None → Went t.image kind t.cores now t.core 0 s m entries w)
      → (s.homefree + 1 ≡ t.image.epochs → IsBound t.image kind t.cores (now + 1))
      → To (does entries (left_or_over o))
  left_by entries None none goes over = goes none
  left_by entries (Some e) some goes over = over (eqb-true (s.homefree + 1) t.image.epochs (cond_some (s.homefree + 1 == t.image.epochs) (end.Done (s.homefree + 1)) e some).0)

  committed : (out : Outcome) → turn.IsCommit t v w out → To out
  committed out l =
      let c = l.core in
      let at = l.comes.is_at.runs in
      let unhurt = l.comes.is_at.unhurt in
      subst To (sym l.out_is) (left_by (turn.hurts_of t l.hurt ++ turn.entry_of t what.Commit) (end_at t.image (s.homefree + 1)) refl
      (λ none. act.commits t.image t.cores t.core kind now s m v w history is reached still agrees timed due c at unhurt l.comes.homefree l.between l.hurt l.comes.publishes
      l.comes.is_at.event l.stays none l.store)
      (λ last. act.is_over t.image t.cores t.core kind now s m v w history is reached still agrees timed due c at unhurt l.comes.homefree l.comes.is_at.event last))

  exited : (out : Outcome) → turn.IsExit t v w out → To out
  exited out l = subst To (sym l.out_is)
      (act.exits_loop t.image t.cores t.core kind now s m v w history is reached still agrees timed due l.core l.comes.is_at.runs l.comes.is_at.unhurt l.comes.homefree
      l.comes.is_at.event l.exits)

  faulted : (out : Outcome) → turn.IsFault t v w out → To out
  faulted out l = subst To (sym l.out_is)
      (act.faults t.image t.cores t.core kind now s m v w history is reached still agrees timed due l.core l.comes.is_at.runs l.comes.is_at.unhurt l.comes.homefree
      l.cause l.pc l.comes.is_at.event)

  -- ---- straight accesses

  module _ (kept_w : IsSettled w) (for : IsFor kind t.waits) where
    load_by : (c : CoreState) (at : s.cores t.core ≡ Some c) (unhurt : c.hurt ≡ false) (homefree : c.epoch ≡ s.homefree) (address width rd value : ℕ) (signed : Bool)
        (next : (next_event t.image c.hart).at ≡ stop.Load address width signed rd) (between : StoreView) (first hurt : ℕ → Bool) (b : Bool) → c.straight ≡ b
        → publishes_unless b v between t.core first → (c.straight ≡ false → IsSome (t.waits.load t.core address width)) → LoadsStraight between w t.core address width value hurt
        → Went t.image kind t.cores now t.core ((next_event t.image (turn.loaded_hart t.image c value)).now.done - (turn.loaded_hart t.image c value).done) s m
        ((if b then [] else turn.hurts_of t first ++ turn.entry_of t what.Publish) ++ (turn.hurts_of t hurt ++ turn.entry_of t (what.Load address width value))) w
    load_by c at unhurt homefree address width rd value signed next between first hurt true straight p waits l =
        act.loads_straight t.image t.cores t.core kind now s m v w history is reached still agrees timed due c at unhurt homefree straight kept_w
        address width rd value signed hurt next (subst (λ x. LoadsStraight x w t.core address width value hurt) p.0 l)
    load_by c at unhurt homefree address width rd value signed next between first hurt false speculates p waits l =
        let store : kind ≡ Store = for.load t.core address width (waits speculates) in
        publish.then_loads t.image t.cores t.core kind now s m v history is reached still agrees timed due c at unhurt speculates homefree store between first p
        w kept_w address width rd value signed hurt next l

    store_by : (c : CoreState) (at : s.cores t.core ≡ Some c) (unhurt : c.hurt ≡ false) (homefree : c.epoch ≡ s.homefree) (address width value : ℕ)
        (next : (next_event t.image c.hart).at ≡ stop.Store address width value) (between : StoreView) (first hurt : ℕ → Bool) (b : Bool) → c.straight ≡ b
        → publishes_unless b v between t.core first → (c.straight ≡ false → IsSome (t.waits.store t.core address width)) → StoresStraight between w t.core address width value hurt
        → Went t.image kind t.cores now t.core ((next_event t.image (turn.stored_hart t.image c)).now.done - (turn.stored_hart t.image c).done) s m
        ((if b then [] else turn.hurts_of t first ++ turn.entry_of t what.Publish) ++ (turn.hurts_of t hurt ++ turn.entry_of t (what.Store address width value))) w
    store_by c at unhurt homefree address width value next between first hurt true straight p waits l =
        act.stores_straight t.image t.cores t.core kind now s m v w history is reached still agrees timed due c at unhurt homefree straight kept_w
        address width value hurt next (subst (λ x. StoresStraight x w t.core address width value hurt) p.0 l)
    store_by c at unhurt homefree address width value next between first hurt false speculates p waits l =
        let store : kind ≡ Store = for.store t.core address width (waits speculates) in
        publish.then_stores t.image t.cores t.core kind now s m v history is reached still agrees timed due c at unhurt speculates homefree store between first p
        w kept_w address width value hurt next l

  -- ---- any of them

  settled_by : (out : Outcome) (entries : List Entry) (hart : HartState) → out ≡ does entries (Go hart) → GoesOn w out.answer → IsSettled w
  settled_by out entries hart same kept = subst (λ (o : Outcome). GoesOn w o.answer) same kept

  follows : IsFor kind t.waits → (out : Outcome) → GoesOn w out.answer → Follows t v w out → To out
  follows for out kept (turn.loads l) = loaded out l
  follows for out kept (turn.stores l) = saved out l
  follows for out kept (turn.waits l) = subst To (sym l.out_is) (refl, l.store)
  follows for out kept (turn.loads_straight l) = subst To (sym l.out_is)
      (load_by (settled_by out _ _ l.out_is kept) for l.core l.comes.is_at.runs l.comes.is_at.unhurt l.comes.homefree l.address l.width l.rd l.value l.signed l.comes.is_at.event
      l.between l.first l.hurt l.core.straight refl l.comes.publishes l.waits l.store)
  follows for out kept (turn.stores_straight l) = subst To (sym l.out_is)
      (store_by (settled_by out _ _ l.out_is kept) for l.core l.comes.is_at.runs l.comes.is_at.unhurt l.comes.homefree l.address l.width l.value l.comes.is_at.event
      l.between l.first l.hurt l.core.straight refl l.comes.publishes l.waits l.store)
  follows for out kept (turn.is_early l) = subst To (sym l.out_is) (refl, l.store)
  follows for out kept (turn.commits l) = committed out l
  follows for out kept (turn.exits_loop l) = exited out l
  follows for out kept (turn.faults l) = faulted out l

  pub acts : IsFor kind t.waits → (out : Outcome) → GoesOn w out.answer → Acts t v w out → To out
  acts for out kept (turn.starts l) = started out l
  acts for out kept (turn.finds_none l) = subst To (sym l.out_is) (refl, l.store)
  acts for out kept (turn.restarts l) = restarted out l
  acts for out kept (turn.is_told l) = told out l
  acts for out kept (turn.follows l) = follows for out kept l
