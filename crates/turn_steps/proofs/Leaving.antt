-- What a turn leaves as it was, arm by arm.
use Rattle.std.proofs.Common.{◌≡◌, ◌≢◌, ◌⊎◌, ℕ, ◌/◌, ◌+◌, ◌*◌, Bool, true, false, List, [], ◌∷◌, ◌++◌, Option, Some, None, Result, if◌then◌else◌, inl, inr, refl, sym, ap, subst, ◌∙◌, true≢false}
use Rattle.std.specs.List.{list_any}
use Rattle.std.proofs.lemmas.Bool.{cases_eq, eqb-false, or_parts, or_right, or_left}
use Rattle.std.proofs.lemmas.List.{append_cancel_left}
use Rattle.std.proofs.lemmas.List.Folds.{list_any-append}
use Rattle.rv32_image.specs.Machine.{IsMachineFor}
use Rattle.rv32_exec.specs.declared.stop.Stop.{Stop}
use Rattle.rv32_exec.specs.Arrival.{Arrival}
use Rattle.run_ledger.specs.declared.counts.Counts.{Counts}
use Rattle.spec_history.specs.declared.entry.Entry.{Entry}
use Rattle.spec_history.specs.declared.entry.What.TheVariants.{Load, Store, Publish, Commit, Fault}
use Rattle.spec_history.specs.FlatState.{CoreState, FlatState}
use Rattle.spec_history.specs.Replay.{replay}
use Rattle.violations.specs.View.{StoreView, Waits, is_accessed}
use Rattle.violations.specs.Rule.{IsSameCore, IsSameView, Begins, shape_of}
use Rattle.homefree.specs.declared.answer.Answer.{Answer}
use Rattle.homefree.specs.declared.fault.TurnFault.{TurnFault}
use Rattle.homefree.specs.Agrees.{Agrees, AgreesCore}
use Rattle.homefree.specs.BookView.{BookView}
use Rattle.homefree.specs.Hurts.{entry, hurts, cancels}
use Rattle.homefree.specs.InStep.{InStep}
use Rattle.homefree.specs.Turned as turn
use Rattle.homefree.specs.Turned.{Turn, Outcome, Turned, does, publish_of}
use Rattle.homefree.proofs.Books.Turns.{agrees_same}
use Rattle.turn_steps.specs.Rows.{IsSameRow}
use Rattle.turn_steps.specs.Laws.{KeepsRows, KeepsMemory, touches, stores_in, commits}
use Rattle.turn_steps.proofs.Lines.{load_aligned, store_aligned, in_no_other, unstored}
use Rattle.turn_steps.proofs.Sparing.{IsSpeculative, IsStraight, Keeps, none_isnt, straight_isnt, straight_still, ran, itself, same_keeps, then_keeps, same_row, spares, spares_first, is_straight, was_straight, same_first, sees_committed, load_row, store_row}

-- ---- tests of the entries

module _ (test : Entry → Bool) where
  -- none passes, so none of the later ones does
  none_later : (first later : List Entry) → list_any test (first ++ later) ≡ false → list_any test later ≡ false
  none_later first later isnt = (or_parts (list_any test first) (list_any test later) (sym (list_any-append test first later) ∙ isnt)).1

  one_none : (e : Entry) → list_any test (e ∷ []) ≡ false → test e ≡ false
  one_none e isnt = (or_parts (test e) false isnt).0

  none_last : (first : List Entry) (e : Entry) → list_any test (first ++ e ∷ []) ≡ false → test e ≡ false
  none_last first e isnt = one_none e (none_later first (e ∷ []) isnt)

  some_later : (first later : List Entry) → list_any test later ≡ true → list_any test (first ++ later) ≡ true
  some_later first later is = list_any-append test first later ∙ or_right (list_any test first) (list_any test later) is

  some_first : (first later : List Entry) → list_any test first ≡ true → list_any test (first ++ later) ≡ true
  some_first first later is = list_any-append test first later ∙ or_left (list_any test first) (list_any test later) is

-- an entry commits, so the byte isn't the core's own
not_own : (b own : Bool) → b ≡ true → (b ≡ false) ⊎ (own ≡ false) → own ≡ false
not_own b own is (inl isnt) = absurd (true≢false (sym is ∙ isnt))
not_own b own is (inr isnt) = isnt

-- it publishes unless it is straight
published : (straight : Bool) (first later : List Entry) (by : ℕ) → straight ≡ false → list_any commits ((if straight then [] else first ++ entry by Publish) ++ later) ≡ true
published true first later by is = absurd (true≢false is)
published false first later by is = some_first commits (first ++ entry by Publish) later (some_later commits first (entry by Publish) refl)

-- ---- what a turn leaves

record Leaves (v w : StoreView) (core : ℕ) (entries : List Entry) : Type 0 where
  others : (k : ℕ) → k ≢ core → IsSpeculative w k → Keeps v w k
  own : IsSpeculative w core → (row : ℕ) → list_any (touches row) entries ≡ false → IsSameRow v w core row
  memory : (a : ℕ) → list_any (stores_in (a / 16)) entries ≡ false → (list_any commits entries ≡ false) ⊎ (v.own core a ≡ false) → w.committed a ≡ v.committed a

leaves_all : (v : StoreView) (core : ℕ) (entries : List Entry) → Leaves v v core entries
leaves_all v core entries = record {
  others = λ k other runs. itself v k;
  own = λ runs row isnt. same_row v v core row (itself v core);
  memory = λ a isnt unless. refl;
}

leaves_same : (v w : StoreView) (core : ℕ) (entries : List Entry) → w ≡ v → Leaves v w core entries
leaves_same v w core entries same = subst (λ x. Leaves v x core entries) (sym same) (leaves_all v core entries)

-- after a view that shows the same
same_leaves : (v x w : StoreView) (core : ℕ) (entries : List Entry) → IsSameView v x → Leaves x w core entries → Leaves v w core entries
same_leaves v x w core entries same l = record {
  others = λ k other runs. then_keeps v x w k (same_keeps v x k (same.cores k)) (l.others k other runs);
  own = λ runs row isnt. let kept = l.own runs row isnt in record {
    guarded = λ i below. kept.guarded i below ∙ mine.guarded (16 * row + i);
    own = λ i below. kept.own i below ∙ mine.own (16 * row + i);
    sees = λ i below own. kept.sees i below (mine.own (16 * row + i) ∙ own) ∙ mine.sees (16 * row + i);
  };
  memory = λ a isnt unless. l.memory a isnt (elim unless [ inl none ↦ inl none | inr own ↦ inr (mine.own a ∙ own) ]) ∙ same.committed a;
}
  where
    mine : IsSameCore v x core
    mine = same.cores core

same_view_leaves : (v w : StoreView) (core : ℕ) (entries : List Entry) → IsSameView v w → Leaves v w core entries
same_view_leaves v w core entries same = same_leaves v w w core entries same (leaves_all w core entries)

begins_leaves : (v w : StoreView) (core epoch : ℕ) (entries : List Entry) → Begins v w core epoch → Leaves v w core entries
begins_leaves v w core epoch entries begins = record {
  others = λ k other runs. same_keeps v w k (begins.others k other);
  own = λ runs row isnt. record {
    guarded = λ i below. begins.guarded (16 * row + i);
    own = λ i below. begins.own (16 * row + i);
    sees = λ i below own. begins.sees (16 * row + i);
  };
  memory = λ a isnt unless. begins.committed a;
}

-- ---- the arms of a turn

module _ (t : Turn) (v w : StoreView) (out : Outcome) (going : t.state.end ≡ None) (agrees : Agrees t.state v) (fits : IsMachineFor t.image.size t.image.machine) (shape : v.shape ≡ shape_of t.image t.cores) where
  by_entries : (entries : List Entry) (answer : Answer) → out ≡ does entries answer → Leaves v w t.core entries → Leaves v w t.core out.entries
  by_entries entries answer is l = subst (λ (o : Outcome). Leaves v w t.core o.entries) (sym is) l

  mine : (c : CoreState) → t.state.cores t.core ≡ Some c → c.hurt ≡ false → AgreesCore t.state.committed v t.core c
  mine c runs unhurt = (agrees.core going t.core).runs c runs unhurt

  loads_leave : turn.IsLoad t v w out → Leaves v w t.core out.entries
  loads_leave l = by_entries _ _ l.out_is (record {
    others = λ k other runs. spares v w t.core k l.hurt l.store.others other runs;
    own = λ runs row isnt. load_row t.image t.cores v w t.core l.address l.width l.value l.hurt fits shape
        (load_aligned t.image l.core.hart l.address l.width l.rd l.signed l.comes.is_at.event) l.store row
        (none_last (touches row) (hurts t.cores t.state t.core l.hurt) (record { by = t.core; what = Load l.address l.width l.value }) isnt);
    memory = λ a isnt unless. l.store.committed a;
  })

  stores_leave : turn.IsStore t v w out → Leaves v w t.core out.entries
  stores_leave l = by_entries _ _ l.out_is (record {
    others = λ k other runs. spares v w t.core k l.hurt l.store.others other runs;
    own = λ runs row isnt. store_row t.image t.cores v w t.core l.address l.width l.value l.hurt fits shape
        (store_aligned t.image l.core.hart l.address l.width l.value l.comes.is_at.event) l.store row
        (none_last (touches row) (hurts t.cores t.state t.core l.hurt) (record { by = t.core; what = Store l.address l.width l.value }) isnt);
    memory = λ a isnt unless. l.store.committed a;
  })

  -- ---- a core that publishes unless it is straight

  mine_then : {c : CoreState} {at : Stop} {x : StoreView} {first : ℕ → Bool} → turn.Publishing t c at v x first → AgreesCore t.state.committed v t.core c
  mine_then {c} comes = mine c comes.is_at.runs comes.is_at.unhurt

  straight_then : {c : CoreState} {at : Stop} {x : StoreView} {first : ℕ → Bool} → turn.Publishing t c at v x first → IsStraight x t.core
  straight_then {c} {at} {x} {first} comes = is_straight v x t.core first c.straight comes.publishes (was_straight t.state.committed v t.core c (mine_then comes))

  others_then : {c : CoreState} {at : Stop} {x : StoreView} {first : ℕ → Bool} → turn.Publishing t c at v x first
      → (k : ℕ) → k ≢ t.core → IsSpeculative w k → Keeps x w k → Keeps v w k
  others_then {c} {at} {x} {first} comes k other now keeps =
      then_keeps v x w k (spares_first v x t.core k first c.straight comes.publishes other (ran x w k keeps now)) keeps

  memory_then : {c : CoreState} {at : Stop} {x : StoreView} {first : ℕ → Bool} → turn.Publishing t c at v x first
      → (a : ℕ) → (c.straight ≡ false → v.own t.core a ≡ false) → x.committed a ≡ v.committed a
  memory_then {c} {at} {x} {first} comes a own = same_first v x t.core first a c.straight comes.publishes
      (λ is. sees_committed t.state v t.core c a agrees (mine_then comes) (own is))

  loads_straight_leave : turn.IsStraightLoad t v w out → Leaves v w t.core out.entries
  loads_straight_leave l = by_entries _ _ l.out_is (record {
    others = λ k other runs. others_then l.comes k other runs
        (spares l.between w t.core k l.hurt l.store.others other runs);
    own = λ runs row isnt. absurd (straight_isnt w t.core (straight_still l.between w t.core l.store.attempt
        (straight_then l.comes)) runs);
    memory = λ a isnt unless. l.store.committed a ∙ memory_then l.comes a
        (λ is. not_own _ (v.own t.core a) (published l.core.straight (hurts t.cores t.state t.core l.first) _ t.core is) unless);
  })

  stores_straight_leave : turn.IsStraightStore t v w out → Leaves v w t.core out.entries
  stores_straight_leave l = by_entries _ _ l.out_is (record {
    others = λ k other runs. others_then l.comes k other runs
        (spares l.between w t.core k l.hurt l.store.others other runs);
    own = λ runs row isnt. absurd (straight_isnt w t.core (straight_still l.between w t.core l.store.attempt
        (straight_then l.comes)) runs);
    memory = λ a isnt unless. l.store.committed a
        ∙ (unstored l.address l.width l.value l.between.committed a (elsewhere a isnt)
        ∙ memory_then l.comes a
        (λ is. not_own _ (v.own t.core a) (published l.core.straight (hurts t.cores t.state t.core l.first) _ t.core is) unless));
  })
    where
      the_store : Entry
      the_store = record { by = t.core; what = Store l.address l.width l.value }

      elsewhere : (a : ℕ) → list_any (stores_in (a / 16)) (publish_of t l.core l.first ++ (hurts t.cores t.state t.core l.hurt ++ the_store ∷ [])) ≡ false
          → is_accessed l.address l.width a ≡ false
      elsewhere a isnt = in_no_other l.address l.width a (store_aligned t.image l.core.hart l.address l.width l.value l.comes.is_at.event)
          (eqb-false (l.address / 16) (a / 16) (none_last (stores_in (a / 16)) (hurts t.cores t.state t.core l.hurt) the_store
          (none_later (stores_in (a / 16)) (publish_of t l.core l.first) (hurts t.cores t.state t.core l.hurt ++ the_store ∷ []) isnt)))

  commits_leave : turn.IsCommit t v w out → Leaves v w t.core out.entries
  commits_leave l = by_entries _ _ l.out_is (record {
    others = λ k other runs. others_then l.comes k other runs (same_keeps l.between w k (l.store.others k other));
    own = λ runs row isnt. absurd (none_isnt w t.core l.store.attempt runs);
    memory = λ a isnt unless. l.store.committed a ∙ memory_then l.comes a
        (λ is. not_own _ (v.own t.core a) (some_later commits (hurts t.cores t.state t.core l.hurt) (entry t.core Commit) refl) unless);
  })

  exits_leave : turn.IsExit t v w out → Leaves v w t.core out.entries
  exits_leave l = by_entries _ _ l.out_is (record {
    others = λ k other runs. absurd (none_isnt w k ((l.store.others k other).attempt ∙ l.cancelled.others k other) runs);
    own = λ runs row isnt. absurd (none_isnt w t.core l.store.attempt runs);
    memory = λ a isnt unless. l.store.committed a ∙ (l.cancelled.committed a ∙ memory_then l.comes a
        (λ is. not_own _ (v.own t.core a) (some_later commits (hurts t.cores t.state t.core l.hurt) _ (some_later commits (cancels t.cores t.state t.core) (entry t.core Commit) refl)) unless));
  })

  faults_leave : turn.IsFault t v w out → Leaves v w t.core out.entries
  faults_leave l = by_entries _ _ l.out_is (record {
    others = λ k other runs. spares_first v w t.core k l.hurt l.core.straight l.comes.publishes other runs;
    own = λ runs row isnt. absurd (straight_isnt w t.core (straight_then l.comes) runs);
    memory = λ a isnt unless. memory_then l.comes a
        (λ is. not_own _ (v.own t.core a) (some_later commits (hurts t.cores t.state t.core l.hurt) (entry t.core (Fault l.cause l.pc)) refl) unless);
  })

  follows_leave : turn.Follows t v w out → Leaves v w t.core out.entries
  follows_leave (turn.loads l) = loads_leave l
  follows_leave (turn.stores l) = stores_leave l
  follows_leave (turn.waits l) = leaves_same v w t.core out.entries l.store
  follows_leave (turn.loads_straight l) = loads_straight_leave l
  follows_leave (turn.stores_straight l) = stores_straight_leave l
  follows_leave (turn.is_early l) = leaves_same v w t.core out.entries l.store
  follows_leave (turn.commits l) = commits_leave l
  follows_leave (turn.exits_loop l) = exits_leave l
  follows_leave (turn.faults l) = faults_leave l

  acts_leave : turn.Acts t v w out → Leaves v w t.core out.entries
  acts_leave (turn.starts l) = begins_leaves v w t.core t.state.next_epoch out.entries l.store
  acts_leave (turn.finds_none l) = leaves_same v w t.core out.entries l.store
  acts_leave (turn.restarts l) = begins_leaves v w t.core l.core.epoch out.entries l.store
  acts_leave (turn.is_told l) = leaves_same v w t.core out.entries l.store
  acts_leave (turn.follows l) = follows_leave l

-- ---- a turn of a book

module _ {S : Type 0} (view : S → StoreView) (waits : S → Waits) (old new : BookView S) (shares shares' : Counts) (core : ℕ) (next : Option Arrival) (answer : Result Answer TurnFault)
    (added : List Entry) (step : InStep view old) (goes : new.history ≡ old.history ++ added) where
  book_leaves : Turned view waits old step.state shares core next answer new shares' → Leaves (view old.store) (view new.store) core added
  book_leaves (turn.over o same held) = leaves_same (view old.store) (view new.store) core added (ap (λ (b : BookView S). view b.store) same)
  book_leaves (turn.stopped o same held) = leaves_same (view old.store) (view new.store) core added (ap (λ (b : BookView S). view b.store) same)
  book_leaves (turn.full o same held) = leaves_same (view old.store) (view new.store) core added (ap (λ (b : BookView S). view b.store) same)
  book_leaves (turn.no_memory may same grows is) = same_view_leaves (view old.store) (view new.store) core added same
  book_leaves (turn.acts a) = same_leaves (view old.store) a.reserved (view new.store) core added a.same
      (subst (λ es. Leaves a.reserved (view new.store) core es) (append_cancel_left old.history a.out.entries added (sym a.grows.history ∙ goes))
      (acts_leave (turn.turn_at waits old step.state core next) a.reserved (view new.store) a.out a.may.going
      (agrees_same step.state (view old.store) a.reserved step.agrees a.same) step.is_image.machine_allowed (a.same.shape ∙ step.shape) a.acts))

  keeps_rows : Leaves (view old.store) (view new.store) core added → KeepsRows (view old.store) (view new.store) core added
  keeps_rows l = record {
    same = λ k row attempt is unpublished unless. elim (cases_eq k core) [
      | inl its ↦ subst (λ j. IsSameRow (view old.store) (view new.store) j row) (sym its)
          (l.own (record { attempt = attempt; is = ap (view new.store).attempt (sym its) ∙ is; unpublished = unpublished }) row
          (elim unless [ inl other ↦ absurd (other its) | inr isnt ↦ isnt ]))
      | inr other ↦ same_row (view old.store) (view new.store) k row (l.others k other (record { attempt = attempt; is = is; unpublished = unpublished }))
    ];
  }

  keeps_memory : Leaves (view old.store) (view new.store) core added → KeepsMemory (view old.store) (view new.store) core added
  keeps_memory l = record {
    same = λ row a in_row isnt unless. l.memory a (subst (λ r. list_any (stores_in r) added ≡ false) (sym in_row) isnt) unless;
  }

  -- the laws of a turn: what it leaves of rows, and of committed memory
  pub turn_keeps_rows : ((s : FlatState) → replay old.image old.cores old.history ≡ Some s → Turned view waits old s shares core next answer new shares')
      → KeepsRows (view old.store) (view new.store) core added
  turn_keeps_rows turned = keeps_rows (book_leaves (turned step.state step.replays))

  pub turn_keeps_memory : ((s : FlatState) → replay old.image old.cores old.history ≡ Some s → Turned view waits old s shares core next answer new shares')
      → KeepsMemory (view old.store) (view new.store) core added
  turn_keeps_memory turned = keeps_memory (book_leaves (turned step.state step.replays))
