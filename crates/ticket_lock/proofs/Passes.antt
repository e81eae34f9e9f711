-- What is known of the seat of a pass that is of a lock.
use Rattle.std.proofs.Common.{◌≡◌, ℕ, List, subst, ◌<◌, arith, ◌∷◌, [], Option, Some, None, sym, ap, ◌∙◌}
use Rattle.std.specs.Prelude.{is_some, All}
use Rattle.std.proofs.lemmas.List.Elements.{All-head, All-tail}
use Rattle.std.specs.Option.{option_map}
use mathlib.Core.Option.{some}
use lib.ListN.{get_elem?}
use Rattle.atomic_table.specs.Table.{Final, Seen}
use Rattle.atomic_table.specs.Seated.{TableId}
use Rattle.atomic_table.specs.declared.shared.Seat.{Seat}
use Rattle.ticket_lock.specs.declared.rule.Slot.{Slot}
use Rattle.ticket_lock.specs.Rule.{in_slot}
use Rattle.ticket_lock.specs.declared.rule.Opening.{Opening}
use Rattle.ticket_lock.specs.declared.rule.View.{View}
use Rattle.ticket_lock.specs.declared.rule.Turn.TheVariants.{Idle}
use Rattle.ticket_lock.specs.Known.{LockOf, Known, lock_of, known_of, mine, IsFixedOf}
use Rattle.ticket_lock.specs.Past.{StartsWith, entries_of, longer}
use Rattle.ticket_lock.specs.Rule.{IsLive, IsNoted, LockRule}
use Rattle.ticket_lock.specs.Steps.{noted_of, both_of}
use Rattle.ticket_lock.proofs.Pasts.{entries_of-entries_of, whole_past}
use Rattle.ticket_lock.proofs.RuleKept.{IsClosed, closes}

module _ {F : Type 0} where
  some_opening : (z : TableId) (l : LockOf F) (x : Option (Opening F)) → option_map (lock_of z) x ≡ Some l → x ≡ Some (record { numbers = l.numbers; fixed = l.fixed })
  some_opening z l None e = absurd (cc)
  some_opening z l (Some o) e = let same : lock_of z o ≡ l = cc in ap (λ (k : LockOf F). let p : Opening F = record { numbers = k.numbers; fixed = k.fixed } in let q : Option (Opening F) = Some p in q) same

module _ {F W T : Type 0} where
  pub opened : (s : Seat (Slot T) (View F W)) (p : Known F W) (l : LockOf F) → known_of s ≡ p → p.lock ≡ Some l → s.me.0.opening ≡ Some (record { numbers = l.numbers; fixed = l.fixed })
  opened s p l is own = some_opening s.table_id l s.me.0.opening (ap (λ (k : Known F W). k.lock) is ∙ own)

  pub live : (s : Seat (Slot T) (View F W)) (p : Known F W) (l : LockOf F) → known_of s ≡ p → p.lock ≡ Some l → IsLive s.me.0
  live s p l is own = ap (λ (x : Option (Opening F)). is_some x) (opened s p l is own)

  -- the fixed part of the lock is that of the opening which the seat knows
  pub fixed_is : (s : Seat (Slot T) (View F W)) (p : Known F W) (f : F) → known_of s ≡ p → IsFixedOf p f → (o : Opening F) → s.me.0.opening ≡ Some o → f ≡ o.fixed
  fixed_is s p f is own o opening =
      let there : option_map (λ (l : LockOf F). l.fixed) (option_map (lock_of s.table_id) s.me.0.opening) ≡ Some f = ap (λ (k : Known F W). option_map (λ (l : LockOf F). l.fixed) k.lock) is ∙ own in
      let here : Some o.fixed ≡ Some f = ap (λ (x : Option (Opening F)). option_map (λ (l : LockOf F). l.fixed) (option_map (lock_of s.table_id) x)) (sym opening) ∙ there in
      cc

-- after a join, the entries of both passes are the joined pass's
module _ {F W : Type 0} where
  pub both_mine : (v w : View F W) → v.hi ≡ w.lo → v.lo < v.hi → w.lo < w.hi → All (IsNoted (both_of v w)) (both_of v w).noted
      → (entries_of v.lo v.hi (entries_of v.lo w.hi (longer v.seen w.seen)) ≡ entries_of v.lo v.hi v.seen) × (entries_of w.lo w.hi (entries_of v.lo w.hi (longer v.seen w.seen)) ≡ entries_of w.lo w.hi w.seen)
  both_mine v w beside a b all =
      let n : View F W = both_of v w in
      let first = All-head (IsNoted n) (noted_of v) (noted_of w ∷ []) all in
      let second = All-head (IsNoted n) (noted_of w) [] (All-tail (IsNoted n) (noted_of v) (noted_of w ∷ []) all) in (
        entries_of-entries_of v.lo v.hi v.lo w.hi (omega arith) (omega arith) n.seen ∙ first,
        entries_of-entries_of w.lo w.hi v.lo w.hi (omega arith) (omega arith) n.seen ∙ second,
      )

-- what the lock's last state tells the pass that closes it
module _ {T F W : Type 0} (fixed_of : T → F) (past_of : T → List (ℕ × W)) where
  pub record IsFound (p : Known F W) (l : LockOf F) (x : T) : Type 0 where
    pub fixed : fixed_of x ≡ l.fixed
    pub begins : StartsWith (past_of x) p.seen
    pub own : entries_of p.lo p.hi (past_of x) ≡ mine p
    pub past : All (λ e. e.0 < l.numbers) (past_of x) → past_of x ≡ p.seen

  found_here : (s : Seat (Slot T) (View F W)) (o : Opening F) → s.me.0.lo ≡ 0 → s.me.0.hi ≡ o.numbers → (x : T) → IsClosed fixed_of past_of o s.me.0 x
      → IsFound (known_of s) (lock_of s.table_id o) x
  found_here s o low high x c =
      let v = s.me.0 in record {
        fixed = c.fixed;
        begins = c.begins;
        own = c.own;
        past = whole_past o.numbers c.begins (subst (λ (r : ℕ × ℕ). entries_of r.0 r.1 (past_of x) ≡ entries_of r.0 r.1 v.seen) (λ i. (low i, high i)) c.own);
      }

  pub found : (s : Seat (Slot T) (View F W)) (o : Opening F) (p : Known F W) (l : LockOf F) → known_of s ≡ p → lock_of s.table_id o ≡ l → p.lock ≡ Some l
      → p.lo ≡ 0 → p.hi ≡ l.numbers → s.me.0.turn ≡ Idle → (v : View F W) → v ≡ s.me.0 → (id : ℕ) (ws : List ℕ) (xs : List (Slot T)) → Final (Seen (LockRule fixed_of past_of o) id v) ws xs
      → (x : T) × (get_elem? xs 0 ≡ some (in_slot x)) × IsFound p l x
  found s o p l is lock own low high idle v same id ws xs final =
      let low' : s.me.0.lo ≡ 0 = ap (λ (k : Known F W). k.lo) is ∙ low in
      let high' : s.me.0.hi ≡ o.numbers = ap (λ (k : Known F W). k.hi) is ∙ (high ∙ ap (λ (k : LockOf F). k.numbers) (sym lock)) in
      let f = closes fixed_of past_of o id s.me.0 ws xs (live s p l is own) idle low' high' (subst (λ (v : View F W). Final (Seen (LockRule fixed_of past_of o) id v) ws xs) same final) in (
        f.0,
        f.1,
        subst (λ (k : Known F W). IsFound k l f.0) is (subst (λ (k : LockOf F). IsFound (known_of s) k f.0) lock (found_here s o low' high' f.0 f.2)),
      )
