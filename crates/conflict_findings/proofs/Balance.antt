-- Each attempt that begins ends once, or goes on: what one entry does to how many go on.
use Rattle.std.proofs.Common.{◌≡◌, ◌≢◌, ℕ, zero, suc, ◌+◌, ◌<◌, ◌≤◌, ◌==◌, ◌&&◌, ◌||◌, not, Bool, true, false, cond, nat_lt, List, [], ◌∷◌, ◌++◌, length, take, slice_get, count_by, Option, Some, None, is_some, option_and_then, option_map, option_to_list, refl, sym, ap, ◌∙◌, inl, inr, arith, subst, true≢false, eq-eqb, ne_eqb, eqb-true, ltb-true}
use Rattle.std.proofs.lemmas.Bool.{cases_eq, and_parts, not-true, or_right}
use Rattle.std.proofs.lemmas.List.{length-append, take_all}
use Rattle.std.proofs.lemmas.List.Sums.{sum_by-cons}
use Rattle.rv32_image.specs.Image.{LoadedImage, IsImage}
use Rattle.rv32_image.proofs.SmallFacts.{one_value, or_false}
use Rattle.rv32_exec.specs.Hart.{HartState}
use Rattle.rv32_exec.specs.NextEvent.{next_event}
use Rattle.rv32_exec.specs.Sequential.{exits}
use Rattle.rv32_exec.specs.declared.sequential.End.{End}
use Rattle.rv32_exec.specs.declared.sequential.End.TheVariants as end
use Rattle.spec_history.specs.declared.entry.Entry.{Entry}
use Rattle.spec_history.specs.declared.entry.What.{What}
use Rattle.spec_history.specs.declared.entry.What.TheVariants.{Start, Load, Store, Hurt, Cancel, Restart, Publish, Commit, Fault}
use Rattle.spec_history.specs.FlatState.{CoreState, FlatState, begun, end_after, first_state}
use Rattle.spec_history.specs.Effect.{by_core, effect, hurt_at, idle_at, with_core}
use Rattle.spec_history.specs.Laws.{IsKept}
use Rattle.spec_history.specs.Refusal.{any_below, can_be_hurt, has, is_at, runs_and}
use Rattle.spec_history.specs.Replay.{replay}
use Rattle.spec_history.proofs.Replay.Joining.{splits}
use Rattle.spec_history.proofs.OneEntry.Keeping.{with_core_other, with_core_same}
use Rattle.spec_history.proofs.OneEntry.Legal.{IsLegalEntry, legal_entry, some_below}
use Rattle.spec_history.proofs.Replay.Reaching.{no_entries}
use Rattle.spec_history.proofs.Replay.Replays.{effect-idle, effect-on, not_running, replayed, one_legal}
use Rattle.conflicts.specs.declared.explanation.Runner.{Runner}
use Rattle.conflicts.specs.Attempts.{attempt_number, is_begin}
use Rattle.conflict_findings.specs.declared.ended.Ended.{Ended}
use Rattle.conflict_findings.specs.declared.ended.Ending.{Ending}
use Rattle.conflict_findings.specs.declared.ended.Ending.TheVariants.{Committed, Violated, Cancelled}
use Rattle.conflict_findings.specs.declared.ended.Running.{Running}
use Rattle.conflict_findings.specs.Ends.{done_by, ended_as, ended_at, ended_before, ended_by, ended_with, is_faulted, running_after, running_below, running_from, running_in}
use Rattle.conflict_findings.proofs.Growing.{ended_is, none_ended, none_running, one_ended, one_running}
use Rattle.conflict_findings.proofs.Losing.{first_legal, found_core}

-- ---- a sum over cores

unfoldable total : ℕ → (ℕ → ℕ) → ℕ
total zero f = 0
total (suc n) f = total n f + f n

no_total : (f : ℕ → ℕ) → total 0 f ≡ 0
unfolding total
no_total f = refl

one_total : (n : ℕ) (f : ℕ → ℕ) → total (suc n) f ≡ total n f + f n
unfolding total
one_total n f = refl

same_total : (n : ℕ) (f g : ℕ → ℕ) → ((j : ℕ) → f j ≡ g j) → total n f ≡ total n g
same_total zero f g same = no_total f ∙ sym (no_total g)
same_total (suc n) f g same = omega (arith, one_total n f, one_total n g, same n, same_total n f g same)

same_below : (n : ℕ) (f g : ℕ → ℕ) → ((j : ℕ) → j < n → f j ≡ g j) → total n f ≡ total n g
same_below zero f g same = no_total f ∙ sym (no_total g)
same_below (suc n) f g same = omega (arith, one_total n f, one_total n g, same n (omega arith), same_below n f g (λ j below. same j (omega (arith, below))))

-- where two differ at one core
one_differs : (n k : ℕ) (f g : ℕ → ℕ) → k < n → ((j : ℕ) → j ≢ k → f j ≡ g j) → total n f + g k ≡ total n g + f k
one_differs zero k f g below same = absurd (omega (arith, below))
one_differs (suc n) k f g below same = elim (cases_eq k n) [
  | inl e ↦
      let rest = same_below n f g (λ j before. same j (λ clash. omega (arith, before, clash, e))) in
      omega (arith, one_total n f, one_total n g, rest, ap f e, ap g e)
  | inr other ↦ omega (arith, one_total n f, one_total n g, same n (λ clash. other (sym clash)), one_differs n k f g (omega (arith, below, other)) same)
]

-- ---- whether a core goes on

abbrev on : Option End → Option CoreState → ℕ
on e None = 0
on e (Some c) = cond (c.hurt || is_faulted e c.epoch) 0 1

counted_by : (b : Bool) (r : Running) → length (option_to_list (cond b None (Some r))) ≡ cond b 0 1
counted_by true r = refl
counted_by false r = refl

on_is : (image : LoadedImage) (entries : List Entry) (e : Option End) (core : ℕ) (o : Option CoreState)
    → length (option_to_list (option_and_then {U = Running} (λ (c : CoreState). cond (c.hurt || is_faulted e c.epoch) None (Some (record { runner = record { core = core; epoch = c.epoch }; attempt = attempt_number entries core (length entries); done = done_by image c }))) o)) ≡ on e o
on_is image entries e core None = refl
on_is image entries e core (Some c) = counted_by (c.hurt || is_faulted e c.epoch) _

running_total : (image : LoadedImage) (entries : List Entry) (s : FlatState) (n : ℕ) → length (running_below image entries s n) ≡ total n (λ k. on s.end (s.cores k))
running_total image entries s zero = ap length (sym (none_running image entries s)) ∙ sym (no_total (λ k. on s.end (s.cores k)))
running_total image entries s (suc n) =
    ap length (one_running image entries s n)
    ∙ (length-append (running_below image entries s n) (option_to_list (running_in image entries s n))
    ∙ omega (arith, running_total image entries s n, on_is image entries s.end n (s.cores n), one_total n (λ k. on s.end (s.cores k))))

-- it is not hurt, and the loop has not ended by its fault
abbrev alive : Option CoreState → ℕ
alive None = 0
alive (Some c) = cond c.hurt 0 1

abbrev NoFault : Option End → Type 0
NoFault e = (epoch : ℕ) → is_faulted e epoch ≡ false

on_alive : (e : Option End) (o : Option CoreState) → NoFault e → on e o ≡ alive o
on_alive e None none = refl
on_alive e (Some c) none = ap (λ b. cond b 0 1) (ap (λ b. c.hurt || b) (none c.epoch) ∙ or_false c.hurt)

-- how many go on, where no epoch has faulted
alive_total : (image : LoadedImage) (entries : List Entry) (s : FlatState) (n : ℕ) → NoFault s.end → length (running_below image entries s n) ≡ total n (λ k. alive (s.cores k))
alive_total image entries s n none = running_total image entries s n ∙ same_total n (λ k. on s.end (s.cores k)) (λ k. alive (s.cores k)) (λ j. on_alive s.end (s.cores j) none)

no_end : (e : Option End) → e ≡ None → NoFault e
no_end e is epoch = ap (λ o. is_faulted o epoch) is

pick_end : (b : Bool) (one : End) (other : Option End) → ((epoch : ℕ) → is_faulted (Some one) epoch ≡ false) → NoFault other → NoFault (cond b (Some one) other)
pick_end true one other first second epoch = first epoch
pick_end false one other first second epoch = second epoch

committed_end : (image : LoadedImage) (h : HartState) (epoch : ℕ) → NoFault (end_after image h epoch)
committed_end image h epoch = pick_end (exits image h) (end.Exit epoch) _ (λ e. refl) (pick_end (epoch + 1 == image.epochs) (end.Done (epoch + 1)) None (λ e. refl) (λ e. refl))

-- ---- one core is changed

abbrev going_on : LoadedImage → ℕ → List Entry → FlatState → ℕ
going_on image count entries s = length (running_below image entries s count)

-- one core is another
replaced : (image : LoadedImage) (count : ℕ) (entries : List Entry) (s s' : FlatState) (by : ℕ) (new : Option CoreState) → NoFault s.end → NoFault s'.end → by < count → s'.cores ≡ with_core s.cores by new
    → going_on image count entries s + alive new ≡ going_on image count entries s' + alive (s.cores by)
replaced image count entries s s' by new one two below is =
    let f : ℕ → ℕ = λ k. alive (s.cores k) in
    let g : ℕ → ℕ = λ k. alive (s'.cores k) in
    let here : g by ≡ alive new = ap alive (ap (λ (cores : ℕ → Option CoreState). cores by) is ∙ with_core_same s.cores by new) in
    let others = one_differs count by f g below (λ j other. sym (ap alive (ap (λ (cores : ℕ → Option CoreState). cores j) is ∙ with_core_other s.cores by new j other))) in
    omega (arith, alive_total image entries s count one, alive_total image entries s' count two, others, here)

-- all are told of an epoch, and one runs it
told : (image : LoadedImage) (count : ℕ) (entries : List Entry) (s s' : FlatState) (k : ℕ) (h : Option CoreState → Option CoreState) → NoFault s.end → NoFault s'.end → k < count → s'.cores ≡ (λ j. h (s.cores j))
    → ((j : ℕ) → j ≢ k → alive (h (s.cores j)) ≡ alive (s.cores j)) → going_on image count entries s + alive (h (s.cores k)) ≡ going_on image count entries s' + alive (s.cores k)
told image count entries s s' k h one two below is same =
    let f : ℕ → ℕ = λ j. alive (s.cores j) in
    let g : ℕ → ℕ = λ j. alive (s'.cores j) in
    let here : g k ≡ alive (h (s.cores k)) = ap (λ (cores : ℕ → Option CoreState). alive (cores k)) is in
    let others = one_differs count k f g below (λ j other. sym (ap (λ (cores : ℕ → Option CoreState). alive (cores j)) is ∙ same j other)) in
    omega (arith, alive_total image entries s count one, alive_total image entries s' count two, others, here)

-- a core that runs another epoch
abbrev OtherEpoch : ℕ → Option CoreState → Type 0
OtherEpoch epoch o = (d : CoreState) → o ≡ Some d → d.epoch ≢ epoch

hurt_other : (epoch : ℕ) (o : Option CoreState) → OtherEpoch epoch o → alive (hurt_at epoch o) ≡ alive o
hurt_other epoch None other = refl
hurt_other epoch (Some d) other = ap (λ b. cond b 0 1) (ap (λ b. d.hurt || b) (ne_eqb d.epoch epoch (other d refl)) ∙ or_false d.hurt)

idle_other : (epoch : ℕ) (o : Option CoreState) → OtherEpoch epoch o → alive (idle_at epoch o) ≡ alive o
idle_other epoch None other = refl
idle_other epoch (Some d) other = ap (λ b. alive (cond b None (Some d))) (ne_eqb d.epoch epoch (other d refl))

fault_other : (epoch cause pc : ℕ) (o : Option CoreState) → OtherEpoch epoch o → on (Some (end.Fault epoch cause pc)) o ≡ alive o
fault_other epoch cause pc None other = refl
fault_other epoch cause pc (Some d) other = ap (λ b. cond b 0 1) (ap (λ b. d.hurt || b) (ne_eqb epoch d.epoch (λ e. other d refl (sym e))) ∙ or_false d.hurt)

hurt_here : (epoch : ℕ) (c : CoreState) → c.epoch ≡ epoch → alive (hurt_at epoch (Some c)) ≡ 0
hurt_here epoch c is = ap (λ b. cond b 0 1) (or_right c.hurt _ (eq-eqb c.epoch epoch is))

idle_here : (epoch : ℕ) (c : CoreState) → c.epoch ≡ epoch → alive (idle_at epoch (Some c)) ≡ 0
idle_here epoch c is = ap (λ b. alive (cond b None (Some c))) (eq-eqb c.epoch epoch is)

fault_here : (cause pc : ℕ) (c : CoreState) → on (Some (end.Fault c.epoch cause pc)) (Some c) ≡ 0
fault_here cause pc c = ap (λ b. cond b 0 1) (or_right c.hurt _ (eq-eqb c.epoch c.epoch refl))

others : (image : LoadedImage) (count : ℕ) (s : FlatState) (k : ℕ) (c : CoreState) (epoch : ℕ) → IsKept image count s → s.cores k ≡ Some c → c.epoch ≡ epoch → (j : ℕ) → j ≢ k → OtherEpoch epoch (s.cores j)
others image count s k c epoch kept runs is j other d at same = other (kept.apart j k d c at runs (same ∙ sym is))

-- ---- what the tests say

hurtable : (epoch : ℕ) (o : Option CoreState) → can_be_hurt epoch o ≡ true → (c : CoreState) × (o ≡ Some c) × (c.hurt ≡ false) × (c.epoch ≡ epoch)
hurtable epoch None is = absurd cc
hurtable epoch (Some c) is =
    let both = and_parts (not c.hurt) ((c.epoch == epoch) && not c.straight) is in
    (c, refl, not-true c.hurt both.0, eqb-true c.epoch epoch (and_parts (c.epoch == epoch) (not c.straight) both.1).0)

runs_epoch : (epoch : ℕ) (o : Option CoreState) → is_at epoch o ≡ true → (c : CoreState) × (o ≡ Some c) × (c.epoch ≡ epoch)
runs_epoch epoch None is = absurd cc
runs_epoch epoch (Some c) is = (c, refl, eqb-true c.epoch epoch is)

unhurt : (o : Option CoreState) (c : CoreState) (test : CoreState → Bool) → o ≡ Some c → runs_and o test ≡ true → c.hurt ≡ false
unhurt o c test at is = not-true c.hurt (and_parts (not c.hurt) (test c) (sym (ap (λ x. runs_and x test) at) ∙ is)).0

-- ---- what has ended

one_ended_as : (image : LoadedImage) (entries : List Entry) (s : FlatState) (place : ℕ) (ending : Ending) (by core : ℕ) (a c : CoreState) → s.cores by ≡ Some a → s.cores core ≡ Some c
    → length (option_to_list (ended_as image entries s place ending by core)) ≡ 1
one_ended_as image entries s place ending by core a c causer victim =
    ap (λ (o : Option Ended). length (option_to_list o))
    (ap (λ (o : Option CoreState). option_and_then (λ (r : Runner). option_map (ended_with image entries place ending r core) (s.cores core)) (option_map (λ (x : CoreState). record { core = by; epoch = x.epoch }) o)) causer
    ∙ ap (option_map (ended_with image entries place ending (record { core = by; epoch = a.epoch }) core)) victim)

abbrev ended_count : LoadedImage → ℕ → List Entry → FlatState → ℕ → ℕ → What → ℕ
ended_count image count entries s place by what = length (option_to_list (ended_by image count entries s place by what))

hurt_ends : (image : LoadedImage) (count : ℕ) (entries : List Entry) (s : FlatState) (place by epoch core : ℕ) (a c : CoreState) → IsKept image count s → s.cores by ≡ Some a → s.cores core ≡ Some c → c.epoch ≡ epoch
    → ended_count image count entries s place by (Hurt epoch) ≡ 1
hurt_ends image count entries s place by epoch core a c kept causer victim is =
    ap (λ (o : Option ℕ). length (option_to_list (option_and_then (ended_as image entries s place Violated by) o))) (found_core image count s core epoch c kept victim (sym is))
    ∙ one_ended_as image entries s place Violated by core a c causer victim

cancel_by : (b : Bool) (found : Option Ended) → length (option_to_list found) ≡ 1 → length (option_to_list (cond b None found)) ≡ cond b 0 1
cancel_by true found is = refl
cancel_by false found is = is

cancel_ends : (image : LoadedImage) (count : ℕ) (entries : List Entry) (s : FlatState) (place by epoch core : ℕ) (a c : CoreState) → IsKept image count s → s.cores by ≡ Some a → s.cores core ≡ Some c → c.epoch ≡ epoch
    → ended_count image count entries s place by (Cancel epoch) ≡ alive (s.cores core)
cancel_ends image count entries s place by epoch core a c kept causer victim is =
    ap (λ (o : Option ℕ). length (option_to_list (option_and_then (λ k. cond (has (s.cores k) (λ x. x.hurt)) None (ended_as image entries s place Cancelled by k)) o))) (found_core image count s core epoch c kept victim (sym is))
    ∙ (ap (λ (o : Option CoreState). length (option_to_list (cond (has o (λ x. x.hurt)) None (ended_as image entries s place Cancelled by core)))) victim
    ∙ (cancel_by c.hurt (ended_as image entries s place Cancelled by core) (one_ended_as image entries s place Cancelled by core a c causer victim)
    ∙ sym (ap alive victim)))

-- ---- one entry

abbrev Balanced : LoadedImage → ℕ → List Entry → FlatState → ℕ → ℕ → What → FlatState → Type 0
Balanced image count entries s place by what s' = cond (is_begin what) 1 0 + going_on image count entries s ≡ ended_count image count entries s place by what + going_on image count entries s'

acting : (image : LoadedImage) (count : ℕ) (entries : List Entry) (s s' : FlatState) (by : ℕ) (old new : CoreState) → s.end ≡ None → s'.end ≡ None → by < count → s.cores by ≡ Some old
    → s'.cores ≡ with_core s.cores by (Some new) → new.hurt ≡ old.hurt → 0 + going_on image count entries s ≡ 0 + going_on image count entries s'
acting image count entries s s' by old new one two below runs is same =
    let changed = replaced image count entries s s' by (Some new) (no_end s.end one) (no_end s'.end two) below is in
    let first : alive (s.cores by) ≡ cond old.hurt 0 1 = ap alive runs in
    let second : alive (Some new) ≡ cond old.hurt 0 1 = ap (λ b. cond b 0 1) same in
    omega (arith, changed, first, second)

starting : (image : LoadedImage) (count : ℕ) (entries : List Entry) (s s' : FlatState) (by : ℕ) (new : CoreState) → s.end ≡ None → s'.end ≡ None → by < count → alive (s.cores by) ≡ 0
    → s'.cores ≡ with_core s.cores by (Some new) → new.hurt ≡ false → 1 + going_on image count entries s ≡ 0 + going_on image count entries s'
starting image count entries s s' by new one two below idle is fresh =
    let changed = replaced image count entries s s' by (Some new) (no_end s.end one) (no_end s'.end two) below is in
    let second : alive (Some new) ≡ 1 = ap (λ b. cond b 0 1) fresh in
    omega (arith, changed, idle, second)

hurt_balance : (image : LoadedImage) (count : ℕ) (entries : List Entry) (s s' : FlatState) (place by epoch k : ℕ) (a c : CoreState) → IsKept image count s → s.cores by ≡ Some a → s.cores k ≡ Some c → c.hurt ≡ false → c.epoch ≡ epoch
    → s.end ≡ None → s'.end ≡ None → k < count → s'.cores ≡ (λ j. hurt_at epoch (s.cores j)) → 0 + going_on image count entries s ≡ ended_count image count entries s place by (Hurt epoch) + going_on image count entries s'
hurt_balance image count entries s s' place by epoch k a c kept causer victim calm is one two below changed =
    let difference = told image count entries s s' k (hurt_at epoch) (no_end s.end one) (no_end s'.end two) below changed (λ j other. hurt_other epoch (s.cores j) (others image count s k c epoch kept victim is j other)) in
    let first : alive (s.cores k) ≡ 1 = ap alive victim ∙ ap (λ b. cond b 0 1) calm in
    let second : alive (hurt_at epoch (s.cores k)) ≡ 0 = ap (λ o. alive (hurt_at epoch o)) victim ∙ hurt_here epoch c is in
    omega (arith, difference, first, second, hurt_ends image count entries s place by epoch k a c kept causer victim is)

cancel_balance : (image : LoadedImage) (count : ℕ) (entries : List Entry) (s s' : FlatState) (place by epoch k : ℕ) (a c : CoreState) → IsKept image count s → s.cores by ≡ Some a → s.cores k ≡ Some c → c.epoch ≡ epoch
    → s.end ≡ None → s'.end ≡ None → k < count → s'.cores ≡ (λ j. idle_at epoch (s.cores j)) → 0 + going_on image count entries s ≡ ended_count image count entries s place by (Cancel epoch) + going_on image count entries s'
cancel_balance image count entries s s' place by epoch k a c kept causer victim is one two below changed =
    let difference = told image count entries s s' k (idle_at epoch) (no_end s.end one) (no_end s'.end two) below changed (λ j other. idle_other epoch (s.cores j) (others image count s k c epoch kept victim is j other)) in
    let second : alive (idle_at epoch (s.cores k)) ≡ 0 = ap (λ o. alive (idle_at epoch o)) victim ∙ idle_here epoch c is in
    omega (arith, difference, second, cancel_ends image count entries s place by epoch k a c kept causer victim is)

commit_balance : (image : LoadedImage) (count : ℕ) (entries : List Entry) (s s' : FlatState) (place by : ℕ) (old : CoreState) → s.cores by ≡ Some old → old.hurt ≡ false → s.end ≡ None → NoFault s'.end → by < count
    → s'.cores ≡ with_core s.cores by None → 0 + going_on image count entries s ≡ ended_count image count entries s place by Commit + going_on image count entries s'
commit_balance image count entries s s' place by old runs calm one two below changed =
    let difference = replaced image count entries s s' by None (no_end s.end one) two below changed in
    let first : alive (s.cores by) ≡ 1 = ap alive runs ∙ ap (λ b. cond b 0 1) calm in
    omega (arith, difference, first, one_ended_as image entries s place Committed by by old old runs runs)

fault_balance : (image : LoadedImage) (count : ℕ) (entries : List Entry) (s s' : FlatState) (place by cause pc : ℕ) (old : CoreState) → IsKept image count s → s.cores by ≡ Some old → old.hurt ≡ false → s.end ≡ None → by < count
    → s'.end ≡ Some (end.Fault old.epoch cause pc) → s'.cores ≡ s.cores → 0 + going_on image count entries s ≡ ended_count image count entries s place by (Fault cause pc) + going_on image count entries s'
fault_balance image count entries s s' place by cause pc old kept runs calm one below over same =
    let f : ℕ → ℕ = λ k. alive (s.cores k) in
    let g : ℕ → ℕ = λ k. on (Some (end.Fault old.epoch cause pc)) (s.cores k) in
    let after : going_on image count entries s' ≡ total count g =
    running_total image entries s' count ∙ same_total count (λ k. on s'.end (s'.cores k)) g (λ j. ap (λ e. on e (s'.cores j)) over ∙ ap (λ (cores : ℕ → Option CoreState). on (Some (end.Fault old.epoch cause pc)) (cores j)) same) in
    let first : f by ≡ 1 = ap alive runs ∙ ap (λ b. cond b 0 1) calm in
    let second : g by ≡ 0 = ap (on (Some (end.Fault old.epoch cause pc))) runs ∙ fault_here cause pc old in
    let difference = one_differs count by f g below (λ j other. sym (fault_other old.epoch cause pc (s.cores j) (others image count s by old old.epoch kept runs refl j other))) in
    omega (arith, alive_total image entries s count (no_end s.end one), after, difference, first, second, one_ended_as image entries s place Committed by by old old runs runs)

balance_on : (image : LoadedImage) (count : ℕ) (entries : List Entry) (s : FlatState) (place by : ℕ) (what : What) (old : CoreState) → s.cores by ≡ Some old → IsKept image count s
    → IsLegalEntry image count s (record { by = by; what = what }) → Balanced image count entries s place by what (effect image s (record { by = by; what = what }))
balance_on image count entries s place by (Start epoch) old runs kept legal =
    absurd (true≢false (sym (and_parts (nat_lt by count) _ legal.there).1 ∙ ap (λ (o : Option CoreState). not (is_some o)) runs))
balance_on image count entries s place by (Load address width value) old runs kept legal =
    subst (Balanced image count entries s place by (Load address width value)) (sym (effect-on image s by (Load address width value) old runs))
    (acting image count entries s _ by old _ legal.going legal.going (kept.core by old runs).there runs refl refl)
balance_on image count entries s place by (Store address width value) old runs kept legal =
    subst (Balanced image count entries s place by (Store address width value)) (sym (effect-on image s by (Store address width value) old runs))
    (acting image count entries s _ by old _ legal.going legal.going (kept.core by old runs).there runs refl refl)
balance_on image count entries s place by (Hurt epoch) old runs kept legal =
    let both = and_parts (runs_and (s.cores by) (λ x. nat_lt x.epoch epoch)) (any_below count (λ k. can_be_hurt epoch (s.cores k))) legal.there in
    let v = some_below count (λ k. can_be_hurt epoch (s.cores k)) both.1 in
    let c = hurtable epoch (s.cores v.0) v.2 in
    subst (Balanced image count entries s place by (Hurt epoch)) (sym (effect-on image s by (Hurt epoch) old runs))
    (hurt_balance image count entries s _ place by epoch v.0 old c.0 kept runs c.1 c.2 c.3 legal.going legal.going v.1 refl)
balance_on image count entries s place by (Cancel epoch) old runs kept legal =
    let both = and_parts (runs_and (s.cores by) (λ x. nat_lt x.epoch epoch)) (any_below count (λ k. is_at epoch (s.cores k))) legal.there in
    let v = some_below count (λ k. is_at epoch (s.cores k)) both.1 in
    let c = runs_epoch epoch (s.cores v.0) v.2 in
    subst (Balanced image count entries s place by (Cancel epoch)) (sym (effect-on image s by (Cancel epoch) old runs))
    (cancel_balance image count entries s _ place by epoch v.0 old c.0 kept runs c.1 c.2 legal.going legal.going v.1 refl)
balance_on image count entries s place by Restart old runs kept legal =
    let hurt : old.hurt ≡ true = sym (ap (λ o. has o (λ x. x.hurt)) runs) ∙ legal.there in
    subst (Balanced image count entries s place by Restart) (sym (effect-on image s by Restart old runs))
    (starting image count entries s _ by (begun image old.epoch) legal.going legal.going (kept.core by old runs).there (ap alive runs ∙ ap (λ b. cond b 0 1) hurt) refl refl)
balance_on image count entries s place by Publish old runs kept legal =
    subst (Balanced image count entries s place by Publish) (sym (effect-on image s by Publish old runs))
    (acting image count entries s _ by old _ legal.going legal.going (kept.core by old runs).there runs refl refl)
balance_on image count entries s place by Commit old runs kept legal =
    subst (Balanced image count entries s place by Commit) (sym (effect-on image s by Commit old runs))
    (commit_balance image count entries s _ place by old runs (unhurt (s.cores by) old (λ _. true) runs legal.there) legal.going (committed_end image (next_event image old.hart).now s.homefree) (kept.core by old runs).there refl)
balance_on image count entries s place by (Fault cause pc) old runs kept legal =
    subst (Balanced image count entries s place by (Fault cause pc)) (sym (effect-on image s by (Fault cause pc) old runs))
    (fault_balance image count entries s _ place by cause pc old kept runs (unhurt (s.cores by) old (λ _. true) runs legal.there) legal.going (kept.core by old runs).there refl refl)

balance_idle : (image : LoadedImage) (count : ℕ) (entries : List Entry) (s : FlatState) (place by : ℕ) (what : What) → s.cores by ≡ None
    → IsLegalEntry image count s (record { by = by; what = what }) → Balanced image count entries s place by what (effect image s (record { by = by; what = what }))
balance_idle image count entries s place by (Start epoch) idle legal =
    let there = and_parts (nat_lt by count) _ legal.there in
    subst (Balanced image count entries s place by (Start epoch)) (sym (effect-idle image s by (Start epoch) idle))
    (starting image count entries s _ by (begun image epoch) legal.going legal.going (ltb-true by count there.0) (ap alive idle) refl refl)
balance_idle image count entries s place by (Load address width value) idle legal = absurd (not_running (s.cores by) _ idle legal.there)
balance_idle image count entries s place by (Store address width value) idle legal = absurd (not_running (s.cores by) _ idle legal.there)
balance_idle image count entries s place by (Hurt epoch) idle legal = absurd (not_running (s.cores by) _ idle (and_parts (runs_and (s.cores by) (λ x. nat_lt x.epoch epoch)) _ legal.there).0)
balance_idle image count entries s place by (Cancel epoch) idle legal = absurd (not_running (s.cores by) _ idle (and_parts (runs_and (s.cores by) (λ x. nat_lt x.epoch epoch)) _ legal.there).0)
balance_idle image count entries s place by Restart idle legal = absurd (true≢false (sym legal.there ∙ ap (λ o. by_core o false (λ x. x.hurt)) idle))
balance_idle image count entries s place by Publish idle legal = absurd (not_running (s.cores by) _ idle legal.there)
balance_idle image count entries s place by Commit idle legal = absurd (not_running (s.cores by) _ idle legal.there)
balance_idle image count entries s place by (Fault cause pc) idle legal = absurd (not_running (s.cores by) _ idle legal.there)

balance_by : (image : LoadedImage) (count : ℕ) (entries : List Entry) (s : FlatState) (place by : ℕ) (what : What) (core : Option CoreState) → s.cores by ≡ core → IsKept image count s
    → IsLegalEntry image count s (record { by = by; what = what }) → Balanced image count entries s place by what (effect image s (record { by = by; what = what }))
balance_by image count entries s place by what None at kept legal = balance_idle image count entries s place by what at legal
balance_by image count entries s place by what (Some old) at kept legal = balance_on image count entries s place by what old at kept legal

-- ---- all entries

begun_more : (xs : List Entry) (x : Entry) → count_by (λ (e : Entry). is_begin e.what) (xs ++ x ∷ []) ≡ count_by (λ (e : Entry). is_begin e.what) xs + cond (is_begin x.what) 1 0
begun_more [] x = sum_by-cons (λ (e : Entry). cond (is_begin e.what) 1 0) x [] ∙ omega arith
begun_more (y ∷ ys) x =
    omega (arith, sum_by-cons (λ (e : Entry). cond (is_begin e.what) 1 0) y (ys ++ x ∷ []), sum_by-cons (λ (e : Entry). cond (is_begin e.what) 1 0) y ys, begun_more ys x)

entry_at : (xs : List Entry) (n : ℕ) → n < length xs → (x : Entry) × (slice_get xs n ≡ Some x) × (take (suc n) xs ≡ take n xs ++ x ∷ [])
entry_at [] n below = absurd (omega (arith, below))
entry_at (x ∷ xs) zero below = (x, refl, refl)
entry_at (x ∷ xs) (suc n) below = let rest = entry_at xs n (omega (arith, below)) in (rest.0, rest.1, ap (λ ys. x ∷ ys) rest.2)

zeros : (n : ℕ) → total n (λ k. 0) ≡ 0
zeros zero = no_total (λ k. 0)
zeros (suc n) = omega (arith, one_total n (λ k. 0), zeros n)

none_begun : (image : LoadedImage) (count : ℕ) (entries : List Entry) (s : FlatState) → replay image count [] ≡ Some s
    → 0 ≡ length (ended_before image count entries 0) + going_on image count entries s
none_begun image count entries s replays =
    let same : first_state image ≡ s = one_value _ (first_state image) s (no_entries image count) replays in
    let idle : going_on image count entries (first_state image) ≡ 0 = running_total image entries (first_state image) count ∙ zeros count in
    omega (arith, ap (going_on image count entries) same, idle, ap length (none_ended image count entries))

balanced : (image : LoadedImage) (count : ℕ) (entries : List Entry) (n : ℕ) (s : FlatState) → IsImage image → n ≤ length entries → replay image count (take n entries) ≡ Some s
    → count_by (λ (e : Entry). is_begin e.what) (take n entries) ≡ length (ended_before image count entries n) + going_on image count entries s
balanced image count entries zero s is within replays = none_begun image count entries s replays
balanced image count entries (suc n) s is within replays =
    let x = entry_at entries n (omega (arith, within)) in
    let parts = splits image count (take n entries) (x.0 ∷ []) s (ap (replay image count) (sym x.2) ∙ replays) in
    let t = parts.between in
    let legal = legal_entry image count t x.0 (first_legal image count t s x.0 [] parts.later_replays) in
    let kept = ((replayed image count (take n entries) t is parts.first_replays).going legal.going).kept in
    let after : going_on image count entries s ≡ going_on image count entries (effect image t x.0) = ap (going_on image count entries) (sym (one_legal image count t s x.0 parts.later_replays).1) in
    let ended : length (ended_before image count entries (suc n)) ≡ length (ended_before image count entries n) + ended_count image count entries t n x.0.by x.0.what =
    ap length (one_ended image count entries n)
    ∙ (length-append (ended_before image count entries n) (option_to_list (ended_at image count entries n))
    ∙ ap (λ (o : Option Ended). length (ended_before image count entries n) + length (option_to_list o)) (ended_is image count entries n t x.0 parts.first_replays x.1)) in
    let counted : count_by (λ (e : Entry). is_begin e.what) (take (suc n) entries) ≡ count_by (λ (e : Entry). is_begin e.what) (take n entries) + cond (is_begin x.0.what) 1 0 =
    ap (count_by (λ (e : Entry). is_begin e.what)) x.2 ∙ begun_more (take n entries) x.0 in
    omega (
      arith,
      counted,
      ended,
      after,
      balanced image count entries n t is (omega (arith, within)) parts.first_replays,
      balance_by image count entries t n x.0.by x.0.what (t.cores x.0.by) refl kept legal,
    )

-- each attempt that begins ends once, or goes on
pub all_balanced : (image : LoadedImage) (count : ℕ) (entries : List Entry) (s : FlatState) → IsImage image → replay image count entries ≡ Some s
    → count_by (λ (e : Entry). is_begin e.what) entries ≡ length (ended_before image count entries (length entries)) + length (running_after image count entries)
all_balanced image count entries s is replays =
    let whole : take (length entries) entries ≡ entries = take_all (length entries) entries (omega arith) in
    let found = balanced image count entries (length entries) s is (omega arith) (ap (replay image count) whole ∙ replays) in
    ap (count_by (λ (e : Entry). is_begin e.what)) (sym whole)
    ∙ (found ∙ ap (λ o. length (ended_before image count entries (length entries)) + length (running_from image count entries o)) (sym replays))
