use Rattle.std.proofs.Common.{false, inl, inr, sym, ap, ◌∙◌, rules, arith}
use Rattle.spec_history.specs.Cores.{core_of}
use Rattle.spec_history.specs.Effect.{by_core}
use Rattle.spec_history.specs.Refusal.{changes_unseen}
use Rattle.spec_history.specs.Machine.{count_of_cores, state_of}
use Rattle.memory_bytes.specs.Maps.{over, stored}
use Rattle.memory_bytes.specs.Shadow.{byte_in}
use Rattle.spec_history.proofs.CodedCores.CoreStates.{state_there, idle_state, running_state}
use Rattle.spec_history.proofs.Searches.Missing.{IsQuiet, IsCommitting, idle_misses, quiet_misses, committing_misses, straight_misses, speculative_misses}
use Rattle.spec_history.proofs.machine.Machine.misses_a_hurt.Goals as goal

pub returns-in_default : goal.returns-in_default
returns-in_default c = sym (idle_misses c.args.self.now.image (count_of_cores c.args.self.now) (state_of c.args.self.now) c.args.by c.args.what (search rules))

pub returns-then-is_idle : goal.returns-then-is_idle
returns-then-is_idle c =
    let m = c.args.self.now in
    let core = state_there m.cores.items c.args.by c.in-Some.core.now (sym c.in-Some.ensures) ∙ idle_state _ (sym c.if-is_idle.ensures) in
    sym (idle_misses m.image (count_of_cores m) (state_of m) c.args.by c.args.what core)

pub commit_misses-requires : goal.commit_misses-requires
commit_misses-requires c = omega (arith, (c.requires.fit.cores.each c.args.by c.in-Some.core.now (sym c.in-Some.ensures)).own, c.requires.fit.committed)

pub returns-in-Publish : goal.returns-in-Publish
returns-in-Publish c =
    let m = c.args.self.now in
    let core = c.in-Some.core.now in
    let there = state_there m.cores.items c.args.by core (sym c.in-Some.ensures) in
    let runs = running_state (core_of core) (sym c.if-is_idle.ensures) in
    let committing : IsCommitting c.args.what = elim c.in-Publish.is [ inl e ↦ rw e tt | inr r ↦ elim r [ inl e ↦ rw e tt | inr f ↦ rw f.2 tt ] ] in
    c.commit_misses.ensures
    ∙ (ap (λ n. changes_unseen n (count_of_cores m) (state_of m) c.args.by (over (byte_in core.own.cells) (state_of m).committed)) c.requires.fit.committed
    ∙ sym (committing_misses m.image (count_of_cores m) (state_of m) c.args.by c.args.what core runs.0 committing there runs.1))

pub returns-then-is_straight : goal.returns-then-is_straight
returns-then-is_straight c =
    let m = c.args.self.now in
    let there = state_there m.cores.items c.args.by c.in-Some.core.now (sym c.in-Some.ensures) in
    let runs = running_state (core_of c.in-Some.core.now) (sym c.if-is_idle.ensures) in
    let straight = sym (ap (λ core. by_core core false (λ x. x.straight)) runs.1) ∙ sym c.if-is_straight.ensures in
    c.store_misses.ensures
    ∙ (ap (λ n. changes_unseen n (count_of_cores m) (state_of m) c.args.by (over (stored c.in-Store.addr c.in-Store.width c.in-Store.value) (state_of m).committed)) c.requires.fit.committed
    ∙ sym (straight_misses m.image (count_of_cores m) (state_of m) c.args.by c.in-Store.addr c.in-Store.width c.in-Store.value c.args.what runs.0 c.in-Store.is (there ∙ runs.1) straight))

pub returns-else-is_straight : goal.returns-else-is_straight
returns-else-is_straight c =
    let m = c.args.self.now in
    let there = state_there m.cores.items c.args.by c.in-Some.core.now (sym c.in-Some.ensures) in
    let runs = running_state (core_of c.in-Some.core.now) (sym c.if-is_idle.ensures) in
    let speculative = sym (ap (λ core. by_core core false (λ x. x.straight)) runs.1) ∙ sym c.if-is_straight.ensures in
    c.if-is_straight.false
    ∙ sym (speculative_misses m.image (count_of_cores m) (state_of m) c.args.by c.in-Store.addr c.in-Store.width c.in-Store.value c.args.what runs.0 c.in-Store.is (there ∙ runs.1) speculative)

pub returns-in-Start : goal.returns-in-Start
returns-in-Start c =
    let m = c.args.self.now in
    let there = state_there m.cores.items c.args.by c.in-Some.core.now (sym c.in-Some.ensures) in
    let runs = running_state (core_of c.in-Some.core.now) (sym c.if-is_idle.ensures) in
    let quiet : IsQuiet c.args.what = elim c.in-Start.is [
      | inl e ↦ rw e.1 tt
      | inr r ↦ elim r [
        | inl e ↦ rw e.3 tt
        | inr q ↦ elim q [
          | inl e ↦ rw e.1 tt
          | inr p ↦ elim p [ inl e ↦ rw e.1 tt | inr e ↦ rw e tt ]
        ]
      ]
    ] in
    sym (quiet_misses m.image (count_of_cores m) (state_of m) c.args.by c.args.what runs.0 (there ∙ runs.1) quiet)
