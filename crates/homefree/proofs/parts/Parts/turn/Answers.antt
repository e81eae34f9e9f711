use Rattle.std.proofs.Common.{rules, ◌≢◌, option_copied, sym, ap, arith, ◌∙◌}
use Rattle.homefree.proofs.Fields.Batches.{running_read}
use Rattle.homefree.proofs.Cases.Acting.{told, none_stale, other_stale, differs, same_hart, handed_in, arrives}
use Rattle.homefree.specs.Standing.{standing}
use Rattle.homefree.proofs.Cases.Moving.{moves_run, moves_told}
use Rattle.homefree.proofs.parts.Parts.turn.Goals as goal

pub returns-in-None-next-clause-acted : goal.returns-in-None-next-clause-acted
returns-in-None-next-clause-acted g c =
    let old = c.args.self.now in
    let now = c.in-Some.now in
    let runs = running_read old.register.running.items c.args.core c.index.result.now c.requires.core c.index.ensures ∙ c.in-Some.is in
    rw runs (told old.register (g.S.EpochStore.view old.store) c.args.shares.now c.args.core (option_copied c.args.next) now c.requires.fits runs c.if-now.false (none_stale c.args.next now.hart c.in-None-next.is))

pub returns-else-eq-clause-acted : goal.returns-else-eq-clause-acted
returns-else-eq-clause-acted g c =
    let old = c.args.self.now in
    let now = c.in-Some.now in
    let runs = running_read old.register.running.items c.args.core c.index.result.now c.requires.core c.index.ensures ∙ c.in-Some.is in
    let other : c.in-Some-next.arrived.now.base ≢ now.hart = λ same. differs c.base.result.now now.hart (sym c.eq.ensures ∙ c.if-eq.false) (c.base.ensures ∙ same) in
    rw runs (told old.register (g.S.EpochStore.view old.store) c.args.shares.now c.args.core (option_copied c.args.next) now c.requires.fits runs c.if-now.false
    (other_stale c.args.next c.in-Some-next.arrived now.hart c.in-Some-next.is other))

pub returns-in-None-next-clause-moves : goal.returns-in-None-next-clause-moves
returns-in-None-next-clause-moves g c =
    let old = c.args.self.now in
    let now = c.in-Some.now in
    let runs = running_read old.register.running.items c.args.core c.index.result.now c.requires.core c.index.ensures ∙ c.in-Some.is in
    moves_told g.S.EpochStore.makes g.S.EpochStore.view (standing old.register (g.S.EpochStore.waits old.store) c.args.core (option_copied c.args.next)) old.store now runs c.if-now.false
    (none_stale c.args.next now.hart c.in-None-next.is)

pub returns-else-eq-clause-moves : goal.returns-else-eq-clause-moves
returns-else-eq-clause-moves g c =
    let old = c.args.self.now in
    let now = c.in-Some.now in
    let runs = running_read old.register.running.items c.args.core c.index.result.now c.requires.core c.index.ensures ∙ c.in-Some.is in
    let other : c.in-Some-next.arrived.now.base ≢ now.hart = λ same. differs c.base.result.now now.hart (sym c.eq.ensures ∙ c.if-eq.false) (c.base.ensures ∙ same) in
    moves_told g.S.EpochStore.makes g.S.EpochStore.view (standing old.register (g.S.EpochStore.waits old.store) c.args.core (option_copied c.args.next)) old.store now runs c.if-now.false
    (other_stale c.args.next c.in-Some-next.arrived now.hart c.in-Some-next.is other)

pub run-requires : goal.run-requires
run-requires g c =
    let old = c.args.self.now in
    let now = c.in-Some.now in
    let runs = running_read old.register.running.items c.args.core c.index.result.now c.requires.core c.index.ensures ∙ c.in-Some.is in (
      search rules,
      arrives {budget = g.S.EpochStore.budget old.store} old.register (g.S.EpochStore.view old.store) c.args.shares.now c.args.core now c.attempt-now.result c.in-Some-next.arrived.now c.requires.core c.requires.fits c.requires.going c.requires.notes
          runs c.if-now.false c.attempt-now.ensures (sym c.base.ensures ∙ same_hart c.base.result.now now.hart (sym c.eq.ensures ∙ c.if-eq.true))
          (handed_in c.args.next c.in-Some-next.arrived old.register.image c.in-Some-next.is c.requires.next) (let budget = c.requires.budget in omega (arith, budget)),
    )

pub returns-then-eq-clause-moves : goal.returns-then-eq-clause-moves
returns-then-eq-clause-moves g c =
    let old = c.args.self.now in
    let now = c.in-Some.now in
    let a = c.in-Some-next.arrived.now in
    let runs = running_read old.register.running.items c.args.core c.index.result.now c.requires.core c.index.ensures ∙ c.in-Some.is in
    let at = arrives {budget = g.S.EpochStore.budget old.store} old.register (g.S.EpochStore.view old.store) c.args.shares.now c.args.core now c.attempt-now.result a c.requires.core c.requires.fits c.requires.going c.requires.notes
    runs c.if-now.false c.attempt-now.ensures (sym c.base.ensures ∙ same_hart c.base.result.now now.hart (sym c.eq.ensures ∙ c.if-eq.true))
    (handed_in c.args.next c.in-Some-next.arrived old.register.image c.in-Some-next.is c.requires.next) (let budget = c.requires.budget in omega (arith, budget)) in
    moves_run g.S.EpochStore.makes g.S.EpochStore.view (standing old.register (g.S.EpochStore.waits old.store) c.args.core (option_copied c.args.next)) c.attempt-now.result a old.store c.run.new.self.store
    at.running.runs (ap option_copied c.in-Some-next.is) at.is_at.hart at.is_at.event c.run.ensures.takes.1
