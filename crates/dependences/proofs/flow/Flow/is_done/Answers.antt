use Rattle.std.proofs.Common.{◌≡◌, ◌-◌, Some, refl, sym, subst, arith}
use Rattle.dependences.specs.declared.last_stores.LastStore.{LastStore}
use Rattle.dependences.specs.Kept.{nearer}
use Rattle.dependences.specs.KeptLast.{AreLast, dependence_by}
use Rattle.dependences.proofs.Nearing.{far_from, still_of}
use Rattle.dependences.proofs.WholeWords.{kept_some, some_of_whole, whole_of}
use Rattle.dependences.proofs.flow.Flow.is_done.Goals as goal

pub returns-then-is_before-clause-kept : goal.returns-then-is_before-clause-kept
returns-then-is_before-clause-kept g c told done =
    let self = c.args.self.now in
    let by = c.kept_at-by.result in
    let before = c.is_before.ensures.is c.if-is_before.true in
    let last = subst (AreLast self.stores c.args.addr c.args.width) (whole_of by self.epoch before c.note.ensures.short) c.kept_at-by.ensures in
    let one : LastStore = record { byte = c.args.addr; by = by } in
    let x = dependence_by one self.epoch c.args.pc done in
    let found = c.requires.found in
    let apart : c.note.result - by.writer ≡ x.later - x.earlier = omega (arith, before.0, before.1, c.note.ensures.note) in
    let far = far_from found.0 self.nearest (c.note.result - by.writer) found.2 (c.counts.ensures.near told found.0 found.1) in
    let nearest = subst (λ d. self.nearest ≡ nearer self.nearest (Some d)) apart (sym far) in
    kept_some g.F.Found.keeps self _ c.args.pc done c.args.addr c.args.width one c.requires.room refl refl
    (some_of_whole self.stores self.epoch c.args.addr c.args.width by last before)
    (last.1 c.args.addr (omega arith) (omega (arith, last.0)))
    (subst (λ d. self.nearest ≡ nearer self.nearest (Some d)) (rw c.note.ensures.note refl) (sym far))
    (λ list keeps. c.counts.ensures.kept told list keeps x (record { stored = refl; loaded = refl; far = sym apart; by = refl }))
    (λ list near. still_of list x self.nearest self.later (sym nearest) near)

pub returns-then-is_before-clause-same : goal.returns-then-is_before-clause-same
returns-then-is_before-clause-same g c told = record { epoch = refl; stores = refl; nearest = refl; later = refl; room = refl; found = c.counts.ensures.same told }
