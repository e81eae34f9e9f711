use Rattle.std.proofs.Common.{◌&&◌, ℕ, Bool, nat_le, nat_lt, slice_index, sym, ap, ◌∙◌, arith}
use Rattle.spec_history.specs.Conflict.{line_count, line_number}
use Rattle.conflicts.specs.Parties.{holds_other, meeting_in}
use Rattle.conflicts.proofs.Nearing.{held_line, nearer, next_of, no_nearer, none_tried}
use Rattle.conflicts.proofs.meeting.Parties.next_beside.Goals as goal
use Rattle.conflicts.proofs.meeting.Parties.next_beside.Goals.{then-is_nearer, else-is_nearer}

pub loop-addr-init : goal.loop-addr-init
loop-addr-init c = rw (c.lines_of-next.ensures.lines, c.image-image.ensures) (none_tried _ _ _ _)

pub loop-addr-preserved : goal.loop-addr-preserved
loop-addr-preserved c =
    let end = line_count c.args.flat.now.image in
    let lines : ℕ → ℕ = λ k. line_number c.args.flat.now.image (slice_index c.own_addresses-addr-items.result.now k) in
    let test : ℕ → Bool = holds_other c.args.flat.now.image (meeting_in c.args.flat.now c.args.self.now) c.args.line in
    let was = c.loop-addr.invariant in
    let here = ap (λ (o : ℕ). nat_le c.args.from o && (nat_lt o c.loop-addr.next && test o)) (rw c.image-image.ensures at c.line_number-other.ensures.line) in
    elim c.if-is_nearer.branch [
      | then-is_nearer w ↦ rw (w.next-is ∙ (rw c.image-image.ensures at c.line_number-other.ensures.line))
          (nearer lines test c.args.from end c.loop-addr.addr-index c.loop-addr.next was (sym here ∙ (sym c.is_nearer.ensures ∙ w.if-is_nearer.true)))
      | else-is_nearer w ↦ rw w.next-is
          (no_nearer lines test c.args.from end c.loop-addr.addr-index c.loop-addr.next was (sym here ∙ (sym c.is_nearer.ensures ∙ w.if-is_nearer.false)))
    ]

pub returns : goal.returns
returns c =
    let m = meeting_in c.args.flat.now c.args.self.now in
    let addresses = c.own_addresses-addr-items.result.now in
    next_of (λ k. line_number c.args.flat.now.image (slice_index addresses k)) (holds_other c.args.flat.now.image m c.args.line) c.args.from
    (line_count c.args.flat.now.image) c.loop-addr.addr-index c.loop-addr.next c.loop-addr.invariant
    (λ j passes.
    let at = held_line c.args.flat.now.image m addresses c.args.line j c.own_addresses-addr-items.ensures.each passes in
    (at.0, omega (arith, at.1, c.loop-addr-test.false), at.2))
