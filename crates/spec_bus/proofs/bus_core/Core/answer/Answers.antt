use Rattle.std.proofs.Common.{◌≡◌, ℕ, ◌∙◌, slice_index, ap, refl}
use Rattle.std.proofs.Math.Path.{fun_ext}
use Rattle.cache_lines.specs.Protocol.{copy_at}
use Rattle.spec_states.specs.declared.next.Next.{Next}
use Rattle.bus_states.specs.Messages.{order, reply_to, bytes_after, changed_core}
use Rattle.bus_states.proofs.Heard.{merged-past}
use Rattle.bus_states.proofs.Replies.{reply-within}
use Rattle.spec_bus.specs.CoreStates.{state_of}
use Rattle.spec_bus.proofs.bus_core.Core.answer.Goals as goal

pub change-requires-clause-may : goal.change-requires-clause-may
change-requires-clause-may c =
    rw (c.answer-next.ensures.reply, c.line_at-line.ensures.state, c.line_at-line.ensures.marks)
    (record {
      mask = reply-within c.args.notice (copy_at c.args.self.now.cache c.args.addr).state (copy_at c.args.self.now.cache c.args.addr).marks (order c.args.later) c.args.self.now.cache.line_length c.line_at-line.ensures.in_place.mask;
      entry = c.requires.entry;
      room = c.requires.room;
    })

pub change-requires-clause-past : goal.change-requires-clause-past
change-requires-clause-past c x le =
    c.bytes_after-cells.ensures x
    ∙ merged-past c.args.notice c.answer-next.result.marks.bytes (slice_index c.line_at-line.result.now.cells) (slice_index c.args.sent.now) x
    (c.line_at-line.ensures.cells x ∙ c.line_at-line.ensures.in_place.cells x le) (c.requires.past x le)

pub returns : goal.returns
returns c =
    let reply : c.answer-next.result ≡ reply_to c.args.notice (copy_at c.args.self.now.cache c.args.addr).state (copy_at c.args.self.now.cache c.args.addr).marks (order c.args.later) =
    c.answer-next.ensures.reply ∙ rw (c.line_at-line.ensures.state, c.line_at-line.ensures.marks) refl in
    c.change.ensures
    ∙ ap (λ (cell : ℕ → ℕ). changed_core c.args.addr c.answer-next.result cell (state_of c.args.self.now))
    (fun_ext c.bytes_after-cells.ensures ∙ ap (λ (cell : ℕ → ℕ). bytes_after c.args.notice c.answer-next.result.marks.bytes cell (slice_index c.args.sent.now)) (fun_ext c.line_at-line.ensures.cells))
    ∙ ap (λ (next : Next). changed_core c.args.addr next (bytes_after c.args.notice next.marks.bytes (copy_at c.args.self.now.cache c.args.addr).cell (slice_index c.args.sent.now)) (state_of c.args.self.now)) reply
