use Rattle.std.proofs.Common.{◌≡◌, ◌∙◌, ℕ, ◌*◌, ◌/◌, ◌%◌, cond, ap, slice_index}
use Rattle.spec_states.specs.States.{is_modified}
use Rattle.cache_lines.specs.declared.line.Line.{Line}
use Rattle.cache_lines.specs.Lines.{line_in}
use Rattle.bus_states.specs.Messages.{with_line}
use Rattle.spec_bus.specs.CoreStates.{line_in_place}
use Rattle.spec_bus.proofs.CommittedMemory.{place_written}
use Rattle.spec_bus.proofs.bus_core.Core.write_place.Goals as goal

pub returns : goal.returns
returns c p =
    let cache = c.args.self.now.cache in
    let at = c.args.place in
    let old = slice_index c.args.memory.now in
    let length = c.line_length-line_length.result in
    let line : c.line-line.result.now ≡ line_in_place cache at =
    c.line-line.ensures.value
    ∙ (ap (λ n. line_in cache (at / n * length) (at % n)) c.ways-ways.ensures.value
    ∙ ap (λ n. line_in cache (at / cache.geometry.ways * n) (at % cache.geometry.ways)) c.line_length-line_length.ensures.value) in
    place_written cache at old (slice_index c.write_back.new.memory p) p c.line-line.ensures.placed
    (ap (λ (byte : ℕ → ℕ). byte p) c.write_back.ensures
    ∙ ap (λ (line : Line). cond (is_modified line.state) (with_line length line.addr (slice_index line.cells) old) old p) line
    ∙ ap (λ (n : ℕ). cond (is_modified (line_in_place cache at).state)
    (with_line n (line_in_place cache at).addr (slice_index (line_in_place cache at).cells) old) old p) c.line_length-line_length.ensures.value)
