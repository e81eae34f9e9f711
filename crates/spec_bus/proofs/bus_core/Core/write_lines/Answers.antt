use Rattle.std.proofs.Common.{◌≡◌, ◌∙◌, ◌*◌, arith, cond, refl, ap, slice_index}
use Rattle.bus_states.specs.Bus.{line_of, offset_of, some_core}
use Rattle.cache_lines.specs.Protocol.{copy_at}
use Rattle.spec_bus.specs.CoreStates.{is_modified_in}
use Rattle.spec_bus.proofs.CommittedMemory.{written_none, written_more, some_modified}
use Rattle.spec_bus.proofs.bus_core.Core.write_lines.Goals as goal

pub loop-place-init : goal.loop-place-init
loop-place-init c = written_none c.args.self.now.cache (slice_index c.args.memory.now)

pub write_place-requires-clause-fits : goal.write_place-requires-clause-fits
write_place-requires-clause-fits c addr m = omega (arith, c.requires addr m)

pub loop-place-preserved : goal.loop-place-preserved
loop-place-preserved c =
    written_more c.args.self.now.cache c.loop-place.place (slice_index c.args.memory.now) (slice_index c.loop-place.memory) (slice_index c.write_place.new.memory)
    c.loop-place.invariant c.write_place.ensures

pub returns : goal.returns
returns c p =
    let n = c.args.self.now.cache.line_length in
    let cache = c.args.self.now.cache in
    let places : c.sets.result * c.ways.result ≡ cache.geometry.sets * cache.geometry.ways = rw (c.sets.ensures.value, c.ways.ensures.value) refl in
    let past = c.loop-place-test.false in
    let within = c.loop-place.auto.place-end in
    let all : c.loop-place.place ≡ cache.geometry.sets * cache.geometry.ways = omega (arith, places, past, within) in
    c.loop-place.invariant p
    ∙ ap (λ at. cond (some_core at (is_modified_in cache (line_of n p))) ((copy_at cache (line_of n p)).cell (offset_of n p)) (slice_index c.args.memory.now p)) all
    ∙ ap (λ b. cond b ((copy_at cache (line_of n p)).cell (offset_of n p)) (slice_index c.args.memory.now p)) (some_modified cache (line_of n p) c.sets.ensures.placed)
