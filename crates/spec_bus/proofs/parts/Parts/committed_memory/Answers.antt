use Rattle.std.proofs.Common.{◌≡◌, ◌∙◌, ◌<◌, ℕ, List, cond, length, sym, ap, subst, slice_index, arith, rules}
use Rattle.std.proofs.lemmas.List.{with_items_is}
use Rattle.spec_states.specs.States.{is_modified}
use Rattle.bus_states.specs.Bus.{CoreState, line_of, offset_of, memory_line, committed_among}
use Rattle.spec_bus.specs.Parts.{bus_in}
use Rattle.spec_bus.proofs.CommittedMemory.{CommittedBelow, committed_start, committed_core, fits_memory}
use Rattle.spec_bus.proofs.parts.Parts.committed_memory.Goals as goal

pub loop-k-init : goal.loop-k-init
loop-k-init c =
    let bus = bus_in c.args.self.now in
    let copied : c.in_ok-memory.memory.items ≡ c.args.self.now.memory.items = search rules in (
      ap (λ (memory : List ℕ). length memory) copied,
      subst (λ (memory : List ℕ). CommittedBelow 0 (λ a j. (bus.core j).copy a) bus.line_length bus.memory (slice_index memory)) (sym copied)
          (committed_start (λ a j. (bus.core j).copy a) bus.line_length bus.memory c.requires.length_is),
    )

pub write_lines-requires : goal.write_lines-requires
write_lines-requires c =
    let there : c.loop-k.k < length c.args.self.now.cores.items = let below = c.loop-k-test.true in let count = c.len-k-end.ensures in omega (arith, below, count) in
    rw c.as_mut_slice.ensures.value
    (fits_memory (bus_in c.args.self.now) c.loop-k.k (length c.loop-k.memory.items) c.core.result.now c.requires there c.core.ensures.state c.loop-k.invariant.0)

pub loop-k-preserved : goal.loop-k-preserved
loop-k-preserved c =
    let bus = bus_in c.args.self.now in
    let k = c.loop-k.k in
    let old = slice_index c.loop-k.memory.items in
    let size : length c.write_lines.new.memory ≡ length c.loop-k.memory.items = omega arith in
    let items = with_items_is c.loop-k.memory c.write_lines.new.memory (omega arith) in (
      ap (λ xs. length xs) items ∙ size ∙ c.loop-k.invariant.0,
      committed_core k (λ a j. (bus.core j).copy a) bus.line_length bus.memory old _ c.loop-k.invariant.1
          (λ p. ap (λ xs. slice_index xs p) items
          ∙ (rw c.as_mut_slice.ensures.value at (c.write_lines.ensures p))
          ∙ ap (λ (s : CoreState). cond (is_modified (s.copy (line_of s.line_length p)).state) ((s.copy (line_of s.line_length p)).cell (offset_of s.line_length p)) (old p)) c.core.ensures.state
          ∙ ap (λ (n : ℕ). cond (is_modified ((bus.core k).copy (line_of n p)).state) (((bus.core k).copy (line_of n p)).cell (offset_of n p)) (old p)) (c.requires.lengths k (let below = c.loop-k-test.true in let count = c.len-k-end.ensures in omega (arith, below, count)))),
    )

pub returns : goal.returns
returns c =
    let bus = bus_in c.args.self.now in
    let past = c.loop-k-test.false in
    let within = c.loop-k.auto.k-end in
    let count = c.len-k-end.ensures in
    let all : c.loop-k.k ≡ length c.args.self.now.cores.items = omega (arith, past, within, count) in record {
      long = c.loop-k.invariant.0;
      byte = λ a below. c.loop-k.invariant.1 a
          ∙ ap (λ (n : ℕ). committed_among n (λ k. (bus.core k).copy (line_of bus.line_length a)) (memory_line bus.line_length bus.memory (line_of bus.line_length a)) (offset_of bus.line_length a)) all;
    }
