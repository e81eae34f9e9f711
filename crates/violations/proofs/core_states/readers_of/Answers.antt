use Rattle.std.proofs.Common.{refl, arith}
use Rattle.memory_bytes.specs.Shadow.{byte_in}
use Rattle.rv32_image.proofs.SmallFacts.{value_of}
use Rattle.violations.specs.CoreSet.{is_in}
use Rattle.violations.specs.CoreState.{bytes_in}
use Rattle.violations.proofs.Changing.{state_there, reading_insert, reading_on, reading_end}
use Rattle.violations.proofs.core_states.readers_of.Goals as goal
use Rattle.violations.proofs.core_states.readers_of.Goals.{then-k-core+then-guards_any, else-k-core, else-k-core-via-then-k-core+else-guards_any, else-k-core-via-else-k-core}

pub loop-k-preserved : goal.loop-k-preserved
loop-k-preserved c =
    let states = c.args.states.now in
    let state = c.index-states-k.result in
    let there = state_there states states c.loop-k.k state refl c.loop-k-test.true c.index-states-k.is in
    elim c.if-k-core.branch [
      | then-k-core+then-guards_any w ↦
          rw w.hurt-is (reading_insert c.args.core (bytes_in c.args.bytes.now.cells) states (is_in c.loop-k.hurt) (is_in w.insert.new.self) c.loop-k.k state there w.if-k-core.true
          (w.guards_any.ensures.found w.if-guards_any.true) w.insert.ensures c.loop-k.invariant)
      | else-k-core w ↦ rw w.hurt-is (elim w.else-k-core.branch [
        | else-k-core-via-then-k-core+else-guards_any w' ↦ reading_on c.args.core (bytes_in c.args.bytes.now.cells) states (is_in c.loop-k.hurt) c.loop-k.k state there
            (λ other runs a byte. let some = value_of (byte_in c.args.bytes.now.cells a) byte in w'.guards_any.ensures.spared w'.if-guards_any.false runs a some.0 some.1) c.loop-k.invariant
        | else-k-core-via-else-k-core w' ↦ reading_on c.args.core (bytes_in c.args.bytes.now.cells) states (is_in c.loop-k.hurt) c.loop-k.k state there
            (λ other runs a byte. absurd (other w'.if-k-core.false)) c.loop-k.invariant
      ])
    ]

pub returns : goal.returns
returns c = reading_end c.args.core (bytes_in c.args.bytes.now.cells) c.args.states.now (is_in c.loop-k.hurt) c.loop-k.k (omega (arith, c.loop-k-test.false)) c.loop-k.invariant
