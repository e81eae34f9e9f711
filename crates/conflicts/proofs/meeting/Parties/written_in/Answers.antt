use Rattle.std.proofs.Common.{◌≡◌, ◌<◌, ◌≤◌, ◌+◌, ◌==◌, ◌&&◌, ℕ, Bool, false, is_some, nat_lt, inl, inr, sym, ◌∙◌, arith, ltb-true, ltb-false}
use Rattle.spec_history.specs.Conflict.{line_number}
use Rattle.spec_history.proofs.Searches.Tests.{first_at, first_none}
use Rattle.conflicts.specs.Parties.{meeting_in}
use Rattle.conflicts.proofs.Blaming.{either_way}
use Rattle.conflicts.proofs.LineBytes.{not_there}
use Rattle.conflicts.proofs.meeting.Parties.written_in.Goals as goal

pub loop-addr-init : goal.loop-addr-init
loop-addr-init c = λ a below.
    let bytes = c.line_bytes-bytes.result in
    not_there c.args.flat.now.image c.args.line a bytes.first (bytes.first + bytes.length) (λ a. is_some ((meeting_in c.args.flat.now c.args.self.now).writes a))
    (rw c.image.ensures at c.line_bytes-bytes.ensures.all) (omega (arith, below, (rw c.image.ensures at c.line_bytes-bytes.ensures.within))) (inl below)

pub returns-then-is_of_line : goal.returns-then-is_of_line
returns-then-is_of_line c =
    let image = c.args.flat.now.image in
    let test : ℕ → Bool = λ a. (line_number image a == c.args.line) && is_some ((meeting_in c.args.flat.now c.args.self.now).writes a) in
    let below : c.loop-addr.addr < image.size = omega (arith, c.loop-addr-test.true, (rw c.image.ensures at c.line_bytes-bytes.ensures.within)) in
    sym (first_at image.size test c.loop-addr.addr below (sym c.is_of_line.ensures ∙ c.if-is_of_line.true) c.loop-addr.invariant)

pub returns : goal.returns
returns c =
    let image = c.args.flat.now.image in
    let bytes = c.line_bytes-bytes.result in
    let test : ℕ → Bool = λ a. (line_number image a == c.args.line) && is_some ((meeting_in c.args.flat.now c.args.self.now).writes a) in
    sym (first_none image.size test (λ a inside. either_way (nat_lt a c.loop-addr.addr) (test a ≡ false)
    (λ early. c.loop-addr.invariant a (ltb-true a c.loop-addr.addr early))
    (λ late.
    let past : c.loop-addr.addr ≤ a = ltb-false a c.loop-addr.addr late in
    not_there image c.args.line a bytes.first (bytes.first + bytes.length) (λ a. is_some ((meeting_in c.args.flat.now c.args.self.now).writes a))
    (rw c.image.ensures at c.line_bytes-bytes.ensures.all) inside (inr (omega (arith, past, c.loop-addr-test.false))))))
