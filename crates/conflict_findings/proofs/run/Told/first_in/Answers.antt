use Rattle.std.proofs.Common.{◌≡◌, ◌+◌, ◌≤◌, ◌∙◌, ℕ, Option, sym, ap, subst, inl, inr, arith}
use Rattle.conflict_findings.specs.Runs.{earlier, read_in}
use Rattle.conflict_findings.proofs.Loading.{IsEarliest, earliest_more, elsewhere, none_so, some_so, to_end}
use Rattle.conflict_findings.proofs.run.Told.first_in.Goals as goal

pub loop-addr-init : goal.loop-addr-init
loop-addr-init c = λ a below.
    let within = (rw c.image.ensures at c.line_bytes-bytes.ensures.within) in
    elsewhere c.args.self.now.scene.flat.now.image c.args.self.now.scene.entries.now c.args.self.now.violated.parties.victim c.args.self.now.violated.place c.args.line a _ _ (rw c.image.ensures at c.line_bytes-bytes.ensures.all) (omega (arith, below, within)) (inl below)

pub loop-addr-preserved : goal.loop-addr-preserved
loop-addr-preserved c =
    let reads : ℕ → Option ℕ = read_in c.args.self.now.scene.flat.now.image c.args.self.now.scene.entries.now c.args.self.now.violated.parties.victim c.args.self.now.violated.place c.args.line in
    let addr = c.loop-addr.addr in
    let is : c.earlier-first.result ≡ earlier c.loop-addr.first (reads addr) addr =
    c.earlier-first.ensures ∙ ap (λ (o : Option ℕ). earlier c.loop-addr.first o addr) c.read_in-load.ensures in
    subst (IsEarliest reads (addr + 1)) (sym is) (earliest_more reads addr c.loop-addr.first c.loop-addr.invariant)

pub returns-clause-none : goal.returns-clause-none
returns-clause-none c =
    let bytes = c.line_bytes-bytes.result in
    let most : c.loop-addr.addr ≤ c.args.self.now.scene.flat.now.image.size = omega (arith, (rw c.image.ensures at c.line_bytes-bytes.ensures.within), c.loop-addr.auto.addr-end) in
    none_so c.args.self.now.scene.flat.now.image c.args.self.now.scene.entries.now c.args.self.now.violated.parties.victim c.args.self.now.violated.place c.args.line c.loop-addr.first
    (to_end (read_in c.args.self.now.scene.flat.now.image c.args.self.now.scene.entries.now c.args.self.now.violated.parties.victim c.args.self.now.violated.place c.args.line) c.loop-addr.addr c.args.self.now.scene.flat.now.image.size c.loop-addr.first most
    (λ a past inside. elsewhere c.args.self.now.scene.flat.now.image c.args.self.now.scene.entries.now c.args.self.now.violated.parties.victim c.args.self.now.violated.place c.args.line a bytes.first (bytes.first + bytes.length)
    (rw c.image.ensures at c.line_bytes-bytes.ensures.all) inside (inr (omega (arith, past, c.loop-addr-test.false)))) c.loop-addr.invariant)

pub returns-clause-some : goal.returns-clause-some
returns-clause-some c =
    let bytes = c.line_bytes-bytes.result in
    let most : c.loop-addr.addr ≤ c.args.self.now.scene.flat.now.image.size = omega (arith, (rw c.image.ensures at c.line_bytes-bytes.ensures.within), c.loop-addr.auto.addr-end) in
    some_so c.args.self.now.scene.flat.now.image c.args.self.now.scene.entries.now c.args.self.now.violated.parties.victim c.args.self.now.violated.place c.args.line c.loop-addr.first
    (to_end (read_in c.args.self.now.scene.flat.now.image c.args.self.now.scene.entries.now c.args.self.now.violated.parties.victim c.args.self.now.violated.place c.args.line) c.loop-addr.addr c.args.self.now.scene.flat.now.image.size c.loop-addr.first most
    (λ a past inside. elsewhere c.args.self.now.scene.flat.now.image c.args.self.now.scene.entries.now c.args.self.now.violated.parties.victim c.args.self.now.violated.place c.args.line a bytes.first (bytes.first + bytes.length)
    (rw c.image.ensures at c.line_bytes-bytes.ensures.all) inside (inr (omega (arith, past, c.loop-addr-test.false)))) c.loop-addr.invariant)
