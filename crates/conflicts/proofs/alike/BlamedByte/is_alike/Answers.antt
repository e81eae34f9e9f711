use Rattle.std.proofs.Common.{◌≡◌, ◌∙◌, ℕ, Option, true, sym, ap}
use Rattle.conflicts.specs.Blame.{blamed_store, goes_with, is_place, read_at}
use Rattle.conflicts.specs.Violated.{violation_in}
use Rattle.conflicts.proofs.Pairing.{by_last_store, by_one_store, is_there, through}
use Rattle.conflicts.proofs.alike.BlamedByte.is_alike.Goals as goal

pub returns : goal.returns
returns c =
    let v = violation_in c.args.self.now.scene.flat.now c.args.self.now.violated in
    let size = c.args.self.now.scene.flat.now.image.size in
    let pair = c.args.self.now in
    let goes : goes_with c.args.self.now.scene.flat.now.image v.kind v.bytes pair.byte c.args.addr ≡ true = sym c.goes_with.ensures ∙ c.if-not-goes_with.false in
    let reads : is_place (read_at c.args.self.now.scene.entries.now v c.args.addr) pair.load ≡ true =
    sym (ap (λ (o : Option ℕ). is_place o pair.load) (c.first_read-read.ensures size c.args.self.now.scene.known c.requires)) ∙ (sym c.is_at.ensures ∙ c.if-not-is_at.false) in
    c.is_at-2.ensures
    ∙ (ap (λ (o : Option ℕ). is_place o pair.store)
    (c.last_store-stored.ensures size c.args.self.now.scene.known c.requires
    ∙ sym (by_last_store c.args.self.now.scene.flat.now.image c.args.self.now.scene.entries.now v c.args.addr (sym c.has_one_store.ensures ∙ c.if-has_one_store.false)))
    ∙ through (goes_with c.args.self.now.scene.flat.now.image v.kind v.bytes pair.byte c.args.addr) (is_place (read_at c.args.self.now.scene.entries.now v c.args.addr) pair.load)
    (is_place (blamed_store c.args.self.now.scene.flat.now.image c.args.self.now.scene.entries.now v c.args.addr) pair.store) goes reads)

pub returns-then-has_one_store : goal.returns-then-has_one_store
returns-then-has_one_store c =
    let v = violation_in c.args.self.now.scene.flat.now c.args.self.now.violated in
    let size = c.args.self.now.scene.flat.now.image.size in
    let pair = c.args.self.now in
    let goes : goes_with c.args.self.now.scene.flat.now.image v.kind v.bytes pair.byte c.args.addr ≡ true = sym c.goes_with.ensures ∙ c.if-not-goes_with.false in
    let reads : is_place (read_at c.args.self.now.scene.entries.now v c.args.addr) pair.load ≡ true =
    sym (ap (λ (o : Option ℕ). is_place o pair.load) (c.first_read-read.ensures size c.args.self.now.scene.known c.requires)) ∙ (sym c.is_at.ensures ∙ c.if-not-is_at.false) in
    let stores : is_place (blamed_store c.args.self.now.scene.flat.now.image c.args.self.now.scene.entries.now v c.args.addr) pair.store ≡ true =
    ap (λ (o : Option ℕ). is_place o pair.store)
    (by_one_store c.args.self.now.scene.flat.now.image c.args.self.now.scene.entries.now v c.args.addr pair.byte (sym c.has_one_store.ensures ∙ c.if-has_one_store.true) goes ∙ c.args.self.now.stored)
    ∙ is_there pair.store in
    sym stores
    ∙ through (goes_with c.args.self.now.scene.flat.now.image v.kind v.bytes pair.byte c.args.addr) (is_place (read_at c.args.self.now.scene.entries.now v c.args.addr) pair.load)
    (is_place (blamed_store c.args.self.now.scene.flat.now.image c.args.self.now.scene.entries.now v c.args.addr) pair.store) goes reads
