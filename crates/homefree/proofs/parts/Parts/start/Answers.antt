use Rattle.std.proofs.Common.{◌≡◌, ◌≤◌, ◌<◌, true, false, option_copied, nat_lt, refl, arith}
use Rattle.std.proofs.lemmas.Bool.Decides.{nat_tests}
use Rattle.homefree.proofs.Cases.Acting.{found_none, started, may_start}
use Rattle.homefree.proofs.parts.Parts.start.Goals as goal

pub returns-then-epoch-epochs : goal.returns-then-epoch-epochs
returns-then-epoch-epochs g c =
    let old = c.args.self.now in
    let past : old.register.image.epochs ≤ old.register.next_epoch = rw (← c.epochs.ensures.epochs) c.if-epoch-epochs.true in (
      found_none old.register (g.S.EpochStore.view old.store) c.args.shares.now c.args.core (option_copied c.args.next) c.requires.may.fits c.requires.may.runs past,
      (let over : nat_lt old.register.next_epoch old.register.image.epochs ≡ false = grind (arith, nat_tests, past) in rw over refl),
    )

pub begin-requires-clause-may : goal.begin-requires-clause-may
begin-requires-clause-may g c =
    let old = c.args.self.now in
    may_start old.register (g.S.EpochStore.view old.store) c.args.core c.requires.may.fits c.requires.may.going c.requires.may.there c.requires.may.runs

pub returns : goal.returns
returns g c =
    let old = c.args.self.now in
    let more = c.if-epoch-epochs.false in
    let epochs = c.epochs.ensures.epochs in
    let left : old.register.next_epoch < old.register.image.epochs = omega (arith, more, epochs) in (
      rw c.start.ensures.hart (started old.register c.start.new.self (g.S.EpochStore.view old.store) (g.S.EpochStore.view c.begin.new.self) c.args.shares.now c.args.shares.now c.args.core (option_copied c.args.next)
          c.requires.may.fits c.look.ensures c.requires.may.going c.requires.may.there c.requires.may.runs left c.begin.ensures.begins (c.start.ensures.steps c.args.shares.now)),
      (let some : nat_lt old.register.next_epoch old.register.image.epochs ≡ true = grind (arith, nat_tests, left) in rw some (c.begin.new.self, c.begin.ensures.makes, refl)),
    )
