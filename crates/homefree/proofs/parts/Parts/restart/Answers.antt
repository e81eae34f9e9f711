use Rattle.std.proofs.Common.{option_copied, refl}
use Rattle.homefree.proofs.Cases.Acting.{restarted, may_restart}
use Rattle.homefree.proofs.parts.Parts.restart.Goals as goal

pub begin-requires-clause-may : goal.begin-requires-clause-may
begin-requires-clause-may g c =
    let old = c.args.self.now in
    may_restart old.register (g.S.EpochStore.view old.store) c.args.core c.args.now.now c.requires.may.fits c.requires.may.going c.requires.may.there c.requires.may.runs c.requires.hurt

pub returns : goal.returns
returns g c =
    let old = c.args.self.now in (
      rw c.restart.ensures.hart (restarted old.register c.restart.new.self (g.S.EpochStore.view old.store) (g.S.EpochStore.view c.begin.new.self) c.args.shares.now c.restart.new.shares c.args.core (option_copied c.args.next) c.args.now.now
          c.requires.may.fits c.look.ensures c.requires.may.going c.requires.may.there c.requires.may.runs c.requires.hurt c.begin.ensures.begins c.restart.ensures.steps),
      (c.begin.new.self, c.begin.ensures.makes, refl),
    )
