use Rattle.std.proofs.Common.{◌≡◌, false, refl}
use Rattle.spec_history.specs.declared.kind.Kind.{Kind}
use Rattle.spec_history.specs.declared.kind.Kind.TheVariants.{TrueSharing, SilentStore, FalseSharing, FullBuffer, Unexplained}
use Rattle.gain.specs.Kinds.{is_kind}
use Rattle.gain.proofs.kinds.is_kind.Goals as goal

another : (kind other : Kind) → (other ≡ kind → ⊥) → false ≡ is_kind kind other
another TrueSharing TrueSharing isnt = absurd (isnt refl)
another SilentStore SilentStore isnt = absurd (isnt refl)
another FalseSharing FalseSharing isnt = absurd (isnt refl)
another FullBuffer FullBuffer isnt = absurd (isnt refl)
another Unexplained Unexplained isnt = absurd (isnt refl)
another kind other isnt = refl

pub returns-in-TrueSharing-matches : goal.returns-in-TrueSharing-matches
returns-in-TrueSharing-matches c = rw (c.in-TrueSharing.is, c.in-TrueSharing-matches.is) refl

pub returns-in_default : goal.returns-in_default
returns-in_default c = rw c.in-TrueSharing.is (another TrueSharing c.args.other c.in_default.not-TrueSharing)

pub returns-in-SilentStore-matches : goal.returns-in-SilentStore-matches
returns-in-SilentStore-matches c = rw (c.in-SilentStore.is, c.in-SilentStore-matches.is) refl

pub returns-in_default-matches : goal.returns-in_default-matches
returns-in_default-matches c = rw c.in-SilentStore.is (another SilentStore c.args.other c.in_default-matches.not-SilentStore)

pub returns-in-FalseSharing-matches : goal.returns-in-FalseSharing-matches
returns-in-FalseSharing-matches c = rw (c.in-FalseSharing.is, c.in-FalseSharing-matches.is) refl

pub returns-in_default-matches-2 : goal.returns-in_default-matches-2
returns-in_default-matches-2 c = rw c.in-FalseSharing.is (another FalseSharing c.args.other c.in_default-matches-2.not-FalseSharing)

pub returns-in-FullBuffer-matches : goal.returns-in-FullBuffer-matches
returns-in-FullBuffer-matches c = rw (c.in-FullBuffer.is, c.in-FullBuffer-matches.is) refl

pub returns-in_default-matches-3 : goal.returns-in_default-matches-3
returns-in_default-matches-3 c = rw c.in-FullBuffer.is (another FullBuffer c.args.other c.in_default-matches-3.not-FullBuffer)

pub returns-in-Unexplained-matches : goal.returns-in-Unexplained-matches
returns-in-Unexplained-matches c = rw (c.in-Unexplained.is, c.in-Unexplained-matches.is) refl

pub returns-in_default-matches-4 : goal.returns-in_default-matches-4
returns-in_default-matches-4 c = rw c.in-Unexplained.is (another Unexplained c.args.other c.in_default-matches-4.not-Unexplained)
