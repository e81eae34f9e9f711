use Rattle.std.proofs.Common.{refl}
use Rattle.conflict_text.proofs.words.kind_name.Goals as goal

pub returns-in-TrueSharing : goal.returns-in-TrueSharing
returns-in-TrueSharing c = rw c.in-TrueSharing.is refl

pub returns-in-SilentStore : goal.returns-in-SilentStore
returns-in-SilentStore c = rw c.in-SilentStore.is refl

pub returns-in-FalseSharing : goal.returns-in-FalseSharing
returns-in-FalseSharing c = rw c.in-FalseSharing.is refl

pub returns-in-FullBuffer : goal.returns-in-FullBuffer
returns-in-FullBuffer c = rw c.in-FullBuffer.is refl

pub returns-in-Unexplained : goal.returns-in-Unexplained
returns-in-Unexplained c = rw c.in-Unexplained.is refl
