use Rattle.std.proofs.Common.{ap, refl}
use Rattle.std.proofs.lemmas.Result.{on_ok_weaker}
use Rattle.spec_history.specs.declared.kind.Kind.{Kind}
use Rattle.spec_history.specs.declared.kind.Kind.TheVariants.{TrueSharing, SilentStore, FalseSharing, FullBuffer, Unexplained}
use Rattle.conflict_findings.specs.declared.part.Part.TheVariants.{OfKind}
use Rattle.conflict_findings.specs.Kinds.{of_kind}
use Rattle.conflict_findings.specs.Parts.{is_kind}
use Rattle.conflict_findings.proofs.Kinded.{kept_kind, more_kind}
use Rattle.conflict_findings.proofs.Pushing.{room_of}
use Rattle.conflict_findings.proofs.kinds.LinesByKind.add.Goals as goal

pub add_by-requires : goal.add_by-requires
add_by-requires c = (of_kind TrueSharing c.requires.0, c.requires.1.true_sharing_are, room_of (OfKind TrueSharing) c.requires.0 c.args.rollback.now.lost c.requires.2)

pub add_by-requires-in-SilentStore : goal.add_by-requires-in-SilentStore
add_by-requires-in-SilentStore c = (of_kind SilentStore c.requires.0, c.requires.1.silent_store_are, room_of (OfKind SilentStore) c.requires.0 c.args.rollback.now.lost c.requires.2)

pub add_by-requires-in-FalseSharing : goal.add_by-requires-in-FalseSharing
add_by-requires-in-FalseSharing c = (of_kind FalseSharing c.requires.0, c.requires.1.false_sharing_are, room_of (OfKind FalseSharing) c.requires.0 c.args.rollback.now.lost c.requires.2)

pub add_by-requires-in-FullBuffer : goal.add_by-requires-in-FullBuffer
add_by-requires-in-FullBuffer c = (of_kind FullBuffer c.requires.0, c.requires.1.full_buffer_are, room_of (OfKind FullBuffer) c.requires.0 c.args.rollback.now.lost c.requires.2)

pub returns-in-TrueSharing : goal.returns-in-TrueSharing
returns-in-TrueSharing c =
    on_ok_weaker c.add_by.result
    (λ added rs was. record {
      true_sharing_are = more_kind TrueSharing rs c.args.rollback.now (ap (λ (k : Kind). is_kind k TrueSharing) c.in-TrueSharing.is) c.add_by.new.sums (added (of_kind TrueSharing rs) was.true_sharing_are);
      silent_store_are = kept_kind SilentStore rs c.args.rollback.now TrueSharing c.in-TrueSharing.is refl c.args.self.now.silent_store was.silent_store_are;
      false_sharing_are = kept_kind FalseSharing rs c.args.rollback.now TrueSharing c.in-TrueSharing.is refl c.args.self.now.false_sharing was.false_sharing_are;
      full_buffer_are = kept_kind FullBuffer rs c.args.rollback.now TrueSharing c.in-TrueSharing.is refl c.args.self.now.full_buffer was.full_buffer_are;
    })
    c.add_by.ensures

pub returns-in-SilentStore : goal.returns-in-SilentStore
returns-in-SilentStore c =
    on_ok_weaker c.add_by-in-SilentStore.result
    (λ added rs was. record {
      true_sharing_are = kept_kind TrueSharing rs c.args.rollback.now SilentStore c.in-SilentStore.is refl c.args.self.now.true_sharing was.true_sharing_are;
      silent_store_are = more_kind SilentStore rs c.args.rollback.now (ap (λ (k : Kind). is_kind k SilentStore) c.in-SilentStore.is) c.add_by-in-SilentStore.new.sums (added (of_kind SilentStore rs) was.silent_store_are);
      false_sharing_are = kept_kind FalseSharing rs c.args.rollback.now SilentStore c.in-SilentStore.is refl c.args.self.now.false_sharing was.false_sharing_are;
      full_buffer_are = kept_kind FullBuffer rs c.args.rollback.now SilentStore c.in-SilentStore.is refl c.args.self.now.full_buffer was.full_buffer_are;
    })
    c.add_by-in-SilentStore.ensures

pub returns-in-FalseSharing : goal.returns-in-FalseSharing
returns-in-FalseSharing c =
    on_ok_weaker c.add_by-in-FalseSharing.result
    (λ added rs was. record {
      true_sharing_are = kept_kind TrueSharing rs c.args.rollback.now FalseSharing c.in-FalseSharing.is refl c.args.self.now.true_sharing was.true_sharing_are;
      silent_store_are = kept_kind SilentStore rs c.args.rollback.now FalseSharing c.in-FalseSharing.is refl c.args.self.now.silent_store was.silent_store_are;
      false_sharing_are = more_kind FalseSharing rs c.args.rollback.now (ap (λ (k : Kind). is_kind k FalseSharing) c.in-FalseSharing.is) c.add_by-in-FalseSharing.new.sums (added (of_kind FalseSharing rs) was.false_sharing_are);
      full_buffer_are = kept_kind FullBuffer rs c.args.rollback.now FalseSharing c.in-FalseSharing.is refl c.args.self.now.full_buffer was.full_buffer_are;
    })
    c.add_by-in-FalseSharing.ensures

pub returns-in-FullBuffer : goal.returns-in-FullBuffer
returns-in-FullBuffer c =
    on_ok_weaker c.add_by-in-FullBuffer.result
    (λ added rs was. record {
      true_sharing_are = kept_kind TrueSharing rs c.args.rollback.now FullBuffer c.in-FullBuffer.is refl c.args.self.now.true_sharing was.true_sharing_are;
      silent_store_are = kept_kind SilentStore rs c.args.rollback.now FullBuffer c.in-FullBuffer.is refl c.args.self.now.silent_store was.silent_store_are;
      false_sharing_are = kept_kind FalseSharing rs c.args.rollback.now FullBuffer c.in-FullBuffer.is refl c.args.self.now.false_sharing was.false_sharing_are;
      full_buffer_are = more_kind FullBuffer rs c.args.rollback.now (ap (λ (k : Kind). is_kind k FullBuffer) c.in-FullBuffer.is) c.add_by-in-FullBuffer.new.sums (added (of_kind FullBuffer rs) was.full_buffer_are);
    })
    c.add_by-in-FullBuffer.ensures

pub returns-in-Unexplained : goal.returns-in-Unexplained
returns-in-Unexplained c rs was = record {
  true_sharing_are = kept_kind TrueSharing rs c.args.rollback.now Unexplained c.in-Unexplained.is refl c.args.self.now.true_sharing was.true_sharing_are;
  silent_store_are = kept_kind SilentStore rs c.args.rollback.now Unexplained c.in-Unexplained.is refl c.args.self.now.silent_store was.silent_store_are;
  false_sharing_are = kept_kind FalseSharing rs c.args.rollback.now Unexplained c.in-Unexplained.is refl c.args.self.now.false_sharing was.false_sharing_are;
  full_buffer_are = kept_kind FullBuffer rs c.args.rollback.now Unexplained c.in-Unexplained.is refl c.args.self.now.full_buffer was.full_buffer_are;
}
