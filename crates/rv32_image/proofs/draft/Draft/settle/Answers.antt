use Rattle.std.proofs.Common.{◌∙◌, ap, sym}
use Rattle.rv32_image.specs.DraftView.{draft_of}
use Rattle.rv32_image.specs.ImageText.{version_in}
use Rattle.rv32_image.proofs.Settled.{settled_draft}
use Rattle.rv32_image.proofs.draft.Draft.settle.Goals as goal

pub invariant_of-self : goal.invariant_of-self
invariant_of-self c =
    settled_draft (draft_of c.self.inside) c.version.result (c.version.ensures ∙ sym (ap version_in c.self.view_is)) c.self.invariant
