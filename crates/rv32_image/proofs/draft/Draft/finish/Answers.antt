use Rattle.std.proofs.Common.{◌≤◌, length, sym, subst, arith}
use Rattle.rv32_image.specs.Machine.{IsMachineFor}
use Rattle.rv32_image.specs.Version.{IsSize}
use Rattle.rv32_image.proofs.Bounds.{version_machine}
use Rattle.rv32_image.proofs.draft.Draft.finish.Goals as goal

pub new-requires : goal.new-requires
new-requires c =
    let draft = c.self.invariant in
    let at = c.in-Some-Some-Some-Some in
    let code : at.code ≤ length c.self.inside.bytes.items = draft.code_most at.code at.is-1 in record {
      size_allowed = subst (λ v. IsSize v at.size) (sym c.unwrap_or-version.ensures) (draft.size_allowed at.size at.is-0);
      machine_allowed = subst (IsMachineFor at.size) (sym c.machine.ensures) (version_machine c.unwrap_or-version.result at.size (subst (λ v. IsSize v at.size) (sym c.unwrap_or-version.ensures) (draft.size_allowed at.size at.is-0)));
      size_least = draft.size_least at.size at.is-0;
      size_most = draft.size_most at.size at.is-0;
      size_lines = draft.size_lines at.size at.is-0;
      code_least = draft.code_least at.code at.is-1;
      code_most = omega (arith, code, draft.byte_count at.size at.is-0);
      code_words = draft.code_words at.code at.is-1;
      epochs_most = draft.epochs_most at.epochs at.is-2;
      limit_least = draft.limit_least at.limit at.is-3;
      limit_most = draft.limit_most at.limit at.is-3;
      register_count = draft.register_count;
      x0 = draft.x0;
      x1 = draft.x1;
      x10 = draft.x10;
      byte_count = draft.byte_count at.size at.is-0;
    }
