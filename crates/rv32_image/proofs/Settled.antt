-- A draft whose version is settled.
use Rattle.std.proofs.Common.{◌≡◌, Some, sym, subst}
use Rattle.rv32_image.specs.declared.version.Version.{Version}
use Rattle.rv32_image.specs.Version.{IsSize}
use Rattle.rv32_image.specs.ImageText.{Draft, version_in}
use Rattle.rv32_image.specs.Drafts.{IsDraft}

pub settled_draft : (d : Draft) (version : Version) → version ≡ version_in d → IsDraft d → IsDraft (record d { version = Some version })
settled_draft d version is draft = record {
  size_settled = λ none. cc;
  size_allowed = λ n given. subst (λ v. IsSize v n) (sym is) (draft.size_allowed n given);
  size_least = draft.size_least;
  size_most = draft.size_most;
  size_lines = draft.size_lines;
  byte_count = draft.byte_count;
  memory_most = draft.memory_most;
  epochs_most = draft.epochs_most;
  limit_least = draft.limit_least;
  limit_most = draft.limit_most;
  code_least = draft.code_least;
  code_most = draft.code_most;
  code_words = draft.code_words;
  code_needs_size = draft.code_needs_size;
  register_count = draft.register_count;
  given_count = draft.given_count;
  x0 = draft.x0;
  x1 = draft.x1;
  x10 = draft.x10;
}
