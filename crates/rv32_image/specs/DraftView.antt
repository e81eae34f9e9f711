-- A draft, as contracts see it.
use Rattle.rv32_image.specs.declared.draft.Draft.TheInside.{Inside}
use Rattle.rv32_image.specs.ImageText.{Draft}
use Rattle.rv32_image.specs.Drafts.{IsDraft}

abbrev pub draft_of : Inside → Draft
draft_of i = record {
  version = i.version;
  exit = i.exit;
  size = i.size;
  epochs = i.epochs;
  limit = i.limit;
  code = i.code;
  registers = i.registers;
  given = i.given;
  bytes = i.bytes.items;
}

abbrev pub IsSound : Inside → Type 0
IsSound i = IsDraft (draft_of i)
