-- An image from its header and its bytes.
use Rattle.std.specs.Prelude.{ℕ, List}
use Rattle.rv32_image.specs.declared.image.Header.{Header}
use Rattle.rv32_image.specs.Image.{LoadedImage}

abbrev pub loaded_image : Header → List ℕ → LoadedImage
loaded_image header bytes = record {
  version = header.version;
  machine = header.machine;
  exit = header.exit;
  size = header.size;
  code = header.code;
  epochs = header.epochs;
  limit = header.limit;
  registers = header.registers;
  bytes = bytes;
}
