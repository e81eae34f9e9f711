-- What an image keeps beside what contracts see: its code, decoded once.
use Rattle.std.specs.Arc.{arc_slice_items}
use Rattle.rv32_image.specs.declared.image.Image.TheInside.{Inside}
use Rattle.rv32_image.specs.Decoded.{IsDecoded}
use Rattle.rv32_image.specs.Header.{loaded_image}
use Rattle.rv32_image.specs.Image.{LoadedImage, IsImage}

abbrev pub view_of : Inside → LoadedImage
view_of i = loaded_image i.header (arc_slice_items i.bytes)

pub record IsLoaded (i : Inside) : Type 0 where
  pub image : IsImage (view_of i)
  pub decoded : IsDecoded (arc_slice_items i.program) i.header.code (arc_slice_items i.bytes)
