-- Addresses, as words of a command line write them.
-- Source: this project.
use Rattle.std.specs.Prelude.{ℕ, Bool, nat_le, ◌&&◌, ◌||◌, List, Option, None, if◌then◌else◌}
use Rattle.std.specs.Char.{is_ascii_digit}
use Rattle.std.specs.List.{list_all}
use Rattle.rv32_image.specs.ImageText.{word_in}
use Rattle.trace_text.specs.TraceText.{where_ok}

-- 0 to 9 or a to f
abbrev pub is_lower_digit : ℕ → Bool
is_lower_digit c = is_ascii_digit c || (nat_le 97 c && nat_le c 102)

-- the number that just eight hexadecimal digits write in lower case, the most significant first
unfoldable pub address_in : List ℕ → Option ℕ
address_in word = if list_all is_lower_digit word then where_ok (word_in word) else None
