-- Bytes in hexadecimal. Assumes nothing.
use Rattle.std.specs.Prelude.{ℕ, ◌/◌, ◌%◌, true, List, [], ◌∷◌}
use Rattle.std.specs.Fmt.{digit_glyph}
use Rattle.std.specs.List.{flat_map}

-- a digit of a hexadecimal number, in capitals
abbrev pub hex_digit : ℕ → ℕ
hex_digit = digit_glyph true

-- a byte as two of them
abbrev pub hex_byte : ℕ → List ℕ
hex_byte b = hex_digit (b / 16) ∷ hex_digit (b % 16) ∷ []

-- bytes one after another
abbrev pub hex_bytes : List ℕ → List ℕ
hex_bytes = flat_map hex_byte
