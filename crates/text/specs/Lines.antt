-- Lines of a record. Assumes nothing.
use Rattle.std.specs.Prelude.{ℕ, ◌/◌, ◌%◌, List, ◌++◌, codes, decimal}
use Rattle.directory.specs.declared.entries.Slot.{Slot}
use Rattle.text.specs.Hex.{hex_byte}

-- `profile A`
abbrev pub profile_line : List ℕ → List ℕ
profile_line letter = codes "profile " ++ (letter ++ codes "\n")

-- `refused 4`, in decimal
abbrev pub refused_line : ℕ → List ℕ
refused_line n = codes "refused " ++ (decimal n ++ codes "\n")

-- `free 38`, in decimal
abbrev pub free_line : ℕ → List ℕ
free_line n = codes "free " ++ (decimal n ++ codes "\n")

-- `1234 0C 01`: a slot's number, start and length
unfoldable pub slot_words : Slot → List ℕ
slot_words s =
    hex_byte (s.number / 256) ++ (hex_byte (s.number % 256) ++ (codes " " ++ (hex_byte s.run.start.0 ++ (codes " " ++ hex_byte s.run.length))))
