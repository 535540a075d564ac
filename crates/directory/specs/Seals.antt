-- The seal of a directory: it begins with the 8-bit checksum of all bytes after it. Assumes nothing.
use Rattle.std.specs.Prelude.{ℕ, Bool, false, List, [], ◌∷◌, ◌==◌}
use Rattle.layout.specs.Crc.{crc8}

abbrev pub sealed : List ℕ → Bool
sealed [] = false
sealed (sum ∷ rest) = sum == crc8 rest

-- a directory given its seal
abbrev pub resealed : List ℕ → List ℕ
resealed [] = []
resealed (sum ∷ rest) = crc8 rest ∷ rest
