-- Figures that are known from outside, over the definitions. Assumes nothing.
use Rattle.std.specs.Prelude.{◌≡◌, ℕ, true, false, List, [], ◌∷◌, Some, None, codes}
use Rattle.layout.specs.Blocks.{trailer, to_block}
use Rattle.layout.specs.Crc.{crc8, crc16}
use Rattle.layout.specs.Runs.{run_block}
use Rattle.layout.specs.declared.figures.Figures.{Figures}

-- a MAD without its checksum, from the public note on application directories
abbrev pub sample_mad : List ℕ
sample_mad =
    0x01 ∷ 0x01 ∷ 0x08 ∷ 0x01 ∷ 0x08 ∷ 0x01 ∷ 0x08 ∷ 0x00 ∷ 0x00 ∷ 0x00 ∷ 0x00 ∷ 0x00 ∷ 0x00 ∷ 0x04 ∷ 0x00 ∷ 0x03 ∷ 0x10 ∷ 0x03 ∷ 0x10 ∷ 0x02 ∷ 0x10 ∷ 0x02 ∷ 0x10 ∷ 0x00 ∷ 0x00 ∷ 0x00 ∷ 0x00 ∷ 0x00 ∷ 0x00 ∷ 0x11 ∷ 0x30 ∷ []

-- the figures, of the definitions
pub record Known : Type 0 where
  pub mad : crc8 sample_mad ≡ 0x89
  pub digits : crc16 (codes "123456789") ≡ 0x29B1
  pub first : run_block 0x0E 2 0 ≡ Some 0x0E
  pub second : run_block 0x0E 2 1 ≡ Some 0x10
  pub ended : run_block 0x0E 2 2 ≡ None
  pub small : trailer 127 ≡ true
  pub between : trailer 128 ≡ false
  pub large : trailer 143 ≡ true
  pub last : trailer 255 ≡ true

-- the same figures, as the code answers them
abbrev pub answered : Figures
answered = record {
  mad = 0x89;
  digits = 0x29B1;
  run = Some (to_block 0x0E) ∷ Some (to_block 0x10) ∷ None ∷ [];
  trailers = true ∷ false ∷ true ∷ true ∷ [];
}
