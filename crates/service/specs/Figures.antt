-- Figures that are known from outside, over the definitions. Assumes nothing.
use Rattle.std.specs.Prelude.{◌≡◌, ℕ, List, [], ◌∷◌, replicate, Ok}
use Rattle.service.specs.Frames.{frame_of, blocks_for, frame_bytes}
use Rattle.service.specs.Objects.{objects_of, two}

-- the content of the sample card's service: one object, tag 5F20, format byte 01, data AB
abbrev pub sample_content : List ℕ
sample_content = 0x5F ∷ 0x20 ∷ 0x03 ∷ 0x01 ∷ 0x41 ∷ 0x42 ∷ []

-- its run
abbrev pub sample_run : List ℕ
sample_run = 0xE0 ∷ 0x06 ∷ 0x5F ∷ 0x20 ∷ 0x03 ∷ 0x01 ∷ 0x41 ∷ 0x42 ∷ 0xC0 ∷ 0x02 ∷ 0x51 ∷ 0x80 ∷ replicate 4 0

-- the figures
pub record Known : Type 0 where
  -- the empty service
  pub empty : frame_bytes 0xE0 [] ≡ 0xE0 ∷ 0x00 ∷ 0xC0 ∷ 0x02 ∷ 0x36 ∷ 0x3C ∷ replicate 10 0
  -- how many blocks a content of so many bytes takes
  pub ten : blocks_for 10 ≡ 1
  pub eleven : blocks_for 11 ≡ 2
  pub most : blocks_for 255 ≡ 17
  -- the sample run is read: outer tag E0, the content from offset 2 on, one object
  pub sample : frame_of sample_run ≡ Ok (record { tag = 0xE0; start = 2; content = sample_content; objects = 1 })
  pub objects : objects_of sample_content ≡ Ok (record { tag = two 0x5F20; format = 0x01; bytes = 0x41 ∷ 0x42 ∷ [] } ∷ [])
  -- and written again
  pub again : frame_bytes 0xE0 sample_content ≡ sample_run
