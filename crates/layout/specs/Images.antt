-- A card image: 4,096 bytes, 256 blocks of sixteen, block 0 first. Assumes nothing.
use Rattle.std.specs.Prelude.{ℕ, cond, List, length, Ok, Result, ◌==◌}
use Rattle.layout.specs.Refusals.{refuse}
use Rattle.layout.specs.declared.refusals.Reason.TheVariants.{ImageSize}
use Rattle.layout.specs.declared.refusals.Refusal.{Refusal}

-- the image that the bytes of a file are: themselves, if they are 4,096
abbrev pub image_of : List ℕ → Result (List ℕ) Refusal
image_of bytes = cond (length bytes == 4096) (Ok bytes) (refuse ImageSize 0)
