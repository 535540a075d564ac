-- All figures that are known from outside, over the definitions. Assumes nothing.
use Rattle.std.specs.Prelude.{◌≡◌, Ok}
use Rattle.layout.specs.Blocks.{to_block}
use Rattle.layout.specs.Figures.{Known as KnownMemory}
use Rattle.layout.specs.declared.profiles.Profile.TheVariants.{A}
use Rattle.directory.specs.Figures.{sample_card, Known as KnownDirectories}
use Rattle.service.specs.Figures.{Known as KnownData}
use Rattle.station.specs.Finds.{find_look}
use Rattle.station.specs.Reads.{read_look}

pub record Together : Type 0 where
  -- the checksums, a run, trailers
  pub memory : KnownMemory
  -- an empty services directory, the service blocks of each profile, the sample card's directories
  pub directories : KnownDirectories
  -- the empty service, block counts, the sample card's data
  pub content : KnownData
  -- the sample card's service is found, and read into a buffer of one block
  pub found : (find_look A 0x1234 sample_card).answer ≡ Ok (record { slot = 1; run = record { start = to_block 0x0C; length = 1 } })
  pub read : (read_look A 0x1234 16 sample_card).answer ≡ Ok (record { tag = 0xE0; start = 2; length = 6; objects = 1 })
