-- Figures that are known from outside, over the definitions. Assumes nothing.
use Rattle.std.specs.Prelude.{◌≡◌, ℕ, zero, suc, cond, List, [], ◌∷◌, ◌++◌, replicate, Some, ◌==◌}
use Rattle.std.specs.Option.{option_map}
use Rattle.std.specs.Result.{result_ok}
use Rattle.layout.specs.Blocks.{to_block, to_sector}
use Rattle.layout.specs.Crc.{crc8}
use Rattle.layout.specs.declared.profiles.Profile.{Profile}
use Rattle.layout.specs.declared.profiles.Profile.TheVariants.{A, B, C, D, E}
use Rattle.card.specs.Blocks.{Blocks}
use Rattle.directory.specs.Checks.{reads, verdict}
use Rattle.directory.specs.Entries.{slot_at}
use Rattle.directory.specs.Searches.{count_of}
use Rattle.directory.specs.Slots.{service_block, free_blocks}
use Rattle.directory.specs.declared.accepted.Directory.{Directory}
use Rattle.directory.specs.declared.entries.Slot.{Slot}

-- so many sectors for services, as an application directory lists them
abbrev for_services : ℕ → List ℕ
for_services zero = []
for_services (suc n) = 0x12 ∷ 0x40 ∷ for_services n

-- a card whose first listed sector is the NSCP's, whose only item puts the services directory into the second, and whose other listed sectors are for services
abbrev pub only_services : Profile → ℕ → ℕ → Directory
only_services p first at = record {
  applications = record { profile = p; bytes = 0 ∷ 0 ∷ 0x11 ∷ 0x40 ∷ for_services 22 };
  nscp = record { sector = to_sector first; bytes = 0 ∷ 0 ∷ 0xCF ∷ at ∷ replicate 44 0 };
  services = record { block = to_block at; bytes = replicate 48 0 };
}

abbrev service_blocks : Directory → ℕ
service_blocks d = count_of (service_block d) 256

-- the sample card of profile A: one service, 1234, in block 0C
abbrev pub sample_card : Blocks
sample_card b =
    cond (b == 1) (0x8F ∷ 0x00 ∷ 0x11 ∷ 0x40 ∷ for_services 6)
    (cond (b == 2) (for_services 8)
    (cond (b == 3) (replicate 9 0 ++ 0xC1 ∷ replicate 6 0)
    (cond (b == 4) (0xCB ∷ 0x00 ∷ 0xCF ∷ 0x08 ∷ replicate 12 0)
    (cond (b == 8) (0x09 ∷ 0x00 ∷ 0x00 ∷ 0x00 ∷ 0x12 ∷ 0x34 ∷ 0x0C ∷ 0x01 ∷ replicate 8 0)
    (cond (b == 12) (0xE0 ∷ 0x06 ∷ 0x5F ∷ 0x20 ∷ 0x03 ∷ 0x01 ∷ 0x41 ∷ 0x42 ∷ 0xC0 ∷ 0x02 ∷ 0x51 ∷ 0x80 ∷ replicate 4 0) (replicate 16 0))))))

abbrev pub sample_slot : Slot
sample_slot = record { number = 0x1234; run = record { start = to_block 0x0C; length = 1 } }

-- the figures
pub record Known : Type 0 where
  -- the checksum of an empty services directory
  pub empty : crc8 (replicate 47 0) ≡ 0x16
  -- how many blocks are for services where the services directory is the only item
  pub blocks_a : service_blocks (only_services A 1 8) ≡ 39
  pub blocks_b : service_blocks (only_services B 1 8) ≡ 60
  pub blocks_c : service_blocks (only_services C 1 8) ≡ 129
  pub blocks_d : service_blocks (only_services D 17 72) ≡ 159
  pub blocks_e : service_blocks (only_services E 1 8) ≡ 99
  -- the sample card is accepted: its first slot, its free blocks, and what the check reads of it
  pub slot : option_map (λ d. slot_at d.services.bytes 0) (result_ok (verdict A sample_card)) ≡ Some (Some sample_slot)
  pub free : option_map free_blocks (result_ok (verdict A sample_card)) ≡ Some 38
  pub order : reads A sample_card ≡ 3 ∷ 1 ∷ 2 ∷ 4 ∷ 5 ∷ 6 ∷ 8 ∷ 9 ∷ 10 ∷ []
