-- One changed byte changes either checksum. Assumes nothing.
use Rattle.std.specs.Prelude.{◌≡◌, ℕ, ◌%◌, ◌^◌, ◌<◌, refl}
use Rattle.std.proofs.Common.{lit<, lit≤}
use Rattle.layout.specs.Crc.{Register, stepped}
use Rattle.layout.specs.Differ.{OneByteShows}
use Rattle.layout.specs.OneByte.{one_byte_shows}
use Rattle.layout.specs.Rounds.{stepped_lt, stepped_apart, stepped_shows}

pub register8 : Register 8 0x1D
register8 = record { wide = lit≤ tt; narrow = lit≤ tt; low = lit< tt }

pub register16 : Register 16 0x1021
register16 = record { wide = lit≤ tt; narrow = lit≤ tt; low = lit< tt }

crc_shows : (w poly start : ℕ) → Register w poly → poly % 2 ≡ 1 → start < 2 ^ w → OneByteShows start (stepped w poly)
crc_shows w poly start register odd starts =
    one_byte_shows (λ s. s < 2 ^ w) (stepped w poly) (stepped_lt w poly register) (stepped_apart w poly register odd) (stepped_shows w poly register odd) start starts

pub crc8_shows : OneByteShows 0xC7 (stepped 8 0x1D)
crc8_shows = crc_shows 8 0x1D 0xC7 register8 refl (lit< tt)

pub crc16_shows : OneByteShows 0xFFFF (stepped 16 0x1021)
crc16_shows = crc_shows 16 0x1021 0xFFFF register16 refl (lit< tt)
