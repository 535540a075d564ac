-- Cyclic checksums of w bits, at least 8, the top bit of each byte first and no inversion at the end. Assumes nothing.
use Rattle.std.specs.Prelude.{ℕ, zero, suc, ◌-◌, ◌*◌, ◌^◌, ◌<◌, ◌≤◌, cond, List, fold, bit_xor, nat_lt}

-- a register of 8 to 16 bits, and a polynomial that it can hold
pub record Register (w poly : ℕ) : Type 0 where
  pub wide : 8 ≤ w
  pub narrow : w ≤ 16
  pub low : poly < 2 ^ w

-- one bit: the register moves up, and where a one leaves at the top the polynomial is added
unfoldable pub round : ℕ → ℕ → ℕ → ℕ
round w poly s = cond (nat_lt s (2 ^ (w - 1))) (2 * s) (bit_xor (2 * s - 2 ^ w) poly)

-- n bits
unfoldable pub rounds : ℕ → ℕ → ℕ → ℕ → ℕ
rounds w poly zero s = s
rounds w poly (suc n) s = round w poly (rounds w poly n s)

-- one byte: it is added at the top of the register, and eight bits go through
unfoldable pub stepped : ℕ → ℕ → ℕ → ℕ → ℕ
stepped w poly s b = rounds w poly 8 (bit_xor s (b * 2 ^ (w - 8)))

-- the 8-bit checksum of directories
abbrev pub crc8 : List ℕ → ℕ
crc8 = fold (stepped 8 0x1D) 0xC7

-- the 16-bit checksum of service data
abbrev pub crc16 : List ℕ → ℕ
crc16 = fold (stepped 16 0x1021) 0xFFFF
