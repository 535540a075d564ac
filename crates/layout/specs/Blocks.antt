-- Where the 256 blocks of a card lie: sectors, trailers, data blocks and their ranks. Assumes nothing.
use Rattle.std.specs.Prelude.{◌≡◌, ℕ, zero, suc, ◌+◌, ◌-◌, ◌*◌, ◌/◌, ◌%◌, ◌<◌, Bool, false, cond, List, [], ◌∷◌, Some, Option, ◌==◌, nat_lt}
use Rattle.std.specs.List.{slice_get}
use Rattle.layout.specs.declared.numbers.Block.{Block}
use Rattle.layout.specs.declared.numbers.Sector.{Sector}

-- how many blocks a sector has
abbrev pub size_of : ℕ → ℕ
size_of s = cond (nat_lt s 32) 4 16

-- the first block of a sector
abbrev pub first_of : ℕ → ℕ
first_of s = cond (nat_lt s 32) (4 * s) (128 + 16 * (s - 32))

-- block b stands at position k of sector s, one of the 40
pub record Lies (b s k : ℕ) : Type 0 where
  pub sector : s < 40
  pub position : k < size_of s
  pub sum : first_of s + k ≡ b

-- block b stands at position k of sector s, and nowhere else
pub record LiesOnly (b s k : ℕ) : Type 0 where
  pub there : Lies b s k
  pub only : (t j : ℕ) → Lies b t j → (t ≡ s) × (j ≡ k)

-- the sector of a block
abbrev pub sector_of : ℕ → ℕ
sector_of b = cond (nat_lt b 128) (b / 4) (32 + (b - 128) / 16)

-- the position of a block in its sector
abbrev pub position_of : ℕ → ℕ
position_of b = cond (nat_lt b 128) (b % 4) ((b - 128) % 16)

-- the last block of its sector
abbrev pub trailer : ℕ → Bool
trailer b = position_of b + 1 == size_of (sector_of b)

-- how many of the blocks below b are data blocks
unfoldable pub rank_of : ℕ → ℕ
rank_of zero = 0
rank_of (suc b) = rank_of b + cond (trailer b) 0 1

-- the data blocks among the n blocks from b on, ascending
abbrev pub data_from : ℕ → ℕ → List ℕ
data_from b zero = []
data_from b (suc n) = cond (trailer b) (data_from (suc b) n) (b ∷ data_from (suc b) n)

-- the data block of a rank: of all data blocks, ascending, the one that has as many before it
unfoldable pub data_block : ℕ → Option ℕ
data_block k = slice_get (data_from 0 256) k

-- b is a data block, k is its rank, and the data block of rank k is b
pub record Ranked (b k : ℕ) : Type 0 where
  pub plain : trailer b ≡ false
  pub rank : rank_of b ≡ k
  pub block : data_block k ≡ Some b

-- numbers as the code's types
abbrev pub to_block : ℕ → Block
to_block b = record { 0 = b }

abbrev pub to_sector : ℕ → Sector
to_sector s = record { 0 = s }
