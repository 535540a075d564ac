-- Runs: data blocks of consecutive ranks. Assumes nothing.
use Rattle.std.specs.Prelude.{◌≡◌, ℕ, ◌+◌, ◌<◌, Bool, true, false, cond, not, ◌&&◌, is_some, Some, None, Option, nat_le, nat_lt}
use Rattle.layout.specs.Blocks.{trailer, rank_of, data_block}

-- block i, counted from 0, of the run of n blocks from start on: i ranks above the start
unfoldable pub run_block : ℕ → ℕ → ℕ → Option ℕ
run_block start n i = cond (nat_lt i n && not (trailer start)) (data_block (rank_of start + i)) None

-- the run starts at a data block and stays within rank 215
unfoldable pub on_card : ℕ → ℕ → Bool
on_card start n = not (trailer start) && nat_le (rank_of start + n) 216

-- the run starts at a data block, and each of its n blocks is on the card
pub record OnCard (start n : ℕ) : Type 0 where
  pub starts : trailer start ≡ false
  pub each : (i : ℕ) → i < n → is_some (run_block start n i) ≡ true

-- two runs that start at data blocks have a rank in common
unfoldable pub runs_meet : ℕ → ℕ → ℕ → ℕ → Bool
runs_meet a m b n = not (trailer a) && not (trailer b) && nat_lt (rank_of a) (rank_of b + n) && nat_lt (rank_of b) (rank_of a + m)

-- a block that both runs have
pub record Shared (a m b n : ℕ) : Type 0 where
  pub i : ℕ
  pub j : ℕ
  pub low : i < m
  pub high : j < n
  pub block : ℕ
  pub first : run_block a m i ≡ Some block
  pub second : run_block b n j ≡ Some block
