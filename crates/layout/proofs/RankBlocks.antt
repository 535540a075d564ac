-- Ranks and data blocks, each rule from a test at every block. Assumes nothing.
use Rattle.std.proofs.Common.{◌≡◌, ℕ, ◌+◌, ◌-◌, ◌/◌, ◌<◌, ◌≤◌, Bool, true, false, not, ◌&&◌, ◌||◌, eqb, leb, is_some, Some, None, Option, sym, refl, ap, subst, MatchOption, arith}
use Rattle.std.specs.Option.{option_map}
use Rattle.std.proofs.lemmas.Bool.{leb-true}
use Rattle.std.proofs.lemmas.Grind.{common_steps}
use Rattle.std.proofs.lemmas.Option.{slice_get_past}
use Rattle.layout.specs.Blocks.{rank_of, sector_of, trailer, data_from, data_block, Ranked, to_block}
use Rattle.layout.specs.declared.numbers.Block.{Block}
use Rattle.layout.proofs.Below.{at, same_at, some_at, holds, holds_some}

-- one trailer for each sector below
pub rank_is : (b : ℕ) → b < 256 → b - sector_of b ≡ rank_of b
unfolding rank_of
rank_is = same_at (λ b. b - sector_of b) rank_of 256 refl

pub low_block : (k : ℕ) → k < 96 → data_block k ≡ Some (k + k / 3)
unfolding data_block
low_block = some_at data_block (λ k. k + k / 3) 96 refl

pub high_block : (k : ℕ) → k < 120 → data_block (96 + k) ≡ Some (128 + k + k / 15)
unfolding data_block
high_block = some_at (λ k. data_block (96 + k)) (λ k. 128 + k + k / 15) 120 refl

pub past_block : (k : ℕ) → 216 ≤ k → data_block k ≡ None
unfolding data_block
past_block k h = slice_get_past (data_from 0 256) k h

-- the option holds a data block of rank k
abbrev ranked : ℕ → Option ℕ → Bool
ranked k None = false
ranked k (Some b) = eqb (rank_of b) k && not (trailer b)

ranked_some : (k b : ℕ) → ranked k (Some b) ≡ true → (rank_of b ≡ k) × (trailer b ≡ false)
ranked_some k b e = (grind (arith, common_steps), grind (arith, common_steps))

all_ranked : (k : ℕ) → k < 216 → ranked k (data_block k) ≡ true
unfolding rank_of data_block
all_ranked = at (λ k. ranked k (data_block k)) 216 refl

-- the block of a rank has that rank
pub from_rank : (k b : ℕ) → k < 216 → data_block k ≡ Some b → Ranked b k
from_rank k b h e =
    let p = ranked_some k b (subst (λ o. ranked k o ≡ true) e (all_ranked k h)) in
    record { plain = p.1; rank = p.0; block = e }

all_back : (b : ℕ) → b < 256 → (trailer b || holds (data_block (rank_of b)) b) ≡ true
unfolding rank_of data_block
all_back = at (λ b. trailer b || holds (data_block (rank_of b)) b) 256 refl

-- the block of a data block's rank is that block
pub from_block : (b : ℕ) → b < 256 → trailer b ≡ false → Ranked b (rank_of b)
from_block b h e = record {
  plain = e;
  rank = refl;
  block = holds_some _ b (grind (arith, all_back b h));
}

pub ranked_here : (b : ℕ) → b < 256 → trailer b ≡ false → Ranked b (b - sector_of b)
ranked_here b h plain = subst (Ranked b) (sym (rank_is b h)) (from_block b h plain)

-- every rank up to 215 has a block
pub block_there : (k : ℕ) → k < 216 → is_some (data_block k) ≡ true
unfolding data_block
block_there = at (λ k. is_some (data_block k)) 216 refl

pub rank_le : (b : ℕ) → b < 256 → rank_of b ≤ 216
unfolding rank_of
rank_le b h = leb-true _ _ (at (λ j. leb (rank_of j) 216) 256 refl b h)

-- an answer that is ranked is the definition's
pub ranked_block : (k : ℕ) (o : Option Block) → MatchOption o (216 ≤ k) (λ b. Ranked b.0 k) → o ≡ option_map to_block (data_block k)
ranked_block k None h = ap (option_map to_block) (sym (past_block k h))
ranked_block k (Some b) h = ap (option_map to_block) (sym h.block)
