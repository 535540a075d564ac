use Rattle.std.proofs.Common.{◌≡◌, ◌+◌, ◌-◌, ◌/◌, Some, arith}
use Rattle.layout.specs.Blocks.{data_block}
use Rattle.layout.proofs.RankBlocks.{low_block, high_block, from_rank}
use Rattle.layout.proofs.numbers.Rank.block.Goals as goal

pub returns-in-0-to-95 : goal.returns-in-0-to-95
returns-in-0-to-95 c = let k = c.args.self.0 in from_rank k _ (omega arith) (low_block k (omega arith))

pub returns-in-96-to-215 : goal.returns-in-96-to-215
returns-in-96-to-215 c =
    let k = c.args.self.0 in
    let past = k - 96 in
    let whole : 96 + past ≡ k = omega arith in
    let found : data_block k ≡ Some (128 + past + past / 15) = rw whole at (high_block past (omega arith)) in
    from_rank k _ (omega arith) found
