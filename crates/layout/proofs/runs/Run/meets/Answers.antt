use Rattle.std.proofs.Common.{arith}
use Rattle.layout.proofs.RunBlocks.{meet_decides}
use Rattle.layout.proofs.runs.Run.meets.Goals as goal

pub returns-clause-shared : goal.returns-clause-shared
returns-clause-shared c =
    let first = c.in-Some.ensures.rank in
    let second = c.in-Some-rank.ensures.rank in
    λ on there some more. meet_decides _ _ _ _ (omega arith) (omega arith) on there some more c.meet.result (simp (first, second) c.meet.ensures)
