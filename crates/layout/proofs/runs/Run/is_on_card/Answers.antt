use Rattle.std.proofs.Common.{arith}
use Rattle.std.proofs.lemmas.Bool.{leb-true, le-leb}
use Rattle.layout.proofs.RunBlocks.{on_card_lem, on_card_within}
use Rattle.layout.proofs.runs.Run.is_on_card.Goals as goal

pub returns-in-Some-clause-each : goal.returns-in-Some-clause-each
returns-in-Some-clause-each c =
    let first = c.in-Some.ensures in (
      λ t. on_card_lem _ _ first.plain (omega (arith, leb-true _ _ t, first.rank)),
      λ o. le-leb _ _ (omega (arith, on_card_within _ _ first.plain (omega arith) o, first.rank)),
    )
