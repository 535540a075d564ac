use Rattle.std.proofs.Common.{rules}
use Rattle.card.proofs.Sixteen.{part_put}
use Rattle.card.proofs.image.put_block.Goals as goal

pub returns-clause-put : goal.returns-clause-put
returns-clause-put c =
    simp (c.from-start.ensures, c.copy_bytes.ensures)
    (part_put c.args.image.now c.args.bytes.now c.args.block.0 (search rules) (search rules) (search rules))
