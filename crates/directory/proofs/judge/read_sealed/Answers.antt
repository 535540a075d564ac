use Rattle.std.proofs.Common.{arith}
use Rattle.directory.proofs.SealedReads.{unsealed, is_sealed_lem}
use Rattle.directory.proofs.judge.read_sealed.Goals as goal

pub returns-then-not-is_sealed : goal.returns-then-not-is_sealed
returns-then-not-is_sealed g c =
    unsealed g.C.Card _ _ c.requires.run c.requires.few _ _ c.read_run.new.buffer c.in_ok-read_run.ensures c.args.reason _ (grind arith) (grind arith)

pub returns : goal.returns
returns g c = is_sealed_lem g.C.Card _ _ c.requires.run c.requires.few _ _ _ c.in_ok-read_run.ensures c.args.reason (grind arith)
