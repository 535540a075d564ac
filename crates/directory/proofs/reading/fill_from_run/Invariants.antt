use Rattle.directory.specs.Reads.{run_touches}
use Rattle.directory.proofs.Filling.{Progress}
use Rattle.directory.proofs.reading.fill_from_run.Given as goal

abbrev pub invariant-loop-i : goal.invariant-loop-i
invariant-loop-i g l =
    let k = g.C.Card in
    Progress k (run_touches l.run.start.0 l.run.length) l.i l.initial.card l.card l.initial.buffer l.buffer
