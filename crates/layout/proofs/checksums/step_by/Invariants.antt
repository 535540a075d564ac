use Rattle.std.proofs.Common.{◌≡◌, ◌^◌, ◌<◌}
use Rattle.layout.specs.Crc.{rounds}
use Rattle.layout.proofs.checksums.step_by.Given as goal

abbrev pub invariant-loop-i : goal.invariant-loop-i
invariant-loop-i l = (l.register ≡ rounds l.width l.polynomial l._i l.initial.register) × (l.register < 2 ^ l.width)
