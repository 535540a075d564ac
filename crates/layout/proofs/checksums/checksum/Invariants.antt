use Rattle.std.proofs.Common.{◌≡◌, take, fold}
use Rattle.layout.proofs.checksums.checksum.Given as goal

abbrev pub invariant-loop-byte : goal.invariant-loop-byte
invariant-loop-byte g l = let k = g.K.ChecksumKind in l.state ≡ fold k.step k.START (take l.byte-index l.bytes)
