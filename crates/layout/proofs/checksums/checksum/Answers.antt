use Rattle.std.proofs.ByRecursion.{All-from_get_or}
use Rattle.std.proofs.Common.{◌≡◌, fold, ap, ◌∙◌}
use Rattle.std.proofs.lemmas.List.{take_all}
use Rattle.layout.specs.OneByte.{one_byte_shows}
use Rattle.layout.proofs.checksums.checksum.Goals as goal

pub returns-clause-shows : goal.returns-clause-shows
returns-clause-shows g c =
    let k = g.K.ChecksumKind in
    let laws = g.met.K.ChecksumKind in
    let xs = c.args.bytes.now in
    let value : c.loop-byte.state ≡ fold k.step k.START xs = c.loop-byte.invariant ∙ ap (fold k.step k.START) (take_all _ _ c.loop-byte-test.false) in
    λ ys bytes differ same.
    one_byte_shows k.fits k.step laws.stays laws.apart laws.shows k.START laws.starts
    xs ys (All-from_get_or _ xs 0 (λ i _. (c.type_inv.bytes i).fits)) bytes differ (same ∙ value)
