use Rattle.std.proofs.Common.{refl}
use Rattle.layout.specs.Profiles.{mad_of}
use Rattle.layout.specs.declared.refusals.Reason.TheVariants.{MadChecksum}
use Rattle.directory.specs.Judged.{trailer_look, sealed_look}
use Rattle.directory.proofs.Looking.{taken_then}
use Rattle.directory.proofs.judge.read_mad.Goals as goal

pub returns : goal.returns
returns g c =
    let p = c.args.profile in
    taken_then g.C.Card (trailer_look p) (λ b _. sealed_look MadChecksum (mad_of p).run.start.0 (mad_of p).run.length b) c.in_ok-read_trailer.field-0
    c.in_ok-read_trailer.ensures refl (rw c.mad.ensures at c.read_sealed.ensures)
