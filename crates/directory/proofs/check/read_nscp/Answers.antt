use Rattle.std.proofs.Common.{◌≡◌, sym, refl, rules, arith}
use Rattle.layout.specs.Blocks.{first_of, to_block}
use Rattle.layout.specs.declared.refusals.Reason.TheVariants.{NscpChecksum}
use Rattle.directory.specs.Checks.{nscp_accepted, nscp_look_at}
use Rattle.directory.specs.Judged.{sealed_look}
use Rattle.directory.specs.Looks.{judged}
use Rattle.directory.specs.Nscp.{nscp_sector_judged}
use Rattle.directory.proofs.DirectoryPlaces.{nscp_on_card}
use Rattle.directory.proofs.Looking.{taken_none, taken_stop, taken_then}
use Rattle.directory.proofs.check.read_nscp.Goals as goal

pub returns-in_err-bytes-clause-look : goal.returns-in_err-bytes-clause-look
returns-in_err-bytes-clause-look g c =
    let k = g.C.Card in
    let p = c.args.applications.now.profile in
    let mad = c.args.applications.now.bytes in
    let s = c.in_ok-sector.sector in
    let first : c.unwrap.result ≡ to_block (first_of s.0) = grind (arith, nscp_on_card p mad s (sym c.in_ok-sector.ensures)) in
    let last = taken_stop k (sealed_look NscpChecksum (first_of s.0) 3) (λ _ bytes. judged (nscp_accepted s bytes)) _ (rw first at c.in_err-bytes.ensures) refl in
    search (rules, taken_then k (λ _. judged (nscp_sector_judged p mad)) nscp_look_at s (taken_none k (nscp_sector_judged p mad) c.args.card.now) (sym c.in_ok-sector.ensures) last)
