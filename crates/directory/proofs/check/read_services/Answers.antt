use Rattle.std.proofs.Common.{Ok, sym, refl, ap, rules}
use Rattle.layout.specs.Refusals.{then}
use Rattle.layout.specs.declared.refusals.Reason.TheVariants.{ServicesChecksum}
use Rattle.directory.specs.Checks.{together, accepted, services_look_at}
use Rattle.directory.specs.Judged.{sealed_look}
use Rattle.directory.specs.Looks.{judged}
use Rattle.directory.specs.Services.{services_judged}
use Rattle.directory.proofs.Looking.{taken_none, taken_judge, taken_stop, taken_then}
use Rattle.directory.proofs.check.read_services.Goals as goal

pub returns-in_err-bytes : goal.returns-in_err-bytes
returns-in_err-bytes g c =
    let k = g.C.Card in
    let p = c.args.applications.profile in
    let mad = c.args.applications.bytes in
    let nscp = c.args.nscp in
    let at = c.in_ok-block.block in
    let place = services_judged p mad nscp.sector.0 nscp.bytes in
    let last = taken_stop k (sealed_look ServicesChecksum at.0 3) (λ _ s. judged (accepted (together p mad nscp at s))) _ c.in_err-bytes.ensures refl in
    search (rules, taken_then k (λ _. judged place) (services_look_at p mad nscp) at (taken_none k place c.args.card.now) (sym c.in_ok-block.ensures) last)

pub returns-in_err-judge_slots : goal.returns-in_err-judge_slots
returns-in_err-judge_slots g c =
    let k = g.C.Card in
    let p = c.args.applications.profile in
    let mad = c.args.applications.bytes in
    let nscp = c.args.nscp in
    let at = c.in_ok-block.block in
    let services = c.in_ok-bytes.bytes in
    let d = together p mad nscp at services in
    let place = services_judged p mad nscp.sector.0 nscp.bytes in
    let last = taken_judge k (sealed_look ServicesChecksum at.0 3) (λ _ s. accepted (together p mad nscp at s)) services
    c.in_ok-bytes.ensures refl (ap (λ a. then a (λ _. Ok d)) c.in_err-judge_slots.ensures) in
    search (rules, taken_then k (λ _. judged place) (services_look_at p mad nscp) at (taken_none k place c.args.card.now) (sym c.in_ok-block.ensures) last)
