use Rattle.std.proofs.Common.{refl, rules}
use Rattle.directory.specs.Checks.{nscp_look, services_look, rest_look, check_look}
use Rattle.directory.specs.Judged.{mad_look}
use Rattle.directory.proofs.Looking.{taken_stop, taken_then}
use Rattle.directory.proofs.check.check_card.Goals as goal

pub returns-in_err-bytes-clause-look : goal.returns-in_err-bytes-clause-look
unfolding check_look
returns-in_err-bytes-clause-look g c =
    let p = c.args.profile in
    search (rules, taken_stop g.C.Card (mad_look p) (λ b mad. rest_look p mad b) _ c.in_err-bytes.ensures refl)

pub returns-in_err-nscp-clause-look : goal.returns-in_err-nscp-clause-look
unfolding check_look
returns-in_err-nscp-clause-look g c =
    let k = g.C.Card in
    let p = c.args.profile in
    let mad = c.in_ok-bytes.bytes in
    search (
      rules,
      taken_then k (mad_look p) (λ b m. rest_look p m b) mad c.in_ok-bytes.ensures refl
          (taken_stop k (nscp_look p mad) (λ b n. services_look p mad n b) _ c.in_err-nscp.ensures.look refl),
    )

pub returns-clause-look : goal.returns-clause-look
unfolding check_look
returns-clause-look g c =
    let k = g.C.Card in
    let p = c.args.profile in
    let mad = c.in_ok-bytes.bytes in
    taken_then k (mad_look p) (λ b m. rest_look p m b) mad c.in_ok-bytes.ensures refl
    (taken_then k (nscp_look p mad) (λ b n. services_look p mad n b) c.in_ok-nscp.nscp c.in_ok-nscp.ensures.look refl c.read_services.ensures)
