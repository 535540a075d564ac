-- A look depends only on the blocks that it reads. Assumes nothing.
use Rattle.std.proofs.Common.{◌≡◌, ℕ, List, [], ◌∷◌, ◌++◌, Ok, Err, sym, refl, ap, ◌∙◌, subst}
use Rattle.layout.specs.Blocks.{first_of}
use Rattle.layout.specs.Profiles.{mad_of}
use Rattle.layout.specs.Refusals.{Answer, then}
use Rattle.layout.specs.declared.profiles.Profile.{Profile}
use Rattle.layout.specs.declared.refusals.Reason.{Reason}
use Rattle.layout.specs.declared.refusals.Reason.TheVariants.{MadChecksum, NscpChecksum, ServicesChecksum}
use Rattle.card.specs.Blocks.{Blocks}
use Rattle.directory.specs.Checks.{nscp_accepted, nscp_look_at, nscp_look, together, accepted, services_look_at, services_look, rest_look, check_look}
use Rattle.directory.specs.Judged.{trailer_judged, trailer_look, seal_judged, sealed_look, mad_look}
use Rattle.directory.specs.Laws.{Agree, ReadsDecide}
use Rattle.directory.specs.Looks.{Look, judged, touches_after, then_look}
use Rattle.directory.specs.Nscp.{nscp_sector_judged}
use Rattle.directory.specs.Services.{services_judged}
use Rattle.directory.specs.declared.accepted.Nscp.{Nscp}
use Rattle.directory.specs.Reads.{block_look, run_touches, touch_look, joined}

unfoldable pub Local : {X : Type 0} → (Blocks → Look X) → Type 0
Local l = (blocks other : Blocks) → Agree (l blocks).touches blocks other → l other ≡ l blocks

agree_append : (xs ys : List ℕ) (blocks other : Blocks) → Agree (xs ++ ys) blocks other → Agree xs blocks other × Agree ys blocks other
agree_append [] ys blocks other a = (tt, a)
agree_append (x ∷ xs) ys blocks other a = let p = agree_append xs ys blocks other a.1 in ((a.0, p.0), p.1)

pub joined_agree : (bs : List ℕ) (blocks other : Blocks) → Agree bs blocks other → joined other bs ≡ joined blocks bs
joined_agree [] blocks other a = refl
joined_agree (b ∷ bs) blocks other a = λ i. sym a.0 i ++ joined_agree bs blocks other a.1 i

pub local_block : (b : ℕ) → Local (block_look b)
unfolding Local
local_block b blocks other a = ap (λ bytes. record { touches = b ∷ []; answer = Ok bytes }) (sym a.0)

pub local_judged : {X : Type 0} (r : Answer X) → Local (λ _. judged r)
unfolding Local
local_judged r blocks other a = refl

pub local_sealed : (why : Reason) (start n : ℕ) → Local (sealed_look why start n)
unfolding Local
local_sealed why start n blocks other a =
    ap (λ bytes. then_look (touch_look (run_touches start n) blocks) (λ _. judged (seal_judged why start bytes)))
    (joined_agree (run_touches start n) blocks other (agree_append (run_touches start n) [] blocks other a).0)

module _ {X Y : Type 0} where
  -- a second look matters only after a first that is no refusal
  then_same : (touches : List ℕ) (a : Answer X) (f g : X → Look Y) → ((x : X) → a ≡ Ok x → f x ≡ g x)
      → ◌≡◌ {A = Look Y} (record { touches = touches ++ touches_after a f; answer = then a (λ x. (f x).answer) }) (record { touches = touches ++ touches_after a g; answer = then a (λ x. (g x).answer) })
  then_same touches (Ok x) f g same = ap (λ k. record { touches = touches ++ k.touches; answer = k.answer }) (same x refl)
  then_same touches (Err e) f g same = refl

  pub local_then : (l : Blocks → Look X) (next : Blocks → X → Look Y) → Local l → ((x : X) → Local (λ b. next b x)) → Local (λ b. then_look (l b) (next b))
  unfolding Local
  local_then l next first second blocks other a =
      let p = agree_append (l blocks).touches (touches_after (l blocks).answer (next blocks)) blocks other a in
      ap (λ k. then_look k (next other)) (first blocks other p.0)
      ∙ then_same (l blocks).touches (l blocks).answer (next other) (next blocks)
      (λ x is. second x blocks other (subst (λ r. Agree (touches_after r (next blocks)) blocks other) is p.1))

pub local_mad : (p : Profile) → Local (mad_look p)
local_mad p =
    local_then (trailer_look p) (λ b _. sealed_look MadChecksum (mad_of p).run.start.0 (mad_of p).run.length b)
    (local_then (block_look (mad_of p).trailer.0) (λ _ bytes. judged (trailer_judged p bytes)) (local_block (mad_of p).trailer.0) (λ bytes. local_judged (trailer_judged p bytes)))
    (λ _. local_sealed MadChecksum (mad_of p).run.start.0 (mad_of p).run.length)

pub local_nscp : (p : Profile) (mad : List ℕ) → Local (nscp_look p mad)
local_nscp p mad =
    local_then (λ _. judged (nscp_sector_judged p mad)) nscp_look_at (local_judged (nscp_sector_judged p mad))
    (λ s. local_then (sealed_look NscpChecksum (first_of s.0) 3) (λ _ bytes. judged (nscp_accepted s bytes)) (local_sealed NscpChecksum (first_of s.0) 3) (λ bytes. local_judged (nscp_accepted s bytes)))

local_services : (p : Profile) (mad : List ℕ) (nscp : Nscp) → Local (services_look p mad nscp)
local_services p mad nscp =
    let place = services_judged p mad nscp.sector.0 nscp.bytes in
    local_then (λ _. judged place) (services_look_at p mad nscp) (local_judged place)
    (λ at. local_then (sealed_look ServicesChecksum at.0 3) (λ _ services. judged (accepted (together p mad nscp at services))) (local_sealed ServicesChecksum at.0 3)
    (λ services. local_judged (accepted (together p mad nscp at services))))

local_check : (p : Profile) → Local (check_look p)
unfolding check_look
local_check p =
    local_then (mad_look p) (λ b mad. rest_look p mad b) (local_mad p)
    (λ mad. local_then (nscp_look p mad) (λ b nscp. services_look p mad nscp b) (local_nscp p mad) (local_services p mad))

pub reads_decide : (p : Profile) → ReadsDecide p
unfolding Local
reads_decide p blocks other a = let same = local_check p blocks other a in (ap (λ l. l.touches) same, ap (λ l. l.answer) same)
