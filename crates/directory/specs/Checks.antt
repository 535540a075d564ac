-- The directory check: which blocks it reads, in which order, and what it says of them. Assumes nothing.
use Rattle.std.specs.Prelude.{ℕ, List, Ok}
use Rattle.layout.specs.Blocks.{first_of}
use Rattle.layout.specs.Refusals.{Answer, then}
use Rattle.layout.specs.declared.numbers.Block.{Block}
use Rattle.layout.specs.declared.numbers.Sector.{Sector}
use Rattle.layout.specs.declared.profiles.Profile.{Profile}
use Rattle.layout.specs.declared.refusals.Reason.TheVariants.{NscpChecksum, ServicesChecksum}
use Rattle.card.specs.Blocks.{Blocks}
use Rattle.directory.specs.Judged.{sealed_look, mad_look}
use Rattle.directory.specs.Looks.{Look, judged, then_look}
use Rattle.directory.specs.Nscp.{nscp_sector_judged, nscp_judged}
use Rattle.directory.specs.Services.{services_judged}
use Rattle.directory.specs.Slots.{slots_judged}
use Rattle.directory.specs.declared.accepted.Directory.{Directory}
use Rattle.directory.specs.declared.accepted.Nscp.{Nscp}

-- the NSCP directory in a sector, its header and items judged
abbrev pub nscp_accepted : Sector → List ℕ → Answer Nscp
nscp_accepted s bytes = then (nscp_judged bytes) (λ _. Ok (record { sector = s; bytes = bytes }))

-- it is read and judged
abbrev pub nscp_look_at : Blocks → Sector → Look Nscp
nscp_look_at blocks s = then_look (sealed_look NscpChecksum (first_of s.0) 3 blocks) (λ bytes. judged (nscp_accepted s bytes))

-- its sector is judged first
abbrev pub nscp_look : Profile → List ℕ → Blocks → Look Nscp
nscp_look p mad blocks = then_look (judged (nscp_sector_judged p mad)) (nscp_look_at blocks)

-- the directories of a card
abbrev pub together : Profile → List ℕ → Nscp → Block → List ℕ → Directory
together p mad nscp at services = record {
  applications = record { profile = p; bytes = mad };
  nscp = nscp;
  services = record { block = at; bytes = services };
}

-- the slots are judged last
abbrev pub accepted : Directory → Answer Directory
accepted d = then (slots_judged d) (λ _. Ok d)

-- the services directory at its first block is read and judged
abbrev pub services_look_at : Profile → List ℕ → Nscp → Blocks → Block → Look Directory
services_look_at p mad nscp blocks at =
    then_look (sealed_look ServicesChecksum at.0 3 blocks) (λ services. judged (accepted (together p mad nscp at services)))

-- its place is judged first
abbrev pub services_look : Profile → List ℕ → Nscp → Blocks → Look Directory
services_look p mad nscp blocks = then_look (judged (services_judged p mad nscp.sector.0 nscp.bytes)) (services_look_at p mad nscp blocks)

-- what follows the application directory
abbrev pub rest_look : Profile → List ℕ → Blocks → Look Directory
rest_look p mad blocks = then_look (nscp_look p mad blocks) (λ nscp. services_look p mad nscp blocks)

-- the whole check: the application directory, the NSCP directory, the services directory
unfoldable pub check_look : Profile → Blocks → Look Directory
check_look p blocks = then_look (mad_look p blocks) (λ mad. rest_look p mad blocks)

-- which blocks it reads, in order, and its verdict on a card that stays
abbrev pub reads : Profile → Blocks → List ℕ
reads p blocks = (check_look p blocks).touches

abbrev pub verdict : Profile → Blocks → Answer Directory
verdict p blocks = (check_look p blocks).answer
