-- Where the application directories stand. Assumes nothing.
use Rattle.std.proofs.Common.{◌≡◌, ◌+◌, ◌≤◌, true, refl, arith}
use Rattle.layout.specs.Blocks.{rank_of}
use Rattle.layout.specs.Profiles.{mad_of}
use Rattle.layout.specs.Runs.{on_card}
use Rattle.layout.specs.declared.profiles.Profile.{Profile}
use Rattle.layout.specs.declared.profiles.Profile.TheVariants.{A, B, C, D, E}

pub mad_on_card : (p : Profile) → on_card (mad_of p).run.start.0 (mad_of p).run.length ≡ true
unfolding on_card rank_of
mad_on_card A = refl
mad_on_card B = refl
mad_on_card C = refl
mad_on_card D = refl
mad_on_card E = refl

pub mad_few : (p : Profile) → (mad_of p).run.length ≤ 3
mad_few p = grind arith

-- every listed sector is on the card
pub mad_listed : (p : Profile) → (mad_of p).first_listed.0 + (mad_of p).listed ≤ 40
mad_listed p = grind arith
