-- What is said of a station whose card does not leave: it is as it was, and what was answered or written follows from its card's blocks. Assumes nothing.
use Rattle.std.specs.Prelude.{◌≡◌, ℕ, List, IfOk, string_bytes, Result, String}
use Rattle.std.specs.declared.alloc.AllocError.{AllocError}
use Rattle.std.specs.declared.alloc.Global.{Global}
use Rattle.layout.specs.Refusals.{Answer}
use Rattle.layout.specs.declared.profiles.Profile.{Profile}
use Rattle.card.specs.Blocks.{Blocks}
use Rattle.card.specs.declared.interface.Card.{Ghosts as CardKind}
use Rattle.station.specs.declared.frame.Reading.{Reading}
use Rattle.station.specs.declared.station.Station.{Station}
use Rattle.full_listing.specs.Records.{reading_of}

-- the station is as it was
pub record Still {C : Type 0} (kind : CardKind C) (station later : Station C) : Type 0 where
  pub profile : later.profile ≡ station.profile
  pub blocks_same : kind.blocks later.card ≡ kind.blocks station.card
  pub firm : kind.steady station.card → kind.steady later.card

-- a service was read
pub record Answered {C : Type 0} (kind : CardKind C) (number : ℕ) (station later : Station C) (r : Answer Reading) : Type 0 where
  pub still : Still kind station later
  pub answer : kind.steady station.card → r ≡ reading_of station.profile (kind.blocks station.card) number

-- a text was written
pub record Wrote {C : Type 0} (kind : CardKind C) (station later : Station C) (text : Profile → Blocks → List ℕ) (r : Result (String Global) AllocError) : Type 0 where
  pub still : Still kind station later
  pub written : kind.steady station.card → IfOk r (λ s. string_bytes s ≡ text station.profile (kind.blocks station.card))
