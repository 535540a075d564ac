-- The five profiles: their letters, their sectors, their application directory. Assumes nothing.
use Rattle.std.specs.Prelude.{ℕ, Bool, false, cond, ◌&&◌, ◌||◌, List, [], ◌∷◌, Some, None, codes, Option, ◌==◌, nat_le}
use Rattle.layout.specs.Blocks.{to_block, to_sector}
use Rattle.layout.specs.declared.profiles.Mad.{Mad}
use Rattle.layout.specs.declared.profiles.Profile.{Profile}
use Rattle.layout.specs.declared.profiles.Profile.TheVariants.{A, B, C, D, E}

-- the letter of a profile
abbrev pub letter_of : Profile → List ℕ
letter_of A = codes "A"
letter_of B = codes "B"
letter_of C = codes "C"
letter_of D = codes "D"
letter_of E = codes "E"

-- the profile of a letter by its ASCII code
abbrev by_letter : ℕ → Option Profile
by_letter x =
    cond (x == 0x41) (Some A) (cond (x == 0x42) (Some B) (cond (x == 0x43) (Some C) (cond (x == 0x44) (Some D) (cond (x == 0x45) (Some E) None))))

-- the profile of a text: of one capital letter from A to E, and of no other
abbrev pub profile_of : List ℕ → Option Profile
profile_of [] = None
profile_of (x ∷ []) = by_letter x
profile_of (x ∷ y ∷ more) = None

-- from a first to a last, both counted
abbrev pub Range : Type 0
Range = ℕ × ℕ

-- a number lies in one of the ranges
abbrev pub within : List Range → ℕ → Bool
within [] s = false
within (r ∷ rs) s = (nat_le r.0 s && nat_le s r.1) || within rs s

-- the sectors of a profile
abbrev pub sectors_of : Profile → List Range
sectors_of A = (1, 15) ∷ []
sectors_of B = (1, 15) ∷ (25, 31) ∷ []
sectors_of C = (1, 15) ∷ (32, 34) ∷ (36, 38) ∷ []
sectors_of D = (17, 39) ∷ []
sectors_of E = (1, 15) ∷ (32, 32) ∷ (36, 38) ∷ []

-- the sectors in which the NSCP directory may stand
abbrev pub nscp_sectors : Profile → List Range
nscp_sectors A = (1, 15) ∷ []
nscp_sectors B = (1, 15) ∷ []
nscp_sectors C = (1, 15) ∷ []
nscp_sectors D = (17, 31) ∷ []
nscp_sectors E = (1, 15) ∷ []

-- the sectors in which the services directory may stand
abbrev pub services_sectors : Profile → List Range
services_sectors A = (1, 15) ∷ []
services_sectors B = (1, 15) ∷ (25, 31) ∷ []
services_sectors C = (1, 15) ∷ []
services_sectors D = (17, 31) ∷ []
services_sectors E = (1, 15) ∷ []

abbrev mad1 : Mad
mad1 = record { run = record { start = to_block 1; length = 2 }; trailer = to_block 3; general_purpose_byte = 0xC1; first_listed = to_sector 1; listed = 15 }

abbrev mad2 : Mad
mad2 = record { run = record { start = to_block 64; length = 3 }; trailer = to_block 67; general_purpose_byte = 0xC2; first_listed = to_sector 17; listed = 23 }

-- the application directory of a profile
abbrev pub mad_of : Profile → Mad
mad_of A = mad1
mad_of B = mad1
mad_of C = mad1
mad_of D = mad2
mad_of E = mad1
