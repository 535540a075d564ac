-- The services directory: which item names it, and where it may stand. Assumes nothing.
use Rattle.std.specs.Prelude.{ℕ, ◌-◌, Bool, false, cond, not, ◌&&◌, ◌||◌, List, Some, None, Ok, Option, ◌==◌, nat_le, nat_lt}
use Rattle.layout.specs.Blocks.{sector_of}
use Rattle.layout.specs.Profiles.{mad_of, services_sectors, within}
use Rattle.layout.specs.Refusals.{refuse, Answer}
use Rattle.layout.specs.declared.numbers.Block.{Block}
use Rattle.layout.specs.declared.profiles.Profile.{Profile}
use Rattle.layout.specs.declared.refusals.Reason.TheVariants.{ServicesSector}
use Rattle.directory.specs.Entries.{aid_at, item_at}
use Rattle.directory.specs.Nscp.{aid_is, tag_is}
use Rattle.directory.specs.Searches.{any_of, lowest_of}
use Rattle.directory.specs.declared.entries.Item.{Item}

-- the application directory lists the sector, and not for services: its identifier is not 4012
abbrev pub listed_otherwise : Profile → List ℕ → ℕ → Bool
listed_otherwise p mad s =
    (nat_le (mad_of p).first_listed.0 s && nat_lt (s - (mad_of p).first_listed.0) (mad_of p).listed)
    && not (aid_is 0x4012 (aid_at mad (s - (mad_of p).first_listed.0)))

-- the item at a place, if the search came to one
abbrev pub item_found : List ℕ → Option ℕ → Option Item
item_found nscp None = None
item_found nscp (Some i) = item_at nscp i

-- the first item with a tag
abbrev pub item_tagged : List ℕ → ℕ → Option Item
item_tagged nscp tag = item_found nscp (lowest_of (λ i. tag_is tag (item_at nscp i)) 23)

-- an item other than the services directory's own names a block of the sector
abbrev pub names_in : ℕ → Option Item → Bool
names_in s None = false
names_in s (Some it) = not (it.tag == 0xCF) && sector_of it.block.0 == s

-- the services directory may not stand in the sector
abbrev pub misplaced : Profile → List ℕ → ℕ → List ℕ → ℕ → Bool
misplaced p mad nscp_sector nscp s =
    not (within (services_sectors p) s) || s == nscp_sector || listed_otherwise p mad s || any_of (λ i. names_in s (item_at nscp i)) 23

-- where item CF puts the services directory
abbrev pub services_at : Profile → List ℕ → ℕ → List ℕ → Option Item → Answer Block
services_at p mad nscp_sector nscp None = refuse ServicesSector 0
services_at p mad nscp_sector nscp (Some it) =
    cond (misplaced p mad nscp_sector nscp (sector_of it.block.0)) (refuse ServicesSector it.block.0) (Ok it.block)

-- the first block of the services directory
abbrev pub services_judged : Profile → List ℕ → ℕ → List ℕ → Answer Block
services_judged p mad nscp_sector nscp = services_at p mad nscp_sector nscp (item_tagged nscp 0xCF)
