-- The NSCP directory: in which sector it stands, and when an item of it is wrong. Assumes nothing.
use Rattle.std.specs.Prelude.{ℕ, ◌+◌, Bool, false, cond, not, ◌&&◌, ◌||◌, List, Some, None, Ok, Option, ◌==◌, slice_index}
use Rattle.layout.specs.Blocks.{position_of, trailer, to_sector}
use Rattle.layout.specs.Profiles.{mad_of, nscp_sectors, within}
use Rattle.layout.specs.Refusals.{refuse, Answer}
use Rattle.layout.specs.declared.numbers.Sector.{Sector}
use Rattle.layout.specs.declared.profiles.Profile.{Profile}
use Rattle.layout.specs.declared.refusals.Reason.TheVariants.{NscpSector, NscpItem}
use Rattle.directory.specs.Entries.{aid_at, item_at}
use Rattle.directory.specs.Searches.{any_of, count_of, lowest_of, first_judged}
use Rattle.directory.specs.declared.entries.Aid.{Aid}
use Rattle.directory.specs.declared.entries.Item.{Item}

-- the entry is this application identifier
abbrev pub aid_is : ℕ → Option Aid → Bool
aid_is aid None = false
aid_is aid (Some a) = a.0 == aid

-- the entry of the application directory is the NSCP's
abbrev pub is_nscp : List ℕ → ℕ → Bool
is_nscp mad i = aid_is 0x4011 (aid_at mad i)

-- the listed sector at a place, if the NSCP directory may stand there
abbrev pub nscp_sector_at : Profile → Option ℕ → Answer Sector
nscp_sector_at p None = refuse NscpSector 0
nscp_sector_at p (Some i) =
    cond (within (nscp_sectors p) ((mad_of p).first_listed.0 + i)) (Ok (to_sector ((mad_of p).first_listed.0 + i))) (refuse NscpSector 0)

-- exactly one listed sector is the NSCP's, and it may stand there
abbrev pub nscp_sector_judged : Profile → List ℕ → Answer Sector
nscp_sector_judged p mad =
    cond (count_of (is_nscp mad) (mad_of p).listed == 1) (nscp_sector_at p (lowest_of (is_nscp mad) (mad_of p).listed)) (refuse NscpSector 0)

-- tags that name one block
abbrev pub names_block : ℕ → Bool
names_block tag = tag == 0xC0 || tag == 0xC1 || tag == 0xC2 || tag == 0xC5 || tag == 0xC6

-- tags that name a whole sector, by its first block
abbrev pub names_sector : ℕ → Bool
names_sector tag = tag == 0xC3 || tag == 0xC4 || tag == 0xC7 || tag == 0xCE || tag == 0xCF

-- an item is wrong by itself: an unknown tag, block 0, a trailer, a sector by another block than its first
abbrev pub item_wrong : Item → Bool
item_wrong it =
    not (names_block it.tag || names_sector it.tag) || it.block.0 == 0 || trailer it.block.0
    || (names_sector it.tag && not (position_of it.block.0 == 0))

-- the entry is an item with this tag
abbrev pub tag_is : ℕ → Option Item → Bool
tag_is tag None = false
tag_is tag (Some it) = it.tag == tag

-- an item is wrong by itself, or an earlier one has its tag
abbrev pub wrong_as : List ℕ → ℕ → Option Item → Bool
wrong_as nscp i None = false
wrong_as nscp i (Some it) = item_wrong it || any_of (λ j. tag_is it.tag (item_at nscp j)) i

unfoldable pub wrong_item : List ℕ → ℕ → Bool
wrong_item nscp i = wrong_as nscp i (item_at nscp i)

-- the first wrong item decides
abbrev pub first_item_judged : Option ℕ → Answer (Unit {0})
first_item_judged = first_judged NscpItem

-- the header is 00, and then no item is wrong
abbrev pub nscp_judged : List ℕ → Answer (Unit {0})
nscp_judged nscp = cond (slice_index nscp 1 == 0) (first_item_judged (lowest_of (wrong_item nscp) 23)) (refuse NscpItem 0)
