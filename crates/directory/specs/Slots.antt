-- Which blocks hold services, and when a slot of the services directory is wrong. Assumes nothing.
use Rattle.std.specs.Prelude.{ℕ, ◌+◌, min, Bool, true, false, cond, not, ◌&&◌, ◌||◌, List, Some, None, Ok, Option, ◌==◌, slice_index}
use Rattle.layout.specs.Blocks.{sector_of, trailer}
use Rattle.layout.specs.Profiles.{sectors_of, within}
use Rattle.layout.specs.Refusals.{refuse, Answer}
use Rattle.layout.specs.Runs.{run_block, on_card, runs_meet}
use Rattle.layout.specs.declared.refusals.Reason.TheVariants.{ServicesSlot}
use Rattle.directory.specs.Entries.{item_at, slot_at}
use Rattle.directory.specs.Nscp.{names_sector}
use Rattle.directory.specs.Searches.{any_of, count_of, lowest_of, first_judged}
use Rattle.directory.specs.Services.{listed_otherwise}
use Rattle.directory.specs.declared.accepted.Directory.{Directory}
use Rattle.directory.specs.declared.entries.Item.{Item}
use Rattle.directory.specs.declared.entries.Slot.{Slot}

-- an item names the block, or the block's whole sector
abbrev pub names : ℕ → Option Item → Bool
names b None = false
names b (Some it) = cond (names_sector it.tag) (sector_of it.block.0 == sector_of b) (it.block.0 == b)

-- a sector for services: of the profile, not the NSCP's, and listed for services or not at all. No profile has the sector of its application directory.
abbrev pub service_sector : Directory → ℕ → Bool
service_sector d s =
    within (sectors_of d.applications.profile) s && not (s == d.nscp.sector.0) && not (listed_otherwise d.applications.profile d.applications.bytes s)

-- a service block: a data block of a sector for services that no item names
unfoldable pub service_block : Directory → ℕ → Bool
service_block d b = not (trailer b) && service_sector d (sector_of b) && not (any_of (λ i. names b (item_at d.nscp.bytes i)) 23)

-- a block of a run that is no service block, or not there
abbrev pub no_service : Directory → Option ℕ → Bool
no_service d None = true
no_service d (Some b) = not (service_block d b)

-- a slot is wrong by itself: number 0000, length 0, a run that leaves the card or the service blocks
unfoldable pub slot_wrong : Directory → Slot → Bool
slot_wrong d s =
    (s.number == 0) || s.run.length == 0 || not (on_card s.run.start.0 s.run.length)
    || any_of (λ k. no_service d (run_block s.run.start.0 s.run.length k)) s.run.length

-- the entry is a slot with this number
abbrev pub number_is : ℕ → Option Slot → Bool
number_is n None = false
number_is n (Some s) = s.number == n

-- a slot is wrong by itself, or an earlier one has its number
abbrev pub wrong_slot_as : Directory → ℕ → Option Slot → Bool
wrong_slot_as d i None = false
wrong_slot_as d i (Some s) = slot_wrong d s || any_of (λ j. number_is s.number (slot_at d.services.bytes j)) i

unfoldable pub wrong_slot : Directory → ℕ → Bool
wrong_slot d i = wrong_slot_as d i (slot_at d.services.bytes i)

-- two used slots whose runs have a block in common
abbrev pub share : Option Slot → Option Slot → Bool
share None t = false
share (Some s) None = false
share (Some s) (Some t) = runs_meet s.run.start.0 s.run.length t.run.start.0 t.run.length

-- a slot has a block in common with an earlier one
unfoldable pub shares_earlier : List ℕ → ℕ → Bool
shares_earlier services i = any_of (λ j. share (slot_at services i) (slot_at services j)) i

-- the lower of two places
abbrev pub lower : Option ℕ → Option ℕ → Option ℕ
lower None b = b
lower (Some a) None = Some a
lower (Some a) (Some b) = Some (min a b)

-- the lowest wrong slot decides, for whatever reason it is wrong
abbrev pub first_slot_judged : Option ℕ → Answer (Unit {0})
first_slot_judged = first_judged ServicesSlot

-- the three bytes of the header are 00
abbrev pub header_clear : List ℕ → Bool
header_clear services = slice_index services 1 == 0 && slice_index services 2 == 0 && slice_index services 3 == 0

-- the header, and then the slots
abbrev pub slots_judged : Directory → Answer (Unit {0})
slots_judged d =
    cond (header_clear d.services.bytes) (first_slot_judged (lower (lowest_of (wrong_slot d) 11) (lowest_of (shares_earlier d.services.bytes) 11))) (refuse ServicesSlot 0)

-- the entry is a slot whose run has the block
abbrev pub holds_block : ℕ → Option Slot → Bool
holds_block b None = false
holds_block b (Some s) = runs_meet s.run.start.0 s.run.length b 1

-- a service block in no slot's run
unfoldable pub free_block : Directory → ℕ → Bool
free_block d b = service_block d b && not (any_of (λ i. holds_block b (slot_at d.services.bytes i)) 11)

-- how many there are
abbrev pub free_blocks : Directory → ℕ
free_blocks d = count_of (free_block d) 256
