-- Finding a service by its number. Assumes nothing.
use Rattle.std.specs.Prelude.{ℕ, ◌+◌, cond, List, [], ◌∷◌, Some, None, Ok, Option, ◌==◌}
use Rattle.std.specs.List.{list_any}
use Rattle.layout.specs.Refusals.{Answer, refuse}
use Rattle.layout.specs.declared.profiles.Profile.{Profile}
use Rattle.layout.specs.declared.refusals.Reason.TheVariants.{ServiceNumber, ServiceAbsent}
use Rattle.card.specs.Blocks.{Blocks}
use Rattle.directory.specs.Checks.{check_look}
use Rattle.directory.specs.Entries.{slot_at}
use Rattle.directory.specs.Looks.{Look, judged, then_look}
use Rattle.directory.specs.Searches.{lowest_of}
use Rattle.directory.specs.Slots.{number_is}
use Rattle.directory.specs.declared.accepted.Directory.{Directory}
use Rattle.directory.specs.declared.entries.Slot.{Slot}
use Rattle.station.specs.declared.search.Found.{Found}

-- a number that a call takes: none of those that it does not
abbrev pub number_judged : List ℕ → ℕ → Answer (Unit {0})
number_judged excepted number = cond (list_any (λ n. n == number) excepted) (refuse ServiceNumber 0) (Ok tt)

-- 0000 is no service
abbrev pub findable : ℕ → Answer (Unit {0})
findable = number_judged (0x0000 ∷ [])

-- nor has 9999 data of its own
abbrev pub readable : ℕ → Answer (Unit {0})
readable = number_judged (0x0000 ∷ 0x9999 ∷ [])

-- slot i, counted from 0, as an answer counts it: from 1, with its run
abbrev pub slot_found : ℕ → Option Slot → Answer Found
slot_found i None = refuse ServiceAbsent 0
slot_found i (Some s) = Ok (record { slot = i + 1; run = s.run })

abbrev pub found_at : Directory → Option ℕ → Answer Found
found_at d None = refuse ServiceAbsent 0
found_at d (Some i) = slot_found i (slot_at d.services.bytes i)

-- the first slot with a number
unfoldable pub found_in : Directory → ℕ → Answer Found
found_in d number = found_at d (lowest_of (λ i. number_is number (slot_at d.services.bytes i)) 11)

-- the number is judged first, then the card, then the search is made
abbrev pub find_look : Profile → ℕ → Blocks → Look Found
find_look p number blocks = then_look (judged (findable number)) (λ _. then_look (check_look p blocks) (λ d. judged (found_in d number)))
