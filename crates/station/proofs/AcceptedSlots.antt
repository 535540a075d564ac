-- The runs of an accepted directory's slots lie on the card. Assumes nothing.
use Rattle.std.proofs.Common.{◌≡◌, ℕ, ◌<◌, true, false, Some, None, Ok, Option, sym, refl, ap, subst, arith}
use Rattle.layout.specs.Runs.{on_card}
use Rattle.layout.specs.declared.profiles.Profile.{Profile}
use Rattle.layout.specs.declared.refusals.Reason.TheVariants.{ServicesChecksum}
use Rattle.layout.proofs.Answered.{then_ok}
use Rattle.card.specs.Blocks.{Blocks}
use Rattle.directory.specs.Checks.{together, check_look, nscp_look, verdict}
use Rattle.directory.specs.Entries.{slot_at}
use Rattle.directory.specs.Judged.{mad_look, sealed_look}
use Rattle.directory.specs.Searches.{lowest_of}
use Rattle.directory.specs.Services.{services_judged}
use Rattle.directory.specs.Slots.{slot_wrong, wrong_slot_as, wrong_slot, slots_judged, number_is}
use Rattle.directory.specs.declared.accepted.Directory.{Directory}
use Rattle.directory.specs.declared.entries.Slot.{Slot}
use Rattle.directory.proofs.Searching.{lowest_all, lowest_some}
use Rattle.station.specs.Finds.{slot_found, found_at, found_in}
use Rattle.station.specs.declared.search.Found.{Found}

-- the slots of an accepted card were judged
slots_judged_lem : (p : Profile) (blocks : Blocks) (d : Directory) → verdict p blocks ≡ Ok d → slots_judged d ≡ Ok tt
unfolding check_look
slots_judged_lem p blocks d e =
    let mad = then_ok (mad_look p blocks).answer _ d e in
    let nscp = then_ok (nscp_look p mad.0 blocks).answer _ d mad.2 in
    let place = then_ok (services_judged p mad.0 nscp.0.sector.0 nscp.0.bytes) _ d nscp.2 in
    let bytes = then_ok (sealed_look ServicesChecksum place.0.0 3 blocks).answer _ d place.2 in
    let whole = together p mad.0 nscp.0 place.0 bytes.0 in
    let last = then_ok (slots_judged whole) (λ _. Ok whole) d bytes.2 in
    let is : whole ≡ d = let k = last.2 in cc in
    subst (λ k. slots_judged k ≡ Ok tt) is last.1

none_wrong : (d : Directory) → slots_judged d ≡ Ok tt → lowest_of (wrong_slot d) 11 ≡ None
none_wrong d e = grind arith

slot_on_card : (d : Directory) (i : ℕ) (s : Slot) → wrong_slot d i ≡ false → slot_at d.services.bytes i ≡ Some s → on_card s.run.start.0 s.run.length ≡ true
unfolding wrong_slot slot_wrong
slot_on_card d i s right is = grind (arith, ap (wrong_slot_as d i) (sym is))

-- a service that was found on an accepted card
pub found_on_card : (p : Profile) (blocks : Blocks) (d : Directory) (number : ℕ) (f : Found) → verdict p blocks ≡ Ok d → found_in d number ≡ Ok f → on_card f.run.start.0 f.run.length ≡ true
unfolding found_in
found_on_card p blocks d number f e found = by_place (lowest_of (λ i. number_is number (slot_at d.services.bytes i)) 11) refl found
  where
    by_slot : (i : ℕ) (o : Option Slot) → i < 11 → slot_at d.services.bytes i ≡ o → slot_found i o ≡ Ok f → on_card f.run.start.0 f.run.length ≡ true
    by_slot i None h is found = grind arith
    by_slot i (Some s) h is found = grind (arith, slot_on_card d i s (lowest_all (wrong_slot d) 11 (none_wrong d (slots_judged_lem p blocks d e)) i h) is)

    by_place : (o : Option ℕ) → lowest_of (λ i. number_is number (slot_at d.services.bytes i)) 11 ≡ o → found_at d o ≡ Ok f → on_card f.run.start.0 f.run.length ≡ true
    by_place None is found = grind arith
    by_place (Some i) is found = by_slot i (slot_at d.services.bytes i) (lowest_some _ 11 i is).0 refl found
