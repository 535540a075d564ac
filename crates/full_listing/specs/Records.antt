-- The fuller record of a card image, with its services read. Assumes nothing.
use Rattle.std.specs.Prelude.{ℕ, zero, suc, Bool, false, List, [], ◌++◌, is_ok, Some, None, Ok, Err, codes, decimal, Option}
use Rattle.std.specs.Option.{ok_or}
use Rattle.layout.specs.Images.{image_of}
use Rattle.layout.specs.Profiles.{letter_of, profile_of}
use Rattle.layout.specs.Refusals.{number_of, refusal, Answer, then}
use Rattle.layout.specs.declared.profiles.Profile.{Profile}
use Rattle.layout.specs.declared.refusals.Reason.TheVariants.{ProfileLetter}
use Rattle.card.specs.Blocks.{Blocks, blocks_of}
use Rattle.directory.specs.Checks.{verdict}
use Rattle.directory.specs.Entries.{slot_at}
use Rattle.directory.specs.Slots.{free_blocks}
use Rattle.directory.specs.declared.accepted.Directory.{Directory}
use Rattle.directory.specs.declared.entries.Slot.{Slot}
use Rattle.station.specs.Reads.{read_look}
use Rattle.station.specs.declared.frame.Reading.{Reading}
use Rattle.text.specs.Hex.{hex_byte}
use Rattle.text.specs.Lines.{profile_line, refused_line, free_line, slot_words}
use Rattle.full_listing.specs.declared.input.Input.{Input}

-- the size of the image is judged first, then the letter
abbrev pub input_of : List ℕ → List ℕ → Answer Input
input_of letter bytes =
    then (image_of bytes) (λ image. then (ok_or (profile_of letter) (refusal ProfileLetter 0)) (λ p. Ok (record { profile = p; image = image })))

-- `E0 1`, the outer tag and how many objects there are; or why the service cannot be read
abbrev pub reading_words : Answer Reading → List ℕ
reading_words (Ok r) = hex_byte r.tag ++ (codes " " ++ (decimal r.objects ++ codes "\n"))
reading_words (Err e) = refused_line (number_of e.reason)

-- `1234 0C 01 E0 1`, or `1234 0C 01 refused 14`
abbrev pub service_line : Slot → Answer Reading → List ℕ
service_line s r = slot_words s ++ (codes " " ++ reading_words r)

-- what a station that stays answers to the reading of a service, into a buffer that holds any run
abbrev pub reading_of : Profile → Blocks → ℕ → Answer Reading
reading_of p blocks number = (read_look p number 4096 blocks).answer

-- the line of a slot; none if it is unused
abbrev pub slot_line : Profile → Blocks → Option Slot → List ℕ
slot_line p blocks None = []
slot_line p blocks (Some s) = service_line s (reading_of p blocks s.number)

-- the lines of the first n slots, in order
unfoldable pub lines_of : Profile → Blocks → Directory → ℕ → List ℕ
lines_of p blocks d zero = []
lines_of p blocks d (suc n) = lines_of p blocks d n ++ slot_line p blocks (slot_at d.services.bytes n)

-- what is said of a card: the used slots and how many blocks are free, or why it is refused
abbrev pub verdict_lines : Profile → Blocks → Answer Directory → List ℕ
verdict_lines p blocks (Ok d) = lines_of p blocks d 11 ++ free_line (free_blocks d)
verdict_lines p blocks (Err r) = refused_line (number_of r.reason)

abbrev pub card_record : Profile → Blocks → List ℕ
card_record p blocks = profile_line (letter_of p) ++ verdict_lines p blocks (verdict p blocks)

-- the whole record: what is said of a card, or the one line of a refused input
abbrev pub record_for : Answer Input → List ℕ
record_for (Ok i) = card_record i.profile (blocks_of i.image)
record_for (Err r) = refused_line (number_of r.reason)

abbrev pub record_of : List ℕ → List ℕ → List ℕ
record_of letter bytes = record_for (input_of letter bytes)

-- neither the input nor the card is refused
abbrev pub accepted_for : Answer Input → Bool
accepted_for (Ok i) = is_ok (verdict i.profile (blocks_of i.image))
accepted_for (Err r) = false

abbrev pub accepted : List ℕ → List ℕ → Bool
accepted letter bytes = accepted_for (input_of letter bytes)
