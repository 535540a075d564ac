-- The record that the lister prints of a card image. Assumes nothing.
use Rattle.std.specs.Prelude.{ℕ, zero, suc, Bool, false, List, [], ◌++◌, is_ok, Some, None, Ok, Err, codes, Option}
use Rattle.std.specs.Option.{ok_or}
use Rattle.layout.specs.Images.{image_of}
use Rattle.layout.specs.Profiles.{letter_of, profile_of}
use Rattle.layout.specs.Refusals.{number_of, refusal, Answer, then}
use Rattle.layout.specs.declared.refusals.Reason.TheVariants.{ProfileLetter}
use Rattle.card.specs.Blocks.{blocks_of}
use Rattle.directory.specs.Checks.{verdict}
use Rattle.directory.specs.Entries.{slot_at}
use Rattle.directory.specs.Slots.{free_blocks}
use Rattle.directory.specs.declared.accepted.Directory.{Directory}
use Rattle.directory.specs.declared.entries.Slot.{Slot}
use Rattle.text.specs.Lines.{profile_line, refused_line, free_line, slot_words}
use Rattle.listing.specs.declared.Listing.{Listing}

-- the size of the image is judged first, then the letter, then the card
abbrev pub listed : List ℕ → List ℕ → Answer Listing
listed letter bytes =
    then (image_of bytes) (λ image. then (ok_or (profile_of letter) (refusal ProfileLetter 0)) (λ p.
    Ok (record { profile = p; verdict = verdict p (blocks_of image) })))

-- neither the input nor the card is refused
abbrev pub accepted : Answer Listing → Bool
accepted (Ok l) = is_ok l.verdict
accepted (Err r) = false

-- `1234 0C 01`: number, start and length
unfoldable pub slot_line : Slot → List ℕ
slot_line s = slot_words s ++ codes "\n"

-- a line for a used slot
abbrev pub slot_lines : Option Slot → List ℕ
slot_lines None = []
slot_lines (Some s) = slot_line s

-- the lines of the first n slots, in order
unfoldable pub lines_of : List ℕ → ℕ → List ℕ
lines_of services zero = []
lines_of services (suc n) = lines_of services n ++ slot_lines (slot_at services n)

-- what is said of a card: the used slots and how many blocks are free, or why it is refused
abbrev pub verdict_lines : Answer Directory → List ℕ
verdict_lines (Ok d) = lines_of d.services.bytes 11 ++ free_line (free_blocks d)
verdict_lines (Err r) = refused_line (number_of r.reason)

abbrev pub card_record : Listing → List ℕ
card_record l = profile_line (letter_of l.profile) ++ verdict_lines l.verdict

-- the whole record: what is said of a card, or the one line of a refused input
abbrev pub record_of : Answer Listing → List ℕ
record_of (Ok l) = card_record l
record_of (Err r) = refused_line (number_of r.reason)
