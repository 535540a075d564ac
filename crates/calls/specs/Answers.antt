-- Answers as text. Assumes nothing.
use Rattle.std.specs.Prelude.{ℕ, Bool, true, false, cond, not, ◌||◌, List, ◌++◌, Ok, Err, codes, decimal, ◌==◌}
use Rattle.std.specs.List.{list_any}
use Rattle.layout.specs.Refusals.{refusal_words, Answer}
use Rattle.layout.specs.declared.refusals.Reason.{Reason}
use Rattle.layout.specs.declared.refusals.Reason.TheVariants.{DataFrame, DataChecksum, DataObject, DataPadding}
use Rattle.layout.specs.declared.refusals.Refusal.{Refusal}
use Rattle.card.specs.declared.interface.Laid.{Laid}
use Rattle.card.specs.declared.interface.Laid.TheVariants.{Yes, No}
use Rattle.station.specs.declared.frame.Reading.{Reading}
use Rattle.station.specs.declared.search.Found.{Found}
use Rattle.text.specs.Hex.{hex_byte, hex_bytes}

-- `slot 1 run 0C 01`: the slot decimal, the run hexadecimal
abbrev pub found_words : Found → List ℕ
found_words f = codes "slot " ++ (decimal f.slot ++ (codes " run " ++ (hex_byte f.run.start.0 ++ (codes " " ++ hex_byte f.run.length))))

abbrev pub find_words : Answer Found → List ℕ
find_words (Ok f) = found_words f
find_words (Err r) = refusal_words r

abbrev pub lay_words : Laid → List ℕ
lay_words Yes = codes "yes"
lay_words No = codes "no"

-- `tag E0 content 2 6 buffer E006..`: the content's start and length decimal
abbrev pub reading_words : Reading → List ℕ → List ℕ
reading_words r buffer =
    codes "tag " ++ (hex_byte r.tag ++ (codes " content " ++ (decimal r.start ++ (codes " " ++ (decimal r.length ++ (codes " buffer " ++ hex_bytes buffer))))))

-- a byte is no longer the EE that it was filled with
abbrev pub touched : List ℕ → Bool
touched buffer = list_any (λ b. not (b == 0xEE)) buffer

-- the refusals of the frame come after a whole run was read into the buffer
abbrev pub of_frame : Reason → Bool
of_frame DataFrame = true
of_frame DataChecksum = true
of_frame DataObject = true
of_frame DataPadding = true
of_frame _ = false

-- ` buffer EEEE..`: the whole buffer in hexadecimal
abbrev pub buffer_words : List ℕ → List ℕ
buffer_words buffer = codes " buffer " ++ hex_bytes buffer

-- a refusal, with the buffer if it was touched
abbrev pub read_refused : Refusal → List ℕ → List ℕ
read_refused r buffer = cond (of_frame r.reason || touched buffer) (refusal_words r ++ buffer_words buffer) (refusal_words r)

abbrev pub read_words : Answer Reading → List ℕ → List ℕ
read_words (Ok r) buffer = reading_words r buffer
read_words (Err r) buffer = read_refused r buffer
