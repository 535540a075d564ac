-- The frame of service data: how a run is judged, and what is written into one. Assumes nothing.
use Rattle.std.specs.Prelude.{ℕ, ◌+◌, ◌-◌, ◌*◌, ◌/◌, ◌%◌, Bool, cond, not, ◌&&◌, ◌||◌, List, [], ◌∷◌, ◌++◌, length, take, drop, replicate, Some, None, Ok, Err, Option, ◌==◌, nat_le, slice_index}
use Rattle.std.specs.List.{between, position}
use Rattle.layout.specs.Crc.{crc16}
use Rattle.layout.specs.Refusals.{Answer, then, refuse}
use Rattle.layout.specs.declared.refusals.Reason.TheVariants.{DataFrame, DataChecksum, DataPadding, OuterTag, NewContent}
use Rattle.service.specs.Grammar.{covered}
use Rattle.service.specs.Lengths.{short_length, length_at}
use Rattle.service.specs.Objects.{objects_of, counted}
use Rattle.service.specs.declared.frames.Frame.{Frame}
use Rattle.service.specs.declared.frames.Header.{Header}
use Rattle.service.specs.declared.lengths.Length.{Length}

-- a frame that was read: its outer tag, the offset of its content, that content, and how many objects it has
pub record Held : Type 0 where
  pub tag : ℕ
  pub start : ℕ
  pub content : List ℕ
  pub objects : ℕ

abbrev pub frame_seen : Answer Frame → Answer Held
frame_seen (Ok f) = Ok (record { tag = f.tag; start = f.start; content = f.content.now; objects = f.objects })
frame_seen (Err e) = Err e

-- the two outer tags
abbrev pub outer : ℕ → Bool
outer tag = tag == 0xE0 || tag == 0x65

-- where the content begins and ends, by its length
abbrev pub content_at : ℕ → Option Length → Answer Header
content_at tag None = refuse DataFrame 1
content_at tag (Some l) = Ok (record { tag = tag; start = l.after; end = l.after + l.count })

-- the outer tag and the length
abbrev pub header_of : List ℕ → Answer Header
header_of run = cond (nat_le (length run) 0) (refuse DataFrame 0) (cond (outer (slice_index run 0)) (content_at (slice_index run 0) (length_at run 1)) (refuse DataFrame 0))

-- the mark C0 02 and two bytes more stand at an offset
abbrev pub marked : List ℕ → ℕ → Bool
marked run end = nat_le (end + 4) (length run) && (slice_index run end == 0xC0 && slice_index run (end + 1) == 0x02)

-- the two bytes after the mark are the checksum of all before them
abbrev pub sum_right : List ℕ → ℕ → Bool
sum_right run end = slice_index run (end + 2) * 256 + slice_index run (end + 3) == crc16 (take (end + 2) run)

-- the end of the content: first the mark, then the checksum
abbrev pub end_judged : List ℕ → ℕ → Answer (Unit {0})
end_judged run end = cond (marked run end) (cond (sum_right run end) (Ok tt) (refuse DataChecksum (end + 2))) (refuse DataFrame end)

-- a byte that is not 00
abbrev pub used : ℕ → Bool
used byte = not (byte == 0)

-- no such byte was found from an offset on, or the first of them so many places after it
abbrev pub none_used : ℕ → Option ℕ → Answer (Unit {0})
none_used from None = Ok tt
none_used from (Some after) = refuse DataPadding (from + after)

-- what follows the checksum is 00 to the end; refused at the first byte that is not
abbrev pub padding_judged : List ℕ → ℕ → Answer (Unit {0})
padding_judged run from = none_used from (position used (drop from run))

-- the objects of the content, and then the padding
abbrev pub content_in : List ℕ → Header → Answer Held
content_in run h =
    then (counted (objects_of (between h.start h.end run))) (λ n.
    then (padding_judged run (h.end + 4)) (λ _.
    Ok (record { tag = h.tag; start = h.start; content = between h.start h.end run; objects = n })))

-- the frame in a run: header, end, objects and padding, in this order
unfoldable pub frame_in : List ℕ → Header → Answer Held
frame_in run h = then (end_judged run h.end) (λ _. content_in run h)

abbrev pub frame_of : List ℕ → Answer Held
frame_of run = then (header_of run) (frame_in run)

-- how many bytes stand before the content, written with the shorter length
abbrev pub header_size : ℕ → ℕ
header_size c = cond (nat_le c 0x7F) 2 3

-- how many blocks c content bytes take: header, content, mark and checksum, rounded up to whole blocks
abbrev pub blocks_for : ℕ → ℕ
blocks_for c = (header_size c + c + 4 + 15) / 16

-- service data up to its checksum
abbrev pub summed : List ℕ → List ℕ
summed bytes = bytes ++ (crc16 bytes / 256 ∷ crc16 bytes % 256 ∷ [])

-- the bytes of a run that are written for an outer tag and a content
unfoldable pub frame_bytes : ℕ → List ℕ → List ℕ
frame_bytes tag content =
    summed (covered tag (short_length (length content)) content) ++ replicate (16 * blocks_for (length content) - (header_size (length content) + length content + 4)) 0

-- new content has no wrong object
abbrev pub objects_judged : Answer ℕ → Answer (Unit {0})
objects_judged (Ok n) = Ok tt
objects_judged (Err wrong) = refuse NewContent wrong.place

-- what is to be written: the tag is judged first, then the content's length, then its objects
abbrev pub write_judged : ℕ → List ℕ → Answer (Unit {0})
write_judged tag content =
    cond (outer tag) (cond (nat_le (length content) 255) (objects_judged (counted (objects_of content))) (refuse NewContent 255)) (refuse OuterTag 0)
