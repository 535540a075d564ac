-- What holds of reading and writing service data, above the definitions. Assumes nothing.
use Rattle.std.specs.Prelude.{◌≡◌, ℕ, ◌+◌, ◌*◌, ◌<◌, ◌≤◌, ◌⊎◌, List, [], ◌∷◌, length, Some, None, Ok, Err, Option}
use Rattle.layout.specs.Differ.{Bytes, DifferInOne}
use Rattle.layout.specs.Refusals.{Answer, refuse}
use Rattle.layout.specs.declared.refusals.Reason.TheVariants.{DataFrame, DataChecksum, DataObject}
use Rattle.service.specs.Frames.{Held, frame_of, header_size, blocks_for, frame_bytes, write_judged}
use Rattle.service.specs.Grammar.{ContentIs, RunHolds}
use Rattle.service.specs.Lengths.{short_length}
use Rattle.service.specs.Objects.{Fields, Met, Objects, next_object, objects_of, counted}

-- a call of next object at an offset meets this object, and goes on from the offset after it
pub record Step (xs : List ℕ) (at : ℕ) (o : Fields) (On : ℕ → Type 0) : Type 0 where
  pub next : ℕ
  pub meets : next_object xs at ≡ Ok (Some (record { object = o; next = next }))
  pub on : On next

-- calls of next object from an offset on meet these objects, and then this answer
abbrev pub Walk : List ℕ → List Fields → Answer (Option Met) → ℕ → Type 0
Walk xs [] last at = next_object xs at ≡ last
Walk xs (o ∷ os) last at = Step xs at o (Walk xs os last)

-- a walk over all of some objects to the end, or to the first wrong one
abbrev pub WalkOver : List ℕ → ℕ → Objects → Type 0
WalkOver xs at (Ok os) = Walk xs os (Ok None) at
WalkOver xs at (Err wrong) = (os : List Fields) × Walk xs os (refuse DataObject wrong) at

-- a walk from the front meets the objects of the content
abbrev pub Walked : List ℕ → Type 0
Walked xs = WalkOver xs 0 (objects_of xs)

-- a content is read as these objects exactly if it consists of them
pub record ContentExact (xs : List ℕ) : Type 0 where
  pub sound : (os : List Fields) → objects_of xs ≡ Ok os → ContentIs os xs
  pub complete : (os : List Fields) → ContentIs os xs → objects_of xs ≡ Ok os

-- by the layout, a run holds what was read of it: outer tag, content and its objects
pub record Holds (run : List ℕ) (f : Held) : Type 0 where
  pub size : List ℕ
  pub start : f.start ≡ 1 + length size
  pub layout : RunHolds f.tag size f.content run
  pub objects : List Fields
  pub content : ContentIs objects f.content
  pub count : f.objects ≡ length objects

-- a run is read as this frame exactly if it holds it
pub record FrameExact (run : List ℕ) : Type 0 where
  pub sound : (f : Held) → frame_of run ≡ Ok f → Holds run f
  pub complete : (f : Held) → Holds run f → frame_of run ≡ Ok f

-- one byte of a run was altered that does not move the frame: the tag, the content, the mark or the checksum
pub record Altered (f : Held) (place : ℕ) (after : List ℕ) : Type 0 where
  pub tag : place ≡ 0 → (frame_of after ≡ refuse DataFrame 0) ⊎ (frame_of after ≡ refuse DataChecksum (f.start + length f.content + 2))
  pub content : f.start ≤ place → place < f.start + length f.content → frame_of after ≡ refuse DataChecksum (f.start + length f.content + 2)
  pub mark : f.start + length f.content ≤ place → place < f.start + length f.content + 2 → frame_of after ≡ refuse DataFrame (f.start + length f.content)
  pub sum : f.start + length f.content + 2 ≤ place → place < f.start + length f.content + 4 → frame_of after ≡ refuse DataChecksum (f.start + length f.content + 2)

abbrev pub OneAlteredByte : List ℕ → Type 0
OneAlteredByte run =
    (f : Held) (after : List ℕ) → Bytes run → Bytes after → frame_of run ≡ Ok f → (d : DifferInOne run after) → Altered f d.place after

-- what is written for a tag and a content is so by the layout, with the shorter length; and it is read back
pub record Written (tag : ℕ) (content : List ℕ) : Type 0 where
  pub holds : RunHolds tag (short_length (length content)) content (frame_bytes tag content)
  pub back : (n : ℕ) → counted (objects_of content) ≡ Ok n → frame_of (frame_bytes tag content) ≡ Ok (record { tag = tag; start = header_size (length content); content = content; objects = n })
  pub long : length (frame_bytes tag content) ≡ 16 * blocks_for (length content)

abbrev pub WriteSound : ℕ → List ℕ → Type 0
WriteSound tag content = write_judged tag content ≡ Ok tt → Written tag content

-- the fewest blocks that hold so many bytes
pub record Fewest (bytes n : ℕ) : Type 0 where
  pub enough : bytes ≤ 16 * n
  pub needed : 16 * n < bytes + 16
