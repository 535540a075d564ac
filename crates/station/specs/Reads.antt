-- Reading a service's data: which blocks are read, what they say, and what the buffer holds after. Assumes nothing.
use Rattle.std.specs.Prelude.{◌≡◌, ℕ, ◌*◌, cond, List, length, take, drop, Ok, nat_le}
use Rattle.layout.specs.Buffers.{overlaid}
use Rattle.layout.specs.Refusals.{Answer, then, refuse}
use Rattle.layout.specs.declared.profiles.Profile.{Profile}
use Rattle.layout.specs.declared.refusals.Reason.TheVariants.{BufferLength}
use Rattle.card.specs.Blocks.{Blocks}
use Rattle.card.specs.declared.interface.Card.{Ghosts as CardKind}
use Rattle.directory.specs.Checks.{check_look, reads}
use Rattle.directory.specs.Looks.{Look, judged, then_look, Taken}
use Rattle.directory.specs.Reads.{run_touches, touch_look, joined}
use Rattle.directory.specs.declared.accepted.Directory.{Directory}
use Rattle.service.specs.Frames.{Held, frame_of}
use Rattle.station.specs.Finds.{readable, found_in}
use Rattle.station.specs.declared.frame.Reading.{Reading}
use Rattle.station.specs.declared.search.Found.{Found}

-- a buffer for a run of n blocks has 16 × n bytes at least
abbrev pub room_judged : ℕ → ℕ → Answer (Unit {0})
room_judged n room = cond (nat_le (16 * n) room) (Ok tt) (refuse BufferLength (16 * n))

-- what a frame says to the caller
abbrev pub reading : Held → Reading
reading f = record { tag = f.tag; start = f.start; length = length f.content; objects = f.objects }

-- the frame in the bytes of a run
abbrev pub reading_in : List ℕ → Answer Reading
reading_in run = then (frame_of run) (λ f. Ok (reading f))

-- the blocks of a found run
abbrev pub touches_of : Found → List ℕ
touches_of f = run_touches f.run.start.0 f.run.length

-- the run is read and its frame judged
abbrev pub run_look : Blocks → Found → Look Reading
run_look blocks f = then_look (touch_look (touches_of f) blocks) (λ _. judged (reading_in (joined blocks (touches_of f))))

-- the service is found, and then the buffer is long enough
abbrev pub room_for : Directory → ℕ → ℕ → Answer Found
room_for d number room = then (found_in d number) (λ f. then (room_judged f.run.length room) (λ _. Ok f))

-- what follows the directory check
abbrev pub after_check : ℕ → ℕ → Blocks → Directory → Look Reading
after_check number room blocks d = then_look (judged (room_for d number room)) (run_look blocks)

-- the number is judged first, then the card; the service is found, and its run read and judged
unfoldable pub read_look : Profile → ℕ → ℕ → Blocks → Look Reading
read_look p number room blocks = then_look (judged (readable number)) (λ _. then_look (check_look p blocks) (after_check number room blocks))

-- of so many blocks that were read, those that come after the check's: the run's
abbrev pub run_read : Profile → ℕ → ℕ → Blocks → ℕ → List ℕ
run_read p number room blocks stay = drop (length (reads p blocks)) (take stay (read_look p number room blocks).touches)

-- a service was read from a card of any kind into a buffer: its front holds the blocks of the run that the card stayed for
pub record ReadDone {C : Type 0} (kind : CardKind C) (p : Profile) (number : ℕ) (card later : C) (before after : List ℕ) (r : Answer Reading) : Type 0 where
  pub taken : Taken kind (read_look p number (length before)) card later r
  pub buffer : after ≡ overlaid (joined (kind.blocks card) (run_read p number (length before) (kind.blocks card) taken.looked.stay)) before
