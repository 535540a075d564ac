-- How the first parts of a card are judged: the trailer of its application directory, and then that directory. Assumes nothing.
use Rattle.std.specs.Prelude.{ℕ, cond, List, replicate, Ok, ◌==◌, slice_index}
use Rattle.layout.specs.Buffers.{overlaid}
use Rattle.layout.specs.Profiles.{mad_of}
use Rattle.layout.specs.Refusals.{refuse, Answer}
use Rattle.layout.specs.declared.profiles.Profile.{Profile}
use Rattle.layout.specs.declared.refusals.Reason.{Reason}
use Rattle.layout.specs.declared.refusals.Reason.TheVariants.{GeneralPurposeByte, MadChecksum}
use Rattle.card.specs.Blocks.{Blocks}
use Rattle.directory.specs.Looks.{Look, judged, then_look}
use Rattle.directory.specs.Reads.{block_look, run_touches, touch_look, joined}
use Rattle.directory.specs.Seals.{sealed}

-- byte 9 of the trailer, counted from 0, is the profile's general purpose byte
abbrev pub trailer_judged : Profile → List ℕ → Answer (Unit {0})
trailer_judged p bytes =
    cond (slice_index bytes 9 == (mad_of p).general_purpose_byte) (Ok tt) (refuse GeneralPurposeByte (mad_of p).trailer.0)

-- the trailer is read and judged
abbrev pub trailer_look : Profile → Blocks → Look (Unit {0})
trailer_look p blocks = then_look (block_look (mad_of p).trailer.0 blocks) (λ bytes. judged (trailer_judged p bytes))

-- the bytes of a directory: its blocks one after another
abbrev pub directory_bytes : ℕ → ℕ → Blocks → List ℕ
directory_bytes start n blocks = joined blocks (run_touches start n)

-- a directory's bytes, at the front of 48
abbrev pub padded : List ℕ → List ℕ
padded bytes = overlaid bytes (replicate 48 0)

-- a directory without its seal is refused, at its first block
abbrev pub seal_judged : Reason → ℕ → List ℕ → Answer (List ℕ)
seal_judged why start bytes = cond (sealed bytes) (Ok (padded bytes)) (refuse why start)

-- a directory is read, and its seal judged
abbrev pub sealed_look : Reason → ℕ → ℕ → Blocks → Look (List ℕ)
sealed_look why start n blocks = then_look (touch_look (run_touches start n) blocks) (λ _. judged (seal_judged why start (directory_bytes start n blocks)))

-- the trailer of the application directory, and then that directory
abbrev pub mad_look : Profile → Blocks → Look (List ℕ)
mad_look p blocks = then_look (trailer_look p blocks) (λ _. sealed_look MadChecksum (mad_of p).run.start.0 (mad_of p).run.length blocks)
