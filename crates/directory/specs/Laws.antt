-- What holds of the directory check on any card, above its definition. Assumes nothing.
use Rattle.std.specs.Prelude.{◌≡◌, ℕ, List, [], ◌∷◌, Some, Ok}
use Rattle.std.specs.List.{slice_get}
use Rattle.layout.specs.Blocks.{first_of}
use Rattle.layout.specs.Differ.{Bytes, DifferInOne}
use Rattle.layout.specs.Profiles.{mad_of}
use Rattle.layout.specs.Refusals.{refuse}
use Rattle.layout.specs.declared.profiles.Profile.{Profile}
use Rattle.layout.specs.declared.refusals.Reason.TheVariants.{MadChecksum, NscpChecksum, ServicesChecksum}
use Rattle.card.specs.Blocks.{Blocks, put}
use Rattle.directory.specs.Checks.{reads, verdict}
use Rattle.directory.specs.Reads.{run_touches}
use Rattle.directory.specs.declared.accepted.Directory.{Directory}

-- two cards have the same bytes in some blocks
abbrev pub Agree : List ℕ → Blocks → Blocks → Type 0
Agree [] blocks other = Unit {0}
Agree (b ∷ bs) blocks other = (blocks b ≡ other b) × Agree bs blocks other

-- the blocks that the check reads decide: a card that agrees in them is read alike and has the same verdict
abbrev pub ReadsDecide : Profile → Type 0
ReadsDecide p =
    (blocks other : Blocks) → Agree (reads p blocks) blocks other → (reads p other ≡ reads p blocks) × (verdict p other ≡ verdict p blocks)

-- a block of a directory: one of the n from its start on
pub record BlockOf (start n at : ℕ) : Type 0 where
  pub place : ℕ
  pub there : slice_get (run_touches start n) place ≡ Some at

-- the verdict on a card where one byte of a directory was altered: that directory's checksum
pub record Altered (p : Profile) (d : Directory) (at : ℕ) (after : Blocks) : Type 0 where
  pub mad : BlockOf (mad_of p).run.start.0 (mad_of p).run.length at → verdict p after ≡ refuse MadChecksum (mad_of p).run.start.0
  pub nscp : BlockOf (first_of d.nscp.sector.0) 3 at → verdict p after ≡ refuse NscpChecksum (first_of d.nscp.sector.0)
  pub services : BlockOf d.services.block.0 3 at → verdict p after ≡ refuse ServicesChecksum d.services.block.0

-- one altered byte of an accepted directory, its checksum included, meets its checksum refusal
abbrev pub OneAlteredByte : Profile → Type 0
OneAlteredByte p =
    (blocks : Blocks) (d : Directory) (at : ℕ) (new : List ℕ) → ((b : ℕ) → Bytes (blocks b)) → Bytes new → verdict p blocks ≡ Ok d
    → DifferInOne (blocks at) new → Altered p d at (put blocks at new)
