-- Which blocks are read for what, and where their bytes go. Assumes nothing.
use Rattle.std.specs.Prelude.{◌≡◌, ℕ, ◌*◌, cond, ◌&&◌, List, [], ◌∷◌, ◌++◌, map, take, Ok, nat_le}
use Rattle.std.specs.List.{range_with_len}
use Rattle.std.specs.Option.{unwrap_or}
use Rattle.layout.specs.Buffers.{overlaid}
use Rattle.layout.specs.Refusals.{Answer}
use Rattle.layout.specs.Runs.{run_block, on_card}
use Rattle.card.specs.Blocks.{Blocks}
use Rattle.card.specs.declared.interface.Card.{Ghosts as CardKind}
use Rattle.directory.specs.Looks.{Look, Taken}

-- one block
abbrev pub block_look : ℕ → Blocks → Look (List ℕ)
block_look b blocks = record { touches = b ∷ []; answer = Ok (blocks b) }

-- the blocks of a run, in order
unfoldable pub run_touches : ℕ → ℕ → List ℕ
run_touches start n = map (λ i. unwrap_or (run_block start n i) 0) (range_with_len 0 n)

-- what a buffer of so many bytes can be filled from: a run that is on the card and not longer; else nothing is read
abbrev pub run_reads : ℕ → ℕ → ℕ → List ℕ
run_reads start n room = cond (on_card start n && nat_le (16 * n) room) (run_touches start n) []

-- some blocks are read, and nothing is judged
abbrev pub touch_look : List ℕ → Blocks → Look (Unit {0})
touch_look touches blocks = record { touches = touches; answer = Ok tt }

-- the bytes of some blocks, one after another
abbrev pub joined : Blocks → List ℕ → List ℕ
joined blocks [] = []
joined blocks (b ∷ bs) = blocks b ++ joined blocks bs

-- blocks were read into a buffer: its front holds those that the card stayed for
pub record Filled {C : Type 0} (kind : CardKind C) (touches : List ℕ) (card later : C) (before after : List ℕ) (r : Answer (Unit {0})) : Type 0 where
  pub taken : Taken kind (touch_look touches) card later r
  pub front : after ≡ overlaid (joined (kind.blocks card) (take taken.looked.stay touches)) before
