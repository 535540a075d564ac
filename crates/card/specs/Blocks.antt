-- What a card holds. Assumes nothing.
use Rattle.std.specs.Prelude.{◌≡◌, ℕ, ◌+◌, ◌*◌, cond, List, map, length, ◌==◌, slice_index}
use Rattle.std.specs.List.{range_with_len}
use Rattle.std.proofs.lemmas.List.FromFn.{length-map-range_with_len}

-- a block's number to its sixteen bytes
abbrev pub Blocks : Type 0
Blocks = ℕ → List ℕ

-- the blocks with one of them replaced
abbrev pub put : Blocks → ℕ → List ℕ → Blocks
put blocks at new b = cond (b == at) new (blocks b)

-- the list of the first sixteen values of a function
unfoldable pub sixteen : (ℕ → ℕ) → List ℕ
sixteen f = map f (range_with_len 0 16)

pub length_sixteen : (f : ℕ → ℕ) → length (sixteen f) ≡ 16
unfolding sixteen
length_sixteen f = length-map-range_with_len f 0 16

-- the blocks of an image: block b is the sixteen bytes from 16 × b on
abbrev pub blocks_of : List ℕ → Blocks
blocks_of image b = sixteen (λ i. slice_index image (16 * b + i))
