-- The blocks that a run names. Assumes nothing.
use Rattle.std.proofs.Common.{◌≡◌, ℕ, ◌<◌, length, Some, Option, unwrap_or, arith}
use Rattle.std.proofs.lemmas.List.FromFn.{length-map-range_with_len, get_or-map-range_with_len}
use Rattle.std.proofs.lemmas.Option.{gets}
use Rattle.std.specs.List.{slice_get}
use Rattle.std.specs.Option.{option_map}
use Rattle.layout.specs.Blocks.{to_block}
use Rattle.layout.specs.Runs.{run_block}
use Rattle.layout.specs.declared.numbers.Block.{Block}
use Rattle.directory.specs.Reads.{run_touches}

pub length_touches : (start n : ℕ) → length (run_touches start n) ≡ n
unfolding run_touches
length_touches start n = length-map-range_with_len (λ i. unwrap_or (run_block start n i) 0) 0 n

pub nth_touches : (start n i t : ℕ) → i < n → run_block start n i ≡ Some t → slice_get (run_touches start n) i ≡ Some t
unfolding run_touches
nth_touches start n i t h e =
    grind (arith, gets, length-map-range_with_len, get_or-map-range_with_len)

-- the block that the code has
pub mapped_some : (o : Option ℕ) (b : Block) → option_map to_block o ≡ Some b → o ≡ Some b.0
mapped_some o b e = grind arith
