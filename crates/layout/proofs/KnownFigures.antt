-- The known figures, by computation. Assumes nothing.
use Rattle.std.proofs.Common.{refl}
use Rattle.layout.specs.Blocks.{rank_of, data_block}
use Rattle.layout.specs.Crc.{round, rounds, stepped}
use Rattle.layout.specs.Figures.{Known}
use Rattle.layout.specs.Runs.{run_block}

pub known : Known
unfolding round rounds stepped rank_of data_block run_block
known = record {
  mad = refl;
  digits = refl;
  first = refl;
  second = refl;
  ended = refl;
  small = refl;
  between = refl;
  large = refl;
  last = refl;
}
