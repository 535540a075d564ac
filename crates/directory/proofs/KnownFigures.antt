-- The known figures, by computation. Assumes nothing.
use Rattle.std.proofs.Common.{refl}
use Rattle.layout.specs.Blocks.{rank_of, data_block}
use Rattle.layout.specs.Crc.{round, rounds, stepped}
use Rattle.layout.specs.Runs.{run_block, on_card, runs_meet}
use Rattle.directory.specs.Checks.{check_look}
use Rattle.directory.specs.Entries.{entry_at}
use Rattle.directory.specs.Figures.{Known}
use Rattle.directory.specs.Nscp.{wrong_item}
use Rattle.directory.specs.Reads.{run_touches}
use Rattle.directory.specs.Searches.{any_of, count_of, lowest_of}
use Rattle.directory.specs.Slots.{service_block, slot_wrong, wrong_slot, shares_earlier, free_block}

pub known : Known
unfolding rank_of data_block round rounds stepped run_block on_card runs_meet check_look entry_at wrong_item run_touches any_of count_of lowest_of service_block slot_wrong wrong_slot shares_earlier free_block
known = record {
  empty = refl;
  blocks_a = refl;
  blocks_b = refl;
  blocks_c = refl;
  blocks_d = refl;
  blocks_e = refl;
  slot = refl;
  free = refl;
  order = refl;
}
