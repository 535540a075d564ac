-- All known figures: those below, and the sample card's by computation. Assumes nothing.
use Rattle.std.proofs.Common.{refl}
use Rattle.layout.specs.Blocks.{rank_of, data_block}
use Rattle.layout.specs.Crc.{round, rounds, stepped}
use Rattle.layout.specs.Runs.{run_block, on_card, runs_meet}
use Rattle.layout.proofs.KnownFigures.{known as known_memory}
use Rattle.directory.specs.Checks.{check_look}
use Rattle.directory.specs.Entries.{entry_at}
use Rattle.directory.specs.Nscp.{wrong_item}
use Rattle.directory.specs.Reads.{run_touches}
use Rattle.directory.specs.Searches.{any_of, count_of, lowest_of}
use Rattle.directory.specs.Slots.{service_block, slot_wrong, wrong_slot, shares_earlier}
use Rattle.directory.proofs.KnownFigures.{known as known_directories}
use Rattle.service.specs.Frames.{frame_in}
use Rattle.service.specs.Objects.{object_at, objects_from}
use Rattle.service.proofs.KnownFigures.{known as known_data}
use Rattle.station.specs.Figures.{Together}
use Rattle.station.specs.Finds.{found_in}
use Rattle.station.specs.Reads.{read_look}

pub together : Together
unfolding rank_of data_block round rounds stepped run_block on_card runs_meet check_look entry_at wrong_item run_touches any_of count_of lowest_of service_block slot_wrong wrong_slot shares_earlier frame_in object_at objects_from found_in read_look
together = record { memory = known_memory; directories = known_directories; content = known_data; found = refl; read = refl }
