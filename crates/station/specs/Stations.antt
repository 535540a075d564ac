-- A station and its card. Assumes nothing.
use Rattle.station.specs.declared.station.Station.{Station}

-- the same station, with its card as it is now
abbrev pub with_card : {C : Type 0} → Station C → C → Station C
with_card s later = record { profile = s.profile; card = later; number = s.number; last_job = s.last_job }
