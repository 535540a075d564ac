use Rattle.std.proofs.Common.{◌≡◌, string_bytes}
use Rattle.full_listing.specs.Records.{lines_of}
use Rattle.full_listing.specs.Steadily.{Still}
use Rattle.full_listing.proofs.services.slot_lines.Given as goal

abbrev pub invariant-loop-i : goal.invariant-loop-i
invariant-loop-i g l =
    let k = g.C.Card in
    Still k l.initial.station l.station
    × (k.steady l.initial.station.card → string_bytes l.text ≡ lines_of l.initial.station.profile (k.blocks l.initial.station.card) l.directory l.i)
