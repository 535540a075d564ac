use Rattle.std.proofs.Common.{◌≡◌, string_bytes}
use Rattle.listing.specs.Records.{lines_of}
use Rattle.listing.proofs.slot_lines.Given as goal

abbrev pub invariant-loop-i : goal.invariant-loop-i
invariant-loop-i l = string_bytes l.text ≡ lines_of l.directory.services.bytes l.i
