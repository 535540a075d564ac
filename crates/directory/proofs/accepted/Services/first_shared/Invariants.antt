use Rattle.std.proofs.Common.{◌≡◌, false, None}
use Rattle.directory.specs.Entries.{slot_at}
use Rattle.directory.specs.Searches.{any_of, lowest_of}
use Rattle.directory.specs.Slots.{share, shares_earlier}
use Rattle.directory.proofs.accepted.Services.first_shared.Given as goal

abbrev pub invariant-loop-i : goal.invariant-loop-i
invariant-loop-i l = lowest_of (shares_earlier l.self.bytes) l.i ≡ None

abbrev pub invariant-loop-j : goal.invariant-loop-j
invariant-loop-j l = (lowest_of (shares_earlier l.self.bytes) l.i ≡ None) × (any_of (λ j. share (slot_at l.self.bytes l.i) (slot_at l.self.bytes j)) l.j ≡ false)
