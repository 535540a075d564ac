use Rattle.std.proofs.Common.{◌≡◌}
use Rattle.service.proofs.Counting.{Progress}
use Rattle.service.proofs.objects.count_objects.Given as goal

abbrev pub invariant-loop-object : goal.invariant-loop-object
invariant-loop-object l =
    (goal.iterator-loop-object).can_next l.object-iterator × (goal.iterator-loop-object).is_finite l.object-iterator
    × (l.object-iterator.content.now ≡ l.content) × Progress l.content l.object-iterator.at l.count
