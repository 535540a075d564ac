use Rattle.std.proofs.Common.{rules}
use Rattle.service.proofs.Counting.{progress_done, progress_wrong}
use Rattle.service.proofs.objects.count_objects.Goals as goal

pub returns-in_err-object-clause-value : goal.returns-in_err-object-clause-value
returns-in_err-object-clause-value c =
    search (rules, progress_wrong c.args.content.now c.loop-object.object-iterator.at c.loop-object.count c.in_err-object.field-0.0 c.loop-object.invariant.3)

pub returns-clause-value : goal.returns-clause-value
returns-clause-value c =
    progress_done c.args.content.now c.loop-object.object-iterator.at c.loop-object.count c.loop-object.invariant.3 (search rules)
