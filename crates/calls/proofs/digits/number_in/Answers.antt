use Rattle.std.proofs.Common.{ap, ◌∙◌, rules}
use Rattle.calls.specs.Digits.{one_more, number_in}
use Rattle.calls.proofs.Tried.{try_fold_is}
use Rattle.calls.proofs.digits.number_in.Goals as goal

pub returns : goal.returns
returns c =
    try_fold_is (one_more c.args.base) _ _ _ (λ a x v q k. search rules) _ _ _ _ c.try_fold.ensures.ran ∙ ap (number_in c.args.base) c.iter.ensures.rest
