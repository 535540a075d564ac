use Rattle.std.proofs.Common.{length}
use Rattle.desk.proofs.options.Options.from_words.Given as goal

abbrev pub decreases-loop-name : goal.decreases-loop-name
decreases-loop-name l = length l.rest
