use Rattle.std.proofs.Common.{◌≡◌, sym, arith}
use Rattle.directory.specs.Slots.{shares_earlier}
use Rattle.directory.proofs.Searching.{any_here, lowest_here, lowest_past}
use Rattle.directory.proofs.accepted.Services.first_shared.Goals as goal

pub loop-i-preserved : goal.loop-i-preserved
unfolding shares_earlier
loop-i-preserved c =
    let all : c.loop-j.j ≡ c.loop-i.i = omega arith in
    lowest_past (shares_earlier c.args.self.now.bytes) c.loop-i.i c.loop-j.invariant.0 (rw all at c.loop-j.invariant.1)

pub returns-then-do_share : goal.returns-then-do_share
unfolding shares_earlier
returns-then-do_share c =
    sym (lowest_here (shares_earlier c.args.self.now.bytes) 11 c.loop-i.i c.loop-i-test.true c.loop-j.invariant.0
    (any_here _ c.loop-i.i c.loop-j.j c.loop-j-test.true (sym c.if-do_share.ensures)))
