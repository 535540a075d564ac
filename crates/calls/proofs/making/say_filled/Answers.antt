use Rattle.std.proofs.Common.{◌≡◌, ℕ, take, replicate, arith}
use Rattle.std.proofs.lemmas.List.{take-replicate}
use Rattle.calls.proofs.making.say_filled.Goals as goal

pub returns : goal.returns
returns g c =
    let filled : take c.args.room (replicate 65535 0xEE) ≡ replicate {A = ℕ} c.args.room 0xEE = take-replicate c.args.room 65535 0xEE (omega arith) in
    rw (← filled, ← c.from.ensures) c.say_read.ensures
