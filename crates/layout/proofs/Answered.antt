-- Answers that are no refusals. Assumes nothing.
use Rattle.std.proofs.Common.{◌≡◌, Ok, Err, refl, arith}
use Rattle.layout.specs.Refusals.{Answer, then}

-- an answer that is no refusal has one before it
pub then_ok : {X Y : Type 0} (a : Answer X) (k : X → Answer Y) (y : Y) → then a k ≡ Ok y → (x : X) × (a ≡ Ok x) × (k x ≡ Ok y)
then_ok (Ok x) k y e = (x, refl, e)
then_ok (Err r) k y e = grind arith
