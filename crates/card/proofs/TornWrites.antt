-- The write that is broken off. Assumes nothing.
use Rattle.std.proofs.Common.{◌≡◌, ℕ, zero, suc, false, arith}
use Rattle.card.specs.Tears.{is_answered}
use Rattle.card.specs.declared.tear.Phase.{Phase}
use Rattle.card.specs.declared.tear.Phase.TheVariants.{Here}

-- a card that is here and does not answer has no answers left
pub none_left : (p : Phase) (n : ℕ) → p ≡ Here n → is_answered p ≡ false → p ≡ Here 0
none_left p zero here no_answer = here
none_left p (suc n) here no_answer = grind arith
