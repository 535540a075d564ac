-- What every card does: what its answers say of its blocks and of its presence, before and after. Assumes nothing.
use Rattle.std.specs.Prelude.{◌≡◌, ℕ, Bool, true, false, cond, List, length, Ok, Err, Result}
use Rattle.card.specs.Blocks.{Blocks, put}
use Rattle.card.specs.declared.interface.Gone.{Gone}
use Rattle.card.specs.declared.interface.Laid.{Laid}
use Rattle.card.specs.declared.interface.Laid.TheVariants.{Yes, No}

-- a block was read: the card was on and is, and nothing changed
pub record Read (before : Blocks) (on : Bool) (after : Blocks) (still : Bool) (at : ℕ) (bytes : List ℕ) : Type 0 where
  pub was : on ≡ true
  pub is : still ≡ true
  pub same : after ≡ before
  pub value : bytes ≡ before at

-- a read was not answered: the card is off, and nothing changed
pub record NotRead (before : Blocks) (after : Blocks) (still : Bool) : Type 0 where
  pub off : still ≡ false
  pub same : after ≡ before

-- what a read's answer says
abbrev pub ReadSays : Blocks → Bool → Blocks → Bool → ℕ → Result (List ℕ) Gone → Type 0
ReadSays before on after still at (Ok bytes) = Read before on after still at bytes
ReadSays before on after still at (Err gone) = NotRead before after still

-- a block was written: the card was on and is, and that block alone is the new one
pub record Written (before : Blocks) (on : Bool) (after : Blocks) (still : Bool) (at : ℕ) (new : List ℕ) : Type 0 where
  pub was : on ≡ true
  pub is : still ≡ true
  pub wrote : after ≡ put before at new

-- a write was not answered: the card is off; if it was on, that block alone holds some sixteen bytes
pub record NotWritten (before : Blocks) (on : Bool) (after : Blocks) (still : Bool) (at : ℕ) : Type 0 where
  pub off : still ≡ false
  pub torn : List ℕ
  pub whole : length torn ≡ 16
  pub left : after ≡ cond on (put before at torn) before

-- what a write's answer says
abbrev pub WriteSays : Blocks → Bool → Blocks → Bool → ℕ → List ℕ → Result (Unit {0}) Gone → Type 0
WriteSays before on after still at new (Ok done) = Written before on after still at new
WriteSays before on after still at new (Err gone) = NotWritten before on after still at

-- the lay's answer is yes
abbrev pub is_yes : Laid → Bool
is_yes Yes = true
is_yes No = false

-- after a lay the card is on exactly if it says yes, with the blocks that it had
pub record LaySays (before : Blocks) (after : Blocks) (still : Bool) (answer : Laid) : Type 0 where
  pub is : still ≡ is_yes answer
  pub same : after ≡ before
