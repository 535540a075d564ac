-- The plan of a card that leaves once, and what each call makes of it. Assumes nothing.
use Rattle.std.specs.Prelude.{◌≡◌, ℕ, zero, suc, Bool, true, false, cond, List, Ok, Err, Result}
use Rattle.card.specs.Blocks.{Blocks, put, blocks_of}
use Rattle.card.specs.declared.interface.Gone.{Gone}
use Rattle.card.specs.declared.interface.Laid.{Laid}
use Rattle.card.specs.declared.interface.Laid.TheVariants.{Yes, No}
use Rattle.card.specs.declared.tear.Phase.{Phase}
use Rattle.card.specs.declared.tear.Phase.TheVariants.{Here, Away, Back}
use Rattle.card.specs.declared.tear.Plan.{Plan}
use Rattle.card.specs.declared.tear.TearCard.{TearCard}
use Rattle.card.specs.declared.tear.Torn.{Torn}
use Rattle.card.specs.declared.tear.Torn.TheVariants.{Old, New, Other}

-- it is on the reader before it goes, and when it is back
abbrev pub is_on : Phase → Bool
is_on (Here n) = true
is_on (Away n) = false
is_on Back = true

-- whether a read or a write is answered
abbrev pub is_answered : Phase → Bool
is_answered (Here zero) = false
is_answered (Here (suc n)) = true
is_answered (Away n) = false
is_answered Back = true

-- where a read or a write leads: the last answer used up, the card goes
abbrev pub touched : Plan → Phase → Phase
touched p (Here zero) = Away p.refusals
touched p (Here (suc n)) = Here n
touched p (Away n) = Away n
touched p Back = Back

-- what a torn write leaves of the old bytes and the new
abbrev pub torn_bytes : Torn → List ℕ → List ℕ → List ℕ
torn_bytes Old old new = old
torn_bytes New old new = new
torn_bytes (Other bytes) old new = bytes

-- what a write leaves in its block
abbrev pub left_bytes : Plan → Phase → List ℕ → List ℕ → List ℕ
left_bytes p (Here zero) old new = torn_bytes p.torn old new
left_bytes p (Here (suc n)) old new = new
left_bytes p (Away n) old new = old
left_bytes p Back old new = new

-- what a lay answers, and where it leads: after its refusals the card is back for good
abbrev pub laid_answer : Phase → Laid
laid_answer (Here n) = Yes
laid_answer (Away zero) = Yes
laid_answer (Away (suc n)) = No
laid_answer Back = Yes

abbrev pub laid_phase : Phase → Phase
laid_phase (Here n) = Here n
laid_phase (Away zero) = Back
laid_phase (Away (suc n)) = Away n
laid_phase Back = Back

-- the blocks of its image
abbrev pub tear_blocks : TearCard → Blocks
tear_blocks card = blocks_of card.image.now

-- it has been away and is back: it leaves no more
abbrev pub Stays : TearCard → Type 0
Stays card = card.phase ≡ Back

-- what the plan says of a read
pub record ReadByPlan (before after : TearCard) (at : ℕ) (answer : Result (List ℕ) Gone) : Type 0 where
  pub plan : after.plan ≡ before.plan
  pub phase : after.phase ≡ touched before.plan before.phase
  pub blocks : tear_blocks after ≡ tear_blocks before
  pub says : answer ≡ cond (is_answered before.phase) (Ok (tear_blocks before at)) (Err (record {}))

-- what the plan says of a write
pub record WriteByPlan (before after : TearCard) (at : ℕ) (new : List ℕ) (answer : Result (Unit {0}) Gone) : Type 0 where
  pub plan : after.plan ≡ before.plan
  pub phase : after.phase ≡ touched before.plan before.phase
  pub blocks : tear_blocks after ≡ put (tear_blocks before) at (left_bytes before.plan before.phase (tear_blocks before at) new)
  pub says : answer ≡ cond (is_answered before.phase) (Ok tt) (Err (record {}))

-- what the plan says of a lay
pub record LayByPlan (before after : TearCard) (answer : Laid) : Type 0 where
  pub plan : after.plan ≡ before.plan
  pub phase : after.phase ≡ laid_phase before.phase
  pub blocks : tear_blocks after ≡ tear_blocks before
  pub says : answer ≡ laid_answer before.phase
