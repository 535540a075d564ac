-- Calls that only read: which blocks they ask for, in which order, and what they answer when the card stays or goes. Assumes nothing.
use Rattle.std.specs.Prelude.{◌≡◌, ℕ, Bool, false, not, ◌&&◌, List, [], ◌++◌, is_some, Some, None, Ok, Err, Option}
use Rattle.std.specs.List.{slice_get}
use Rattle.layout.specs.Refusals.{refuse, Answer, then}
use Rattle.layout.specs.declared.refusals.Reason.TheVariants.{CardGone}
use Rattle.card.specs.Blocks.{Blocks}
use Rattle.card.specs.declared.interface.Card.{Ghosts as CardKind}

-- a look at a card: the blocks to be read, in order, and what they say
pub record Look (X : Type 0) : Type 0 where
  pub touches : List ℕ
  pub answer : Answer X

-- a judgement that reads nothing
abbrev pub judged : {X : Type 0} → Answer X → Look X
judged r = record { touches = []; answer = r }

-- what a second look reads, if the first is no refusal
abbrev pub touches_after : {X Y : Type 0} → Answer X → (X → Look Y) → List ℕ
touches_after (Ok x) next = (next x).touches
touches_after (Err e) next = []

-- one look after another
abbrev pub then_look : {X Y : Type 0} → Look X → (X → Look Y) → Look Y
then_look l next = record {
  touches = l.touches ++ touches_after l.answer next;
  answer = then l.answer (λ x. (next x).answer);
}

-- the block that a card does not answer which stays for so many reads
abbrev pub lost_at : {X : Type 0} → Look X → ℕ → Option ℕ
lost_at l stay = slice_get l.touches stay

-- the answer where no read, or this one, was lost
abbrev pub unless_lost : {X : Type 0} → Option ℕ → Answer X → Answer X
unless_lost None r = r
unless_lost (Some b) r = refuse CardGone b

-- a look was taken at a card: the answer, and the card after it
pub record Looked {X : Type 0} (l : Look X) (before : Blocks) (on : Bool) (after : Blocks) (still : Bool) (r : Answer X) : Type 0 where
  -- how many reads the card stayed for; none if it was off
  pub stay : ℕ
  pub off : on ≡ false → stay ≡ 0
  pub answer : r ≡ unless_lost (lost_at l stay) l.answer
  pub same : after ≡ before
  pub is : still ≡ (on && not (is_some (lost_at l stay)))

-- a look was taken at a card of any kind, by what that kind says of its cards; of a steady card no read was lost
pub record Taken {C X : Type 0} (kind : CardKind C) (l : Blocks → Look X) (card later : C) (r : Answer X) : Type 0 where
  pub looked : Looked (l (kind.blocks card)) (kind.blocks card) (kind.present card) (kind.blocks later) (kind.present later) r
  pub firm : kind.steady card → (r ≡ (l (kind.blocks card)).answer) × kind.steady later
