-- Counting the objects of a content, one turn after another. Assumes nothing.
use Rattle.std.proofs.Common.{◌≡◌, ℕ, zero, suc, ◌+◌, ◌<◌, ◌≤◌, List, length, Some, None, Ok, Err, sym, refl, ap, ◌∙◌, add-one, zero-add, arith}
use Rattle.layout.specs.Refusals.{Answer, refuse}
use Rattle.layout.specs.declared.refusals.Reason.TheVariants.{DataObject}
use Rattle.layout.specs.declared.refusals.Refusal.{Refusal}
use Rattle.service.specs.Objects.{Fields, Met, Objects, object_at, next_object, before, objects_from, objects_of, counted}
use Rattle.service.proofs.Contents.{at_end, at_more}
use Rattle.service.proofs.ObjectForms.{object_sound}

-- so many and these
abbrev counted_from : ℕ → Objects → Answer ℕ
counted_from n (Ok os) = Ok (n + length os)
counted_from n (Err at) = refuse DataObject at

counted_all : (r : Objects) → counted_from 0 r ≡ counted r
counted_all (Ok os) = ap (λ k. Ok k) (zero-add (length os))
counted_all (Err at) = refl

-- so many objects lie before an offset, and the count of those after it gives the count of all
pub record Progress (xs : List ℕ) (at n : ℕ) : Type 0 where
  pub few : n ≤ at
  pub within : at ≤ length xs
  pub turns : ℕ
  pub enough : length xs ≤ turns + at
  pub left : counted_from n (objects_from (suc turns) xs at) ≡ counted (objects_of xs)

pub progress_none : (xs : List ℕ) → Progress xs 0 0
progress_none xs = record { few = omega arith; within = omega arith; turns = length xs; enough = omega arith; left = ap (λ t. counted_from 0 (objects_from t xs 0)) (sym (add-one (length xs))) ∙ counted_all (objects_of xs) }

-- one object more is counted before the others
counted_before : (n : ℕ) (o : Fields) (r : Objects) → counted_from n (before o r) ≡ counted_from (n + 1) r
counted_before n o (Ok os) = ap (λ k. Ok k) (omega arith)
counted_before n o (Err at) = refl

module _ (xs : List ℕ) (at : ℕ) where
  -- what the next object says of where the turn stands
  met : (m : Met) → next_object xs at ≡ Ok (Some m) → (object_at xs at ≡ Some m) × (at ≡ length xs → ⊥)
  met m e = (grind arith, λ end. grind arith)

  ended : next_object xs at ≡ Ok None → at ≡ length xs
  ended e = grind arith

  wrong : (r : Refusal) → next_object xs at ≡ Err r → (object_at xs at ≡ None) × (at ≡ length xs → ⊥) × (Err r ≡ refuse {X = ℕ} DataObject at)
  wrong r e = (grind arith, λ end. grind arith, grind arith)

-- an object that is met ends behind the offset, and within the content
pub record Nearer (xs : List ℕ) (at next : ℕ) : Type 0 where
  pub up : at < next
  pub inside : next ≤ length xs

pub next_met : (xs : List ℕ) (at : ℕ) (m : Met) → next_object xs at ≡ Ok (Some m) → Nearer xs at m.next
next_met xs at m e = let f = object_sound xs at m (met xs at m e).0 in record { up = f.up; inside = f.inside }

-- and nothing is refused at the end
pub next_wrong : (xs : List ℕ) (at : ℕ) (r : Refusal) → next_object xs at ≡ Err r → at ≡ length xs → ⊥
next_wrong xs at r e = (wrong xs at r e).1

module _ (xs : List ℕ) (at n : ℕ) where
  pub progress_done : Progress xs at n → next_object xs at ≡ Ok None → Ok n ≡ counted (objects_of xs)
  progress_done p e = grind (arith, at_end xs p.turns at (ended xs at e), p.left)

  pub progress_wrong : (r : Refusal) → Progress xs at n → next_object xs at ≡ Err r → Err r ≡ counted (objects_of xs)
  progress_wrong r p e = let w = wrong xs at r e in grind (arith, at_more xs p.turns at w.1, w.0, w.2, p.left)

  pub progress_more : (m : Met) → Progress xs at n → next_object xs at ≡ Ok (Some m) → Progress xs m.next (n + 1)
  progress_more m p e = by_turns p.turns p.enough p.left
    where
      by_turns : (turns : ℕ) → length xs ≤ turns + at → counted_from n (objects_from (suc turns) xs at) ≡ counted (objects_of xs) → Progress xs m.next (n + 1)
      by_turns zero enough left = let w = next_met xs at m e in absurd (omega (arith, w.up, w.inside))
      by_turns (suc turns) enough left =
          let w = met xs at m e in
          let f = next_met xs at m e in
          record {
            few = omega (arith, p.few, f.up);
            within = f.inside;
            turns = turns;
            enough = omega (arith, f.up);
            left = grind (arith, counted_before n m.object (objects_from (suc turns) xs m.next), at_more xs (suc turns) at w.1, w.0, left);
          }
