-- The objects of a content: by walking, and by the grammar. Assumes nothing.
use Rattle.std.proofs.Common.{◌≡◌, ℕ, zero, suc, ◌+◌, ◌<◌, ◌≤◌, Bool, true, false, eqb, List, [], ◌∷◌, ◌++◌, length, drop, Some, None, Ok, Err, Option, sym, refl, ap, ◌∙◌, subst, arith, length-append, length-drop}
use Rattle.std.proofs.lemmas.List.{drop_all}
use Rattle.std.proofs.lemmas.Bool.{cond-true, cond-false, eqb-true, eqb-false, ne_eqb}
use Rattle.service.specs.Grammar.{ObjectIs, ContentIs}
use Rattle.service.specs.Laws.{WalkOver, Walked, ContentExact}
use Rattle.service.specs.Objects.{Fields, Met, Objects, object_at, or_wrong, next_object, before, before_rest, objects_from}
use Rattle.service.proofs.ObjectForms.{ObjectFound, object_complete, object_sound}
use Rattle.service.proofs.Offsets.{after_front, front_inside}

module _ (xs : List ℕ) where
  pub at_end : (turns at : ℕ) → at ≡ length xs → objects_from (suc turns) xs at ≡ Ok []
  unfolding objects_from
  at_end turns at e = grind arith

  pub at_more : (turns at : ℕ) → (at ≡ length xs → ⊥) → objects_from (suc turns) xs at ≡ before_rest (objects_from turns xs) at (object_at xs at)
  unfolding objects_from
  at_more turns at ne = grind arith

  -- one object before a walk
  walk_before : (at : ℕ) (m : Met) (r : Objects) → next_object xs at ≡ Ok (Some m) → WalkOver xs m.next r → WalkOver xs at (before m.object r)
  walk_before at m (Ok os) meets on = record { next = m.next; meets = meets; on = on }
  walk_before at m (Err wrong) meets on = (m.object ∷ on.0, record { next = m.next; meets = meets; on = on.1 })

  module _ (turns at : ℕ) where
    walk_object : (o : Option Met) → (at ≡ length xs → ⊥) → object_at xs at ≡ o → ((m : Met) → ObjectFound xs at m → WalkOver xs m.next (objects_from turns xs m.next)) → WalkOver xs at (before_rest (objects_from turns xs) at o)
    walk_object None ne is on = ([], cond-false _ _ _ (ne_eqb at _ ne) ∙ ap (or_wrong at) is)
    walk_object (Some m) ne is on =
        walk_before at m (objects_from turns xs m.next) (cond-false _ _ _ (ne_eqb at _ ne) ∙ ap (or_wrong at) is) (on m (object_sound xs at m is))

    walk_turn : (end : Bool) → eqb at (length xs) ≡ end → ((m : Met) → ObjectFound xs at m → WalkOver xs m.next (objects_from turns xs m.next)) → WalkOver xs at (objects_from (suc turns) xs at)
    walk_turn true e on = subst (WalkOver xs at) (sym (at_end turns at (eqb-true _ _ e))) (cond-true _ _ _ e)
    walk_turn false e on =
        let ne = eqb-false _ _ e in
        subst (WalkOver xs at) (sym (at_more turns at ne)) (walk_object (object_at xs at) ne refl on)

  walk_from : (turns at : ℕ) → at ≤ length xs → length xs < turns + at → WalkOver xs at (objects_from turns xs at)
  walk_from zero at within enough = absurd (omega arith)
  walk_from (suc turns) at within enough =
      walk_turn turns at (eqb at (length xs)) refl (λ m f. walk_from turns m.next f.inside (omega (arith, f.up)))

  pub walked : Walked xs
  walked = walk_from (length xs + 1) 0 (omega arith) (omega arith)

  content_end : (turns at : ℕ) (os : List Fields) → at ≡ length xs → objects_from (suc turns) xs at ≡ Ok os → ContentIs os (drop at xs)
  content_end turns at [] last e = drop_all at xs (omega arith)
  content_end turns at (o ∷ os) last e = let n = at_end turns at last in grind arith

  module _ (turns at : ℕ) where
    content_before : (m : Met) (r : Objects) (os : List Fields) → ObjectFound xs at m → before m.object r ≡ Ok os → ((rest : List Fields) → r ≡ Ok rest → ContentIs rest (drop m.next xs)) → ContentIs os (drop at xs)
    content_before m (Err wrong) os f e on = grind arith
    content_before m (Ok rest) os f e on =
        let is : m.object ∷ rest ≡ os = cc in
        subst (λ l. ContentIs l (drop at xs)) is (record { front = f.front; rest = drop m.next xs; first = f.is; others = on rest refl; all = f.there })

    content_object : (o : Option Met) (os : List Fields) → object_at xs at ≡ o → before_rest (objects_from turns xs) at o ≡ Ok os
        → ((m : Met) → ObjectFound xs at m → (rest : List Fields) → objects_from turns xs m.next ≡ Ok rest → ContentIs rest (drop m.next xs)) → ContentIs os (drop at xs)
    content_object None os is e on = grind arith
    content_object (Some m) os is e on = let f = object_sound xs at m is in content_before m (objects_from turns xs m.next) os f e (on m f)

    content_turn : (end : Bool) (os : List Fields) → eqb at (length xs) ≡ end → objects_from (suc turns) xs at ≡ Ok os
        → ((m : Met) → ObjectFound xs at m → (rest : List Fields) → objects_from turns xs m.next ≡ Ok rest → ContentIs rest (drop m.next xs)) → ContentIs os (drop at xs)
    content_turn true os e is on = content_end turns at os (eqb-true _ _ e) is
    content_turn false os e is on = content_object (object_at xs at) os refl (sym (at_more turns at (eqb-false _ _ e)) ∙ is) on

  content_sound : (turns at : ℕ) (os : List Fields) → objects_from turns xs at ≡ Ok os → ContentIs os (drop at xs)
  unfolding objects_from
  content_sound zero at os e = grind arith
  content_sound (suc turns) at os e = content_turn turns at (eqb at (length xs)) os refl e (λ m f rest. content_sound turns m.next rest)

  object_long : (o : Fields) (front : List ℕ) → ObjectIs o front → 0 < length front
  object_long o front is = omega (arith, ap length is.all, length-append is.tag (is.size ++ (o.format ∷ o.bytes)), length-append is.size (o.format ∷ o.bytes))

  content_complete : (os : List Fields) (turns at : ℕ) → at ≤ length xs → length xs < turns + at → ContentIs os (drop at xs) → objects_from turns xs at ≡ Ok os
  content_complete os zero at within enough is = absurd (omega arith)
  content_complete [] (suc turns) at within enough is = at_end turns at (omega (arith, length-drop at xs, ap length is))
  content_complete (o ∷ os) (suc turns) at within enough is =
      let some = object_long o is.front is.first in
      let inside = front_inside xs at is.front is.rest within is.all in
      let next = at + length is.front in
      let ne : at ≡ length xs → ⊥ = λ e. omega arith in
      let rest = content_complete os turns next inside (omega arith) (subst (ContentIs os) (sym (after_front xs at is.front is.rest is.all)) is.others) in
      at_more turns at ne
      ∙ ap (before_rest (objects_from turns xs) at) (object_complete xs at o is.front is.rest within is.first is.all)
      ∙ ap (before o) rest

  pub content_exact : ContentExact xs
  content_exact = record {
    sound = λ os e. content_sound (length xs + 1) 0 os e;
    complete = λ os is. content_complete os (length xs + 1) 0 (omega arith) (omega arith) is;
  }
