-- A `try_fold` over a slice, whose closure gives `step` of the value so far and the next item, gives the fold of `step`. Assumes nothing.
use Rattle.std.proofs.Common.{◌≡◌, ℕ, List, [], ◌∷◌, length, Iter, Option, Some, None, MatchOption, fold, option_and_then, refl, sym, ap, ◌∙◌, subst, arith}
use Rattle.std.specs.ControlFlow.{continue_value}
use Rattle.std.specs.Fn.{Called}
use Rattle.std.specs.Iterator.{Yields, TryFoldTurn, TryFoldsItems}
use Rattle.std.specs.List.{FoldsTo}
use Rattle.std.specs.Slice.Iter.{iter_rest}
use Rattle.std.specs.declared.ops.ControlFlow.{ControlFlow}
use Rattle.std.proofs.iter.Yields.{fronts}
use Rattle.std.proofs.lemmas.List.Folds.{fold_stays}
use denote.Param.Members.{Mut}
use denote.Ref.{Bor}

module _ (step : ℕ → ℕ → Option ℕ) where
  -- from a value so far over the items that are left
  abbrev along : Option ℕ → List ℕ → Option ℕ
  along = fold (λ so_far x. option_and_then (λ a. step a x) so_far)

  stopped : (xs : List ℕ) → along None xs ≡ None
  stopped xs = fold_stays (λ so_far x. option_and_then (λ a. step a x) so_far) None (λ x. refl) xs

  ended : (a : ℕ) (xs : List ℕ) → length xs ≡ 0 → along (Some a) xs ≡ Some a
  ended a [] e = refl
  ended a (x ∷ xs) e = absurd (omega arith)

  module _ {F : Type 0} (E : Type 0) (g : Mut F (ℕ × (Bor ℕ × Unit {0})) (Option ℕ)) (f : F) (gives : (a : ℕ) (x : Bor ℕ) (v : Option ℕ) (q : F) → Called g f (a, (x, tt)) v q → (q ≡ f) × (v ≡ step a x.now)) where
    abbrev goes_on : Option ℕ → ControlFlow E ℕ → Type 0
    goes_on v flow = v ≡ continue_value flow

    -- over the items that came
    went : (xs : List (Bor ℕ)) (s t : Iter ℕ) (a b : ℕ) (q : F) → Yields fronts s xs t → FoldsTo (TryFoldTurn g goes_on) (f, a) xs (q, b)
        → (q ≡ f) × (along (Some a) (iter_rest s) ≡ along (Some b) (iter_rest t))
    went [] s t a b q y c = (sym (ap (λ p. p.0) c), ap (λ v. along (Some v) (iter_rest s)) (ap (λ p. p.1) c) ∙ ap (λ u. along (Some b) (iter_rest u)) y)
    went (x ∷ xs) s t a b q (j, at, y) ((p, v), (r, called, goes), c) =
        let told = gives a x r p called in
        let on = went xs j t v b q y (subst (λ k. FoldsTo (TryFoldTurn g goes_on) (k, v) xs (q, b)) told.0 c) in
        (on.0, ap (along (Some a)) at ∙ ap (λ o. along o (iter_rest j)) (sym told.1 ∙ goes) ∙ on.1)

    finished : (t u : Iter ℕ) (o : Option (Bor ℕ)) (b : ℕ) (r : Option ℕ) → fronts t o u
        → MatchOption o (r ≡ Some b) (λ x. (v : Option ℕ) × (h : F) × (e : E) × Called g f (b, (x, tt)) v h × (v ≡ None) × (r ≡ None))
        → r ≡ along (Some b) (iter_rest t)
    finished t u None b r at h = h ∙ sym (ended b (iter_rest t) at.0)
    finished t u (Some x) b r at (v, k, e, called, none, none') =
        none' ∙ sym (ap (along (Some b)) at ∙ ap (λ o. along o (iter_rest u)) (sym (gives b x v k called).1 ∙ none) ∙ stopped (iter_rest u))

    pub try_fold_is : (s u : Iter ℕ) (a : ℕ) (r : Option ℕ) → TryFoldsItems fronts g goes_on (λ _ v. v ≡ None) s f a r u → r ≡ along (Some a) (iter_rest s)
    try_fold_is s u a r (xs, o, q, b, (t, y, at), c, h) =
        let on = went xs s t a b q y c in
        finished t u o b r at (subst (λ k. MatchOption o (r ≡ Some b) (λ x. (v : Option ℕ) × (h : F) × (e : E) × Called g k (b, (x, tt)) v h × (v ≡ None) × (r ≡ None))) on.0 h) ∙ sym on.1
