-- What stands at an offset of some bytes, and after it. Assumes nothing.
use Rattle.std.proofs.Common.{◌≡◌, ℕ, ◌+◌, ◌<◌, ◌≤◌, List, ◌∷◌, ◌++◌, length, get_or, take, drop, sym, refl, ap, ◌∙◌, add-zero, arith, length-append, length-drop}
use Rattle.std.proofs.lemmas.List.{get_or-drop, drop-drop, drop_at, take_at, take-append-drop}
use Rattle.std.specs.List.{between}

-- a byte stands at an offset, and these after it
pub record Here (xs : List ℕ) (at x : ℕ) (rest : List ℕ) : Type 0 where
  pub inside : at < length xs
  pub byte : get_or xs at 0 ≡ x
  pub more : drop (at + 1) xs ≡ rest

module _ (xs : List ℕ) (at : ℕ) where
  pub here : (x : ℕ) (rest : List ℕ) → drop at xs ≡ x ∷ rest → Here xs at x rest
  here x rest e = record {
    inside = omega (arith, length-drop at xs, ap length e);
    byte = ap (λ n. get_or xs n 0) (sym (add-zero at)) ∙ sym (get_or-drop at xs 0 0) ∙ ap (λ ys. get_or ys 0 0) e;
    more = sym (drop-drop 1 at xs) ∙ ap (drop 1) e;
  }

  -- some bytes stand at an offset, and others after them
  pub after_front : (front rest : List ℕ) → drop at xs ≡ front ++ rest → drop (at + length front) xs ≡ rest
  after_front front rest e = sym (drop-drop (length front) at xs) ∙ ap (drop (length front)) e ∙ drop_at front rest _ refl

  pub front_inside : (front rest : List ℕ) → at ≤ length xs → drop at xs ≡ front ++ rest → at + length front ≤ length xs
  front_inside front rest within e = omega (arith, length-drop at xs, length-append front rest, ap length e)

  pub front_between : (n : ℕ) (front rest : List ℕ) → n ≡ length front → drop at xs ≡ front ++ rest → between at (at + n) xs ≡ front
  front_between n front rest long e =
      ap (λ k. take k (drop at xs)) (omega arith) ∙ ap (take n) e ∙ take_at front rest n (sym long)

  -- the bytes between two offsets, and those after them
  pub split_between : (n : ℕ) → drop at xs ≡ between at (at + n) xs ++ drop (at + n) xs
  split_between n =
      sym (take-append-drop n (drop at xs))
      ∙ ap (λ k. take k (drop at xs) ++ drop n (drop at xs)) (omega arith)
      ∙ ap (λ r. between at (at + n) xs ++ r) (drop-drop n at xs)
