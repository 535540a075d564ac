-- What follows the checksum of service data: it is right exactly if it is all 00. Assumes nothing.
use Rattle.std.proofs.Common.{◌≡◌, ℕ, ◌<◌, ◌≤◌, Bool, true, false, cond, not, ltb, List, length, get_or, replicate, Some, None, Ok, sym, refl, ap, ◌∙◌, arith, ext_get_or}
use Rattle.std.proofs.Math.Bool.{not-not}
use Rattle.std.proofs.lemmas.List.{length-replicate, get_or-replicate}
use Rattle.std.proofs.lemmas.List.Folds.{prefix_len-replicate}
use Rattle.std.proofs.lemmas.List.Sums.{prefix_len_passes}
use Rattle.std.proofs.lemmas.Bool.{cond-false, eqb-true, ltb-false, le-ltb}
use Rattle.std.specs.List.{position, position_or_len}
use Rattle.service.specs.Frames.{used, none_used}

pub unused_complete : (n from : ℕ) → none_used from (position used (replicate n 0)) ≡ Ok tt
unused_complete n from =
    let zeros : List ℕ = replicate n 0 in
    let all : position_or_len used zeros ≡ n = prefix_len-replicate (λ x. not (used x)) n 0 refl in
    let none : length zeros ≤ position_or_len used zeros = omega (arith, all, length-replicate {A = ℕ} n 0) in
    ap (none_used from) (cond-false _ _ _ (le-ltb _ _ none))

pub unused_sound : (ys : List ℕ) (from : ℕ) → none_used from (position used ys) ≡ Ok tt → ys ≡ replicate (length ys) 0
unused_sound ys from e = by_test (ltb (position_or_len used ys) (length ys)) refl e
  where
    by_test : (some : Bool) → ltb (position_or_len used ys) (length ys) ≡ some → none_used from (cond some (Some (position_or_len used ys)) None) ≡ Ok tt → ys ≡ replicate (length ys) 0
    by_test true t e = grind arith
    by_test false t e =
        ext_get_or 0 ys (replicate (length ys) 0) (sym (length-replicate (length ys) 0))
        (λ k h. clear k (omega (arith, ltb-false _ _ t)) ∙ sym (get_or-replicate (length ys) k 0 0 h))
      where
        clear : (k : ℕ) → k < position_or_len used ys → get_or ys k 0 ≡ 0
        clear k h = eqb-true _ _ (sym (not-not _) ∙ prefix_len_passes (λ x. not (used x)) ys k 0 h)
