-- Steps of a search. Assumes nothing.
use Rattle.std.proofs.Common.{◌≡◌, ℕ, zero, suc, ◌+◌, ◌-◌, ◌<◌, ◌≤◌, Bool, true, false, ◌++◌, Some, None, suc-add, arith}
use Rattle.std.proofs.lemmas.Grind.{common_steps}
use Rattle.std.proofs.lemmas.List.Folds.{list_any_at, find-append}
use Rattle.std.proofs.lemmas.List.FromFn.{length-range_with_len, get_or-range_with_len}
use Rattle.std.specs.List.{range_with_len, find}
use Rattle.directory.specs.Searches.{any_of, lowest_of}

range_split : (a m n : ℕ) → range_with_len a (m + n) ≡ range_with_len a m ++ range_with_len (a + m) n
range_split a zero n = grind arith
range_split a (suc m) n = let next : a + 1 + m ≡ a + suc m = omega arith in simp (suc-add, range_split (a + 1) m n, next)

module _ (f : ℕ → Bool) where
  -- no more after a place that does not pass
  pub any_past : (n : ℕ) → any_of f n ≡ false → f n ≡ false → any_of f (n + 1) ≡ false
  unfolding any_of
  any_past n none no_here = grind (arith, common_steps, range_split 0 n 1)

  -- a place that passes
  pub any_here : (n i : ℕ) → i < n → f i ≡ true → any_of f n ≡ true
  unfolding any_of
  any_here n i h t = list_any_at f (range_with_len 0 n) i 0 (grind (arith, length-range_with_len)) (grind (arith, get_or-range_with_len))

  -- a search that has found nothing in m places goes on behind them
  after : (m n : ℕ) → find f (range_with_len 0 m) ≡ None → find f (range_with_len 0 (m + n)) ≡ find f (range_with_len m n)
  after m n none = grind (arith, range_split 0 m n, find-append)

  pub lowest_past : (n : ℕ) → lowest_of f n ≡ None → f n ≡ false → lowest_of f (n + 1) ≡ None
  unfolding lowest_of
  lowest_past n none no_here = grind (arith, after n 1 none)

  -- the first that passes is found, however far the search goes on
  pub lowest_here : (n i : ℕ) → i < n → lowest_of f i ≡ None → f i ≡ true → lowest_of f n ≡ Some i
  unfolding lowest_of
  lowest_here n i h none t = let long : n ≡ i + suc (n - i - 1) = omega arith in grind (arith, after i (suc (n - i - 1)) none)

  found_none : (a n : ℕ) → find f (range_with_len a n) ≡ None → (i : ℕ) → a ≤ i → i < a + n → f i ≡ false
  found_none a zero none i low high = absurd (omega arith)
  found_none a (suc n) none i low high = grind (arith, found_none (a + 1) n)

  found_some : (a n i : ℕ) → find f (range_with_len a n) ≡ Some i → (i < a + n) × (f i ≡ true)
  found_some a zero i e = grind arith
  found_some a (suc n) i e = (grind (arith, found_some (a + 1) n i), grind (arith, found_some (a + 1) n i))

  -- what a search that found nothing has passed over
  pub lowest_all : (n : ℕ) → lowest_of f n ≡ None → (i : ℕ) → i < n → f i ≡ false
  unfolding lowest_of
  lowest_all n none i h = found_none 0 n none i (omega arith) (omega arith)

  -- what a search found is a place that passes
  pub lowest_some : (n i : ℕ) → lowest_of f n ≡ Some i → (i < n) × (f i ≡ true)
  unfolding lowest_of
  lowest_some n i e = let p = found_some 0 n i e in (omega (arith, p.0), p.1)
