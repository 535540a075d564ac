-- A rule for every number below n, from one test that is computed at each of them. Assumes nothing.
use Rattle.std.proofs.Common.{◌≡◌, ℕ, zero, suc, ◌<◌, Bool, true, false, ◌&&◌, eqb, Some, None, Option, refl, ap}
use Rattle.std.proofs.lemmas.Bool.{eqb-true, false≢true}
use Rattle.std.proofs.lemmas.Bool.Decides.{Decides-below_and}

abbrev pub below : (ℕ → Bool) → ℕ → Bool
below f zero = true
below f (suc n) = f n && below f n

pub at : (f : ℕ → Bool) (n : ℕ) → below f n ≡ true → (k : ℕ) → k < n → f k ≡ true
at f n e = (Decides-below_and f (λ k. f k ≡ true) (below f) (λ k. (λ t. t, λ t. t)) refl (λ _. refl) n).0 e

-- two functions agree below n
pub same_at : (f g : ℕ → ℕ) (n : ℕ) → below (λ k. eqb (f k) (g k)) n ≡ true → (k : ℕ) → k < n → f k ≡ g k
same_at f g n e k h = eqb-true _ _ (at (λ j. eqb (f j) (g j)) n e k h)

-- the option holds this number
abbrev pub holds : Option ℕ → ℕ → Bool
holds None x = false
holds (Some y) x = eqb y x

pub holds_some : (o : Option ℕ) (x : ℕ) → holds o x ≡ true → o ≡ Some x
holds_some None x e = absurd (false≢true e)
holds_some (Some y) x e = ap Some (eqb-true y x e)

-- an option holds what a function gives, at each number below n
pub some_at : (f : ℕ → Option ℕ) (g : ℕ → ℕ) (n : ℕ) → below (λ k. holds (f k) (g k)) n ≡ true → (k : ℕ) → k < n → f k ≡ Some (g k)
some_at f g n e k h = holds_some (f k) (g k) (at (λ j. holds (f j) (g j)) n e k h)
