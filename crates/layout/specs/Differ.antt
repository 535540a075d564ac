-- What a checksum is for. Assumes nothing.
use Rattle.std.specs.Prelude.{◌≡◌, ℕ, ◌<◌, List, length, fold, ◌≢◌, slice_index}
use Rattle.std.specs.List.{AllByRecursion}

-- a string of bytes
abbrev pub Bytes : List ℕ → Type 0
Bytes = AllByRecursion (λ x. x < 256)

-- two strings of one length that differ in exactly one place
pub record DifferInOne (xs ys : List ℕ) : Type 0 where
  pub long : length ys ≡ length xs
  pub place : ℕ
  pub within : place < length xs
  pub there : slice_index ys place ≢ slice_index xs place
  pub elsewhere : (k : ℕ) → (k ≢ place) → slice_index ys k ≡ slice_index xs k

-- one changed byte changes the checksum
abbrev pub OneByteShows : {S : Type 0} → S → (S → ℕ → S) → Type 0
OneByteShows start step =
    (xs ys : List ℕ) → Bytes xs → Bytes ys → DifferInOne xs ys → fold step start ys ≢ fold step start xs
