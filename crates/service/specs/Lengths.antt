-- Lengths: one byte up to 7F, or 81 and one byte. Assumes nothing.
use Rattle.std.specs.Prelude.{◌≡◌, ℕ, ◌+◌, ◌≤◌, cond, ◌⊎◌, List, [], ◌∷◌, length, Some, None, Option, ◌==◌, nat_le, slice_index}
use Rattle.service.specs.declared.lengths.Length.{Length}

-- these bytes are the length n, in either form
abbrev pub LengthIs : ℕ → List ℕ → Type 0
LengthIs n bytes = ((bytes ≡ n ∷ []) × (n ≤ 0x7F)) ⊎ (bytes ≡ 0x81 ∷ n ∷ [])

-- the shorter form
abbrev pub short_length : ℕ → List ℕ
short_length n = cond (nat_le n 0x7F) (n ∷ []) (0x81 ∷ n ∷ [])

-- a length of n, and the offset after it
abbrev pub length_to : ℕ → ℕ → Option Length
length_to after n = Some (record { after = after; count = n })

-- the second byte of the longer form
abbrev pub long_at : List ℕ → ℕ → Option Length
long_at xs at = cond (nat_le (length xs) (at + 1)) None (length_to (at + 2) (slice_index xs (at + 1)))

-- the length at an offset; none if it is cut off or begins otherwise
abbrev pub length_at : List ℕ → ℕ → Option Length
length_at xs at =
    cond (nat_le (length xs) at) None
    (cond (nat_le (slice_index xs at) 0x7F) (length_to (at + 1) (slice_index xs at))
    (cond (slice_index xs at == 0x81) (long_at xs at) None))
