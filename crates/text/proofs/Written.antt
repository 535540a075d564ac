-- What the library writes of bytes is the text of `hex_byte` and `hex_bytes`. Assumes nothing.
use Rattle.std.proofs.Common.{◌≡◌, ℕ, zero, suc, ◌<◌, ◌==◌, ◌/◌, ◌%◌, Bool, true, ◌&&◌, List, [], ◌∷◌, ◌-◌, ◌^◌, false, slice_index, get_or, inl, inr, refl, arith}
use Rattle.std.proofs.lemmas.Bool.{and_parts, cases_lt, eqb-true}
use Rattle.std.proofs.lemmas.Fmt as fmt
use Rattle.std.specs.Fmt.{digits, padded_integral, format_spec}
use Rattle.hex.specs.Hex.{encode_with, upper_digits}
use Rattle.text.specs.Hex.{hex_digit, hex_byte, hex_bytes}

-- what `{:02X}` writes of a byte
pub hex_byte_written : (b : ℕ) → b < 256 → padded_integral (format_spec 32 0 4 2 (2 ^ 64 - 1)) false [] (digits 16 true b) ≡ hex_byte b
hex_byte_written = fmt.hex_byte true

-- the first n digits of the table are those of `hex_digit`
abbrev same_digits : ℕ → Bool
same_digits zero = true
same_digits (suc n) = slice_index upper_digits n == hex_digit n && same_digits n

same_digit : (n d : ℕ) → same_digits n ≡ true → d < n → slice_index upper_digits d ≡ hex_digit d
same_digit zero d same h = absurd (omega arith)
same_digit (suc n) d same h =
    let parts = and_parts (slice_index upper_digits n == hex_digit n) (same_digits n) same in
    elim (cases_lt d n) [
      | inl below ↦ same_digit n d parts.1 below
      | inr top ↦ let e : d ≡ n = omega arith in rw e (eqb-true _ _ parts.0)
    ]

-- what `encode_upper` writes of one byte, and of many
pub encode_byte_is : (b : ℕ) → b < 256 → encode_with upper_digits (b ∷ []) ≡ hex_byte b
unfolding encode_with
encode_byte_is b fits =
    let high = same_digit 16 (b / 16) refl (omega arith) in
    let low = same_digit 16 (b % 16) refl (omega arith) in
    cc

pub encode_upper_is : (xs : List ℕ) → ((i : ℕ) → get_or xs i 0 < 256) → encode_with upper_digits xs ≡ hex_bytes xs
unfolding encode_with
encode_upper_is [] small = refl
encode_upper_is (b ∷ bs) small =
    let byte = encode_byte_is b (small 0) in
    let rest = encode_upper_is bs (λ i. small (suc i)) in
    cc
