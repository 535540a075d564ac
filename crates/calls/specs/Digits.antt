-- Numbers as a clerk writes them. Assumes nothing.
use Rattle.std.specs.Prelude.{ℕ, ◌+◌, ◌*◌, cond, ◌&&◌, ◌||◌, List, length, Some, None, Option, fold, option_and_then, nat_le, nat_lt}
use Rattle.std.specs.Bool.{then_some}
use Rattle.std.specs.Char.{digit_value}
use Rattle.calls.specs.declared.digits.Notation.{Notation}

-- what a digit counts, a letter of either case
abbrev pub digit_of : ℕ → Option ℕ
digit_of b = then_some (nat_lt (digit_value b) 16) (digit_value b)

-- a number with one digit more behind it, as long as 64 bits hold it
abbrev pub one_more : ℕ → ℕ → ℕ → Option ℕ
one_more base value b = option_and_then (λ d. then_some (nat_lt d base && nat_lt (value * base + d) 18446744073709551616) (value * base + d)) (digit_of b)

-- the same, where the digits before it are a number
abbrev pub more : ℕ → Option ℕ → ℕ → Option ℕ
more base so_far b = option_and_then (λ value. one_more base value b) so_far

-- the number that digits to a base write
abbrev pub number_in : ℕ → List ℕ → Option ℕ
number_in base word = fold (more base) (Some 0) word

-- with so many digits at least and at most, and not larger than the most
abbrev pub number_of : Notation → List ℕ → Option ℕ
number_of n word =
    cond (nat_lt (length word) n.fewest || nat_lt n.longest (length word)) None (option_and_then (λ v. then_some (nat_le v n.most) v) (number_in n.base word))
