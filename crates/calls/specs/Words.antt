-- The words of a line. Assumes nothing.
use Rattle.std.specs.Prelude.{ℕ, ◌-◌, Bool, List, length, take, drop, codes, ◌==◌}
use Rattle.std.specs.List.{list_any, prefix_len, suffix_len, position_or_len}

-- space and tab; at the ends of a line also a carriage return
abbrev pub blanks : List ℕ
blanks = codes " \t"

abbrev pub end_blanks : List ℕ
end_blanks = codes " \t\r"

-- a byte is one of a set
abbrev pub is_one_of : List ℕ → ℕ → Bool
is_one_of set b = list_any (λ x. x == b) set

-- how many bytes come before the first blank
abbrev pub word_length : List ℕ → ℕ
word_length = position_or_len (is_one_of blanks)

-- without the bytes of a set at its front, and without those at its end
abbrev pub trimmed_front : List ℕ → List ℕ → List ℕ
trimmed_front set xs = drop (prefix_len (is_one_of set) xs) xs

abbrev pub trimmed_end : List ℕ → List ℕ → List ℕ
trimmed_end set xs = take (length xs - suffix_len (is_one_of set) xs) xs

-- without the blanks at both ends
abbrev pub trimmed : List ℕ → List ℕ
trimmed xs = trimmed_front end_blanks (trimmed_end end_blanks xs)

-- what follows the first word and the blanks after it
abbrev pub rest_after : List ℕ → List ℕ
rest_after xs = trimmed_front blanks (drop (word_length xs) xs)
