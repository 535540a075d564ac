-- Lines as calls. Assumes nothing.
use Rattle.std.specs.Prelude.{ℕ, Bool, true, cond, List, [], ◌∷◌, length, take, None, codes, Option, option_and_then, ◌==◌}
use Rattle.std.specs.Bool.{then_some}
use Rattle.std.specs.Str.{bytes_eq}
use Rattle.calls.specs.Digits.{number_of}
use Rattle.calls.specs.Words.{word_length, rest_after}
use Rattle.calls.specs.declared.parse.Call.{Call}
use Rattle.calls.specs.declared.parse.Call.TheVariants.{Find, Read, Lay}

-- an empty line, or a remark
abbrev pub passed_over : List ℕ → Bool
passed_over [] = true
passed_over (b ∷ bs) = b == 0x23

-- the first word of a line
abbrev pub word_of : List ℕ → List ℕ
word_of xs = take (word_length xs) xs

-- four hexadecimal digits
abbrev pub service_number : List ℕ → Option ℕ
service_number = number_of (record { base = 16; fewest = 4; longest = 4; most = 65535 })

-- a decimal of one to ten digits, at most 65535
abbrev pub room_of : List ℕ → Option ℕ
room_of = number_of (record { base = 10; fewest = 1; longest = 10; most = 65535 })

-- a call, if nothing stands behind it
abbrev pub ended : List ℕ → Call → Option Call
ended rest call = then_some (length rest == 0) call

-- what follows `find` and `read`
unfoldable pub find_of : List ℕ → Option Call
find_of xs = option_and_then (λ n. ended (rest_after xs) (Find n)) (service_number (word_of xs))

unfoldable pub read_of : List ℕ → Option Call
read_of xs =
    let after = rest_after xs in
    option_and_then (λ n. option_and_then (λ room. ended (rest_after after) (Read n room)) (room_of (word_of after))) (service_number (word_of xs))

-- the call that a line is
abbrev pub call_of : List ℕ → Option Call
call_of xs =
    cond (bytes_eq (word_of xs) (codes "find")) (find_of (rest_after xs))
    (cond (bytes_eq (word_of xs) (codes "read")) (read_of (rest_after xs))
    (cond (bytes_eq (word_of xs) (codes "lay")) (ended (rest_after xs) Lay) None))
