-- Looking through the first n places of something. Assumes nothing.
use Rattle.std.specs.Prelude.{ℕ, ◌+◌, Bool, Some, None, Ok, Option}
use Rattle.std.specs.List.{range_with_len, list_any, count_by, find}
use Rattle.layout.specs.Refusals.{refuse, Answer}
use Rattle.layout.specs.declared.refusals.Reason.{Reason}

-- one of them passes
unfoldable pub any_of : (ℕ → Bool) → ℕ → Bool
any_of f n = list_any f (range_with_len 0 n)

-- how many pass
unfoldable pub count_of : (ℕ → Bool) → ℕ → ℕ
count_of f n = count_by f (range_with_len 0 n)

-- the first that passes
unfoldable pub lowest_of : (ℕ → Bool) → ℕ → Option ℕ
lowest_of f n = find f (range_with_len 0 n)

-- the first wrong place decides; places count from 1
abbrev pub first_judged : Reason → Option ℕ → Answer (Unit {0})
first_judged why None = Ok tt
first_judged why (Some i) = refuse why (i + 1)
