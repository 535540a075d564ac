-- Objects of a content: what stands at an offset, and all of them. Assumes nothing.
use Rattle.std.specs.Prelude.{ℕ, zero, suc, ◌+◌, ◌-◌, ◌*◌, Bool, cond, ◌||◌, List, [], ◌∷◌, length, Some, None, Ok, Err, Option, Result, ◌==◌, bit_and, nat_le, nat_lt, slice_index}
use Rattle.std.specs.List.{between}
use Rattle.std.specs.Option.{option_map}
use Rattle.layout.specs.Refusals.{Answer, refuse}
use Rattle.layout.specs.declared.refusals.Reason.TheVariants.{DataObject}
use Rattle.service.specs.Lengths.{length_at}
use Rattle.service.specs.declared.lengths.Length.{Length}
use Rattle.service.specs.declared.objects.Object.{Object}
use Rattle.service.specs.declared.objects.Object.TheVariants.{OneByte, TwoByte}
use Rattle.service.specs.declared.objects.Value.{Value}

-- a tag of one byte, or of two as one number, the first byte the high one
pub data Tag : Type 0 where
  one : ℕ → Tag
  two : ℕ → Tag

-- what an object says
pub record Fields : Type 0 where
  pub tag : Tag
  pub format : ℕ
  pub bytes : List ℕ

-- an object that was met, and the offset after it
pub record Met : Type 0 where
  pub object : Fields
  pub next : ℕ

-- what the code's values say
abbrev pub seen : Object → Met
seen (OneByte tag format part next) = record { object = record { tag = one tag; format = format; bytes = part.now }; next = next }
seen (TwoByte tag format part next) = record { object = record { tag = two tag; format = format; bytes = part.now }; next = next }

abbrev pub object_seen : Option Object → Option Met
object_seen o = option_map seen o

abbrev pub next_seen : Answer (Option Object) → Answer (Option Met)
next_seen (Ok o) = Ok (object_seen o)
next_seen (Err e) = Err e

-- what a length counts: the format byte and the data, and the offset after them
pub record Body : Type 0 where
  pub format : ℕ
  pub bytes : List ℕ
  pub next : ℕ

abbrev pub value_seen : Option Value → Option Body
value_seen o = option_map (λ v. record { format = v.format; bytes = v.«data».now; next = v.next }) o

-- what follows a length: at least the format byte, and as much as it counts
abbrev pub value_of : List ℕ → Option Length → Option Body
value_of xs None = None
value_of xs (Some l) =
    cond (l.count == 0 || nat_lt (length xs - l.after) l.count) None
    (Some (record { format = slice_index xs l.after; bytes = between (l.after + 1) (l.after + l.count) xs; next = l.after + l.count }))

abbrev pub value_at : List ℕ → ℕ → Option Body
value_at xs at = value_of xs (length_at xs at)

-- an object of a tag and what its length counts
abbrev pub tagged : Tag → Option Body → Option Met
tagged t o = option_map (λ v. record { object = record { tag = t; format = v.format; bytes = v.bytes }; next = v.next }) o

-- a second byte follows a first whose low five bits are all ones
abbrev pub goes_on : ℕ → Bool
goes_on first = bit_and first 0x1F == 0x1F

-- the object at an offset: its tag begins with another byte than 00, and a second byte's top bit is 0
unfoldable pub object_at : List ℕ → ℕ → Option Met
object_at xs at =
    cond (nat_le (length xs) at || slice_index xs at == 0) None
    (cond (goes_on (slice_index xs at))
    (cond (nat_le (length xs) (at + 1) || nat_le 0x80 (slice_index xs (at + 1))) None
    (tagged (two (slice_index xs at * 256 + slice_index xs (at + 1))) (value_at xs (at + 2))))
    (tagged (one (slice_index xs at)) (value_at xs (at + 1))))

-- an object was met at the offset, or none stands there
abbrev pub or_wrong : ℕ → Option Met → Answer (Option Met)
or_wrong at None = refuse DataObject at
or_wrong at (Some m) = Ok (Some m)

-- the object at an offset, none at the end, or a refusal at that offset
abbrev pub next_object : List ℕ → ℕ → Answer (Option Met)
next_object xs at = cond (at == length xs) (Ok None) (or_wrong at (object_at xs at))

-- objects, or the offset of the first wrong one
abbrev pub Objects : Type 0
Objects = Result (List Fields) ℕ

-- one object before others
abbrev pub before : Fields → Objects → Objects
before o (Ok os) = Ok (o ∷ os)
before o (Err at) = Err at

-- the object at an offset, if one was met there, before those from the offset after it on
abbrev pub before_rest : (ℕ → Objects) → ℕ → Option Met → Objects
before_rest rest at None = Err at
before_rest rest at (Some m) = before m.object (rest m.next)

-- the objects from an offset on; each takes some bytes, so one turn more than there are bytes is enough
unfoldable pub objects_from : ℕ → List ℕ → ℕ → Objects
objects_from zero xs at = Err at
objects_from (suc turns) xs at = cond (at == length xs) (Ok []) (before_rest (objects_from turns xs) at (object_at xs at))

-- the objects of a content
abbrev pub objects_of : List ℕ → Objects
objects_of xs = objects_from (length xs + 1) xs 0

-- how many there are
abbrev pub counted : Objects → Answer ℕ
counted (Ok os) = Ok (length os)
counted (Err at) = refuse DataObject at
