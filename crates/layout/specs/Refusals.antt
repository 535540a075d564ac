-- Which number each refusal has, and how one is made. Assumes nothing.
use Rattle.std.specs.Prelude.{ℕ, List, ◌++◌, Ok, Err, codes, decimal, Result}
use Rattle.layout.specs.declared.refusals.Reason.{Reason}
use Rattle.layout.specs.declared.refusals.Reason.TheVariants.{ProfileLetter, CardGone, GeneralPurposeByte, MadChecksum, NscpSector, NscpChecksum, NscpItem, ServicesSector, ServicesChecksum, ServicesSlot, ServiceNumber, ServiceAbsent, DataFrame, DataChecksum, DataObject, DataPadding, BufferLength, OuterTag, NewContent, ImageSize}
use Rattle.layout.specs.declared.refusals.Refusal.{Refusal}

-- the number that a clerk reads
abbrev pub number_of : Reason → ℕ
number_of ProfileLetter = 1
number_of CardGone = 2
number_of GeneralPurposeByte = 3
number_of MadChecksum = 4
number_of NscpSector = 5
number_of NscpChecksum = 6
number_of NscpItem = 7
number_of ServicesSector = 8
number_of ServicesChecksum = 9
number_of ServicesSlot = 10
number_of ServiceNumber = 11
number_of ServiceAbsent = 12
number_of DataFrame = 13
number_of DataChecksum = 14
number_of DataObject = 15
number_of DataPadding = 16
number_of BufferLength = 17
number_of OuterTag = 18
number_of NewContent = 19
number_of ImageSize = 28

-- a refusal at a place
abbrev pub refusal : Reason → ℕ → Refusal
refusal why at = record { reason = why; place = at }

-- `refused 12 at 0`, both decimal
abbrev pub refusal_words : Refusal → List ℕ
refusal_words r = codes "refused " ++ (decimal (number_of r.reason) ++ (codes " at " ++ decimal r.place))

-- an answer or a refusal
abbrev pub Answer : Type 0 → Type 0
Answer X = Result X Refusal

-- what comes after an answer that is no refusal
abbrev pub then : {X Y : Type 0} → Answer X → (X → Answer Y) → Answer Y
then (Ok x) next = next x
then (Err e) next = Err e

-- an answer that is such a refusal
abbrev pub refuse : {X : Type 0} → Reason → ℕ → Answer X
refuse why at = Err (refusal why at)
