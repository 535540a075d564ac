-- Objects of a content, one call after another. Assumes nothing.
use Rattle.std.specs.Prelude.{◌≡◌, length, Some, None, Ok, Err, Option, Result}
use Rattle.layout.specs.declared.refusals.Refusal.{Refusal}
use Rattle.service.specs.Objects.{seen, next_object}
use Rattle.service.specs.declared.objects.Object.{Object}
use Rattle.service.specs.declared.objects.ObjectsFrom.{ObjectsFrom}

-- a call gives the object at the offset and goes on after it; or its refusal, and goes to the end; or nothing, and stays
abbrev pub Gives : ObjectsFrom → Option (Result Object Refusal) → ObjectsFrom → Type 0
Gives s None t = (next_object s.content.now s.at ≡ Ok None) × (t.content ≡ s.content) × (t.at ≡ s.at)
Gives s (Some (Ok o)) t = (next_object s.content.now s.at ≡ Ok (Some (seen o))) × (t.content ≡ s.content) × (t.at ≡ (seen o).next)
Gives s (Some (Err e)) t = (next_object s.content.now s.at ≡ Err e) × (t.content ≡ s.content) × (t.at ≡ length s.content.now)
