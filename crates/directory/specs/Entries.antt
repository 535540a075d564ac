-- Entries of a directory: what stands at each place, and what an unused place is. Assumes nothing.
use Rattle.std.specs.Prelude.{ℕ, ◌+◌, ◌*◌, ◌/◌, ◌%◌, Bool, cond, List, [], ◌∷◌, replicate, Some, None, Option, ◌==◌, nat_le, slice_index}
use Rattle.std.proofs.Math.Seq.{paste}
use Rattle.std.specs.List.{between, list_all}
use Rattle.layout.specs.Blocks.{to_block}
use Rattle.directory.specs.declared.entries.Aid.{Aid}
use Rattle.directory.specs.declared.entries.Item.{Item}
use Rattle.directory.specs.declared.entries.Slot.{Slot}

-- every byte is 00
abbrev pub unused : List ℕ → Bool
unused = list_all (λ x. x == 0)

-- an entry's bytes hold a value, or are unused and hold none
abbrev pub parsed : {E : Type 0} → (List ℕ → E) → List ℕ → Option E
parsed parse bytes = cond (unused bytes) None (Some (parse bytes))

-- entry i, counted from 0, of a directory of 48 bytes whose entries of a width follow a header; none past its end
unfoldable pub entry_at : {E : Type 0} → ℕ → ℕ → (List ℕ → E) → List ℕ → ℕ → Option E
entry_at header wide parse directory i =
    cond (nat_le (header + i * wide + wide) 48) (parsed parse (between (header + i * wide) (header + i * wide + wide) directory)) None

-- what stands for an entry, or for none
abbrev pub printed : {E : Type 0} → (E → List ℕ) → ℕ → Option E → List ℕ
printed print wide None = replicate wide 0
printed print wide (Some e) = print e

-- a directory with entry i written; as it was where i lies past its end
unfoldable pub entry_put : {E : Type 0} → ℕ → ℕ → (E → List ℕ) → List ℕ → ℕ → Option E → List ℕ
entry_put header wide print directory i e =
    cond (nat_le (header + i * wide + wide) 48) (paste directory (header + i * wide) (printed print wide e) wide) directory

-- an entry can be told from an unused place
abbrev pub Fit : {E : Type 0} → (E → Type 0) → Option E → Type 0
Fit fits None = Unit {0}
Fit fits (Some e) = fits e

-- an application identifier: low byte first
abbrev pub print_aid : Aid → List ℕ
print_aid a = a.0 % 256 ∷ a.0 / 256 ∷ []

abbrev pub print_item : Item → List ℕ
print_item it = it.tag ∷ it.block.0 ∷ []

abbrev pub print_slot : Slot → List ℕ
print_slot s = s.number / 256 ∷ s.number % 256 ∷ s.run.start.0 ∷ s.run.length ∷ []

abbrev pub parse_aid : List ℕ → Aid
parse_aid bytes = record { 0 = slice_index bytes 0 + slice_index bytes 1 * 256 }

-- an item: its tag and the block that it names
abbrev pub parse_item : List ℕ → Item
parse_item bytes = record { tag = slice_index bytes 0; block = to_block (slice_index bytes 1) }

-- a slot: the service's number, high byte first, and its run
abbrev pub parse_slot : List ℕ → Slot
parse_slot bytes = record {
  number = slice_index bytes 0 * 256 + slice_index bytes 1;
  run = record { start = to_block (slice_index bytes 2); length = slice_index bytes 3 };
}

-- the entries of the three kinds of directories
abbrev pub aid_at : List ℕ → ℕ → Option Aid
aid_at = entry_at 2 2 parse_aid

abbrev pub item_at : List ℕ → ℕ → Option Item
item_at = entry_at 2 2 parse_item

abbrev pub slot_at : List ℕ → ℕ → Option Slot
slot_at = entry_at 4 4 parse_slot
