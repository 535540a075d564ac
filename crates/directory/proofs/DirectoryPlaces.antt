-- The directories that the check comes to lie on the card. Assumes nothing.
use Rattle.std.proofs.Common.{◌≡◌, ℕ, ◌<◌, Bool, true, false, cond, not, ◌||◌, eqb, List, Some, None, Ok, Err, Option, sym, refl, ap, subst, arith}
use Rattle.std.proofs.lemmas.Bool.Decides.{nat_tests}
use Rattle.layout.specs.Blocks.{rank_of, sector_of, position_of, trailer, first_of}
use Rattle.layout.specs.Profiles.{within, nscp_sectors, services_sectors}
use Rattle.layout.specs.Runs.{on_card}
use Rattle.layout.specs.declared.numbers.Block.{Block}
use Rattle.layout.specs.declared.numbers.Sector.{Sector}
use Rattle.layout.specs.declared.profiles.Profile.{Profile}
use Rattle.layout.specs.declared.refusals.Refusal.{Refusal}
use Rattle.layout.proofs.Below.{at}
use Rattle.directory.specs.Entries.{item_at}
use Rattle.directory.specs.Nscp.{nscp_sector_judged, names_sector, tag_is, wrong_as, wrong_item, nscp_judged}
use Rattle.directory.specs.Searches.{lowest_of}
use Rattle.directory.specs.Services.{item_found, services_at, services_judged}
use Rattle.directory.specs.declared.entries.Item.{Item}
use Rattle.directory.proofs.Searching.{lowest_all, lowest_some}

-- every sector in which a directory may stand is one of the small ones
pub nscp_small : (p : Profile) (s : ℕ) → within (nscp_sectors p) s ≡ true → s < 32
nscp_small p s h = grind (arith, nat_tests)

pub services_small : (p : Profile) (s : ℕ) → within (services_sectors p) s ≡ true → s < 32
services_small p s h = grind (arith, nat_tests)

sector_on_card : (s : ℕ) → s < 32 → on_card (first_of s) 3 ≡ true
unfolding on_card rank_of
sector_on_card = at (λ s. on_card (first_of s) 3) 32 refl

block_on_card : (b : ℕ) → b < 128 → trailer b ≡ false → on_card b 3 ≡ true
unfolding on_card rank_of
block_on_card b h plain = grind (arith, at (λ k. trailer k || on_card k 3) 128 refl b h)

low_block : (b : ℕ) → sector_of b < 32 → b < 128
low_block b h = grind (arith, nat_tests)

-- an answer that is accepted by a test passed it
pub cond_ok : {X : Type 0} (b : Bool) (x y : X) (e : Refusal) → cond b (Ok x) (Err e) ≡ Ok y → (b ≡ true) × (x ≡ y)
cond_ok true x y e is = (refl, cc)
cond_ok false x y e is = grind arith

pub cond_not : {X : Type 0} (b : Bool) (x y : X) (e : Refusal) → cond b (Err e) (Ok x) ≡ Ok y → (b ≡ false) × (x ≡ y)
cond_not true x y e is = grind arith
cond_not false x y e is = (refl, cc)

-- the NSCP directory
pub nscp_allowed : (p : Profile) (mad : List ℕ) (s : Sector) → nscp_sector_judged p mad ≡ Ok s → within (nscp_sectors p) s.0 ≡ true
nscp_allowed p mad s e = grind arith

pub nscp_on_card : (p : Profile) (mad : List ℕ) (s : Sector) → nscp_sector_judged p mad ≡ Ok s → (s.0 < 32) × (on_card (first_of s.0) 3 ≡ true)
nscp_on_card p mad s e = let small = nscp_small p s.0 (nscp_allowed p mad s e) in (small, sector_on_card s.0 small)

-- no item is wrong in a directory that was accepted
items_right : (nscp : List ℕ) → nscp_judged nscp ≡ Ok tt → lowest_of (wrong_item nscp) 23 ≡ None
items_right nscp e = grind arith

-- an item for a sector stands at its first block
item_first : (nscp : List ℕ) (i : ℕ) (it : Item) → item_at nscp i ≡ Some it → wrong_item nscp i ≡ false → names_sector it.tag ≡ true → position_of it.block.0 ≡ 0
unfolding wrong_item
item_first nscp i it is right sector = grind (arith, ap (wrong_as nscp i) (sym is))

item_plain : (nscp : List ℕ) (i : ℕ) (it : Item) → item_at nscp i ≡ Some it → wrong_item nscp i ≡ false → trailer it.block.0 ≡ false
unfolding wrong_item
item_plain nscp i it is right = grind (arith, ap (wrong_as nscp i) (sym is))

-- where the services directory stands: the first block of a small sector that is not the NSCP's
pub record ServicesPlace (p : Profile) (s : ℕ) (at : Block) : Type 0 where
  pub allowed : within (services_sectors p) (sector_of at.0) ≡ true
  pub first : first_of (sector_of at.0) ≡ at.0
  pub apart : sector_of at.0 ≡ s → ⊥
  pub plain : trailer at.0 ≡ false

first_block : (b : ℕ) → b < 128 → position_of b ≡ 0 → first_of (sector_of b) ≡ b
first_block b h e = grind (arith, at (λ k. not (eqb (position_of k) 0) || eqb (first_of (sector_of k)) k) 128 refl b h)

pub services_place : (p : Profile) (mad : List ℕ) (s : ℕ) (nscp : List ℕ) (at : Block) → nscp_judged nscp ≡ Ok tt → services_judged p mad s nscp ≡ Ok at → ServicesPlace p s at
services_place p mad s nscp at judged e = by_place (lowest_of (λ i. tag_is 0xCF (item_at nscp i)) 23) refl e
  where
    by_item : (i : ℕ) → (i < 23) × (tag_is 0xCF (item_at nscp i) ≡ true) → (o : Option Item) → item_at nscp i ≡ o → services_at p mad s nscp o ≡ Ok at → ServicesPlace p s at
    by_item i h None is e = grind arith
    by_item i h (Some it) is e =
        let k = cond_not _ _ at _ e in
        let b = it.block.0 in
        let right = lowest_all (wrong_item nscp) 23 (items_right nscp judged) i h.0 in
        let tagged : it.tag ≡ 0xCF = grind (arith, ap (tag_is 0xCF) (sym is)) in
        let allowed : within (services_sectors p) (sector_of b) ≡ true = grind (arith, k.0) in
        let place : ServicesPlace p s it.block = record {
          allowed = allowed;
          first = first_block b (low_block b (services_small p _ allowed)) (item_first nscp i it is right (ap names_sector tagged));
          apart = grind (arith, k.0);
          plain = item_plain nscp i it is right;
        } in
        subst (ServicesPlace p s) k.1 place

    by_place : (o : Option ℕ) → lowest_of (λ i. tag_is 0xCF (item_at nscp i)) 23 ≡ o → services_at p mad s nscp (item_found nscp o) ≡ Ok at → ServicesPlace p s at
    by_place None is e = grind arith
    by_place (Some i) is e = by_item i (lowest_some (λ j. tag_is 0xCF (item_at nscp j)) 23 i is) (item_at nscp i) refl e

pub services_on_card : (p : Profile) (mad : List ℕ) (s : ℕ) (nscp : List ℕ) (at : Block) → nscp_judged nscp ≡ Ok tt → services_judged p mad s nscp ≡ Ok at → on_card at.0 3 ≡ true
services_on_card p mad s nscp at judged e =
    let place = services_place p mad s nscp at judged e in
    block_on_card at.0 (low_block at.0 (services_small p _ place.allowed)) place.plain
