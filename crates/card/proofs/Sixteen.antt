-- Blocks of sixteen bytes. Assumes nothing.
use Rattle.std.proofs.Common.{◌≡◌, ℕ, ◌+◌, ◌-◌, ◌*◌, ◌<◌, List, length, get_or, take, drop, sym, ◌∙◌, ⊎_elim, zero-add, arith, rules}
use borrow.Rule.Slice.PartMut.{put_mid}
use Rattle.std.proofs.lemmas.Grind.{common_steps}
use Rattle.std.proofs.lemmas.List.FromFn.{fill_by_all, get_or-map-range_with_len}
use Rattle.std.proofs.lemmas.List.{places}
use Rattle.std.proofs.lemmas.Bool.{cases_eq, cases_lt, eq-eqb, ne_eqb, cond-true, cond-false}
use Rattle.card.specs.Blocks.{Blocks, put, sixteen, length_sixteen, blocks_of}

sixteen_all : (f : ℕ → ℕ) (xs : List ℕ) → length xs ≡ 16 → ((i : ℕ) → i < 16 → get_or xs i 0 ≡ f i) → xs ≡ sixteen f
unfolding sixteen
sixteen_all f xs long each = fill_by_all f xs 16 0 long each

sixteen_same : (f g : ℕ → ℕ) → ((i : ℕ) → i < 16 → f i ≡ g i) → sixteen f ≡ sixteen g
unfolding sixteen
sixteen_same f g each =
    fill_by_all g (sixteen f) 16 0 (length_sixteen f) (λ i low. get_or-map-range_with_len f 0 16 i i 0 low (zero-add i) ∙ each i low)

-- the part of an image from 16 × b on is its block b
pub part_is : (image : List ℕ) (b : ℕ) → length image ≡ 4096 → b < 256 → take (16 * b + 16 - 16 * b) (drop (16 * b) image) ≡ blocks_of image b
part_is image b whole here = sixteen_all _ _ (search (rules, places)) (λ i low. search (rules, places))

-- writing sixteen bytes there replaces block b, and no other
pub part_put : (image new : List ℕ) (b : ℕ) → length image ≡ 4096 → b < 256 → length new ≡ 16 → blocks_of (put_mid (16 * b) (16 * b + 16 - 16 * b) image new) ≡ put (blocks_of image) b new
part_put image new b whole here long = λ j k. each k j
  where
    each : (k : ℕ) → blocks_of (put_mid (16 * b) (16 * b + 16 - 16 * b) image new) k ≡ put (blocks_of image) b new k
    each k =
        ⊎_elim
        (λ e. sym (sixteen_all _ new long (λ i low. search (rules, places))) ∙ sym (cond-true _ new _ (eq-eqb k b e)))
        (λ ne. sixteen_same _ _ (λ i low. ⊎_elim (λ less. search (rules, places)) (λ more. search (rules, places)) (cases_lt k b)) ∙ sym (cond-false _ new _ (ne_eqb k b ne)))
        (cases_eq k b)

-- a block put back as it is changes nothing
pub put_same : (blocks : Blocks) (at : ℕ) → put blocks at (blocks at) ≡ blocks
put_same blocks at = λ j b. each b j
  where
    each : (b : ℕ) → put blocks at (blocks at) b ≡ blocks b
    each b = grind (arith, common_steps)
