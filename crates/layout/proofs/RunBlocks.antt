-- The blocks of a run. Assumes nothing.
use Rattle.std.proofs.Common.{◌≡◌, ℕ, ◌+◌, ◌-◌, ◌<◌, ◌≤◌, Bool, false, ◌&&◌, ltb, is_some, Some, Decides, sym, ap, ◌∙◌, ⊎_elim, arith}
use Rattle.std.proofs.lemmas.Grind.{common_steps}
use Rattle.std.proofs.lemmas.Bool.Decides.{nat_tests}
use Rattle.std.proofs.lemmas.Bool.{cases_lt}
use Rattle.layout.specs.Blocks.{trailer, rank_of, data_block}
use Rattle.layout.specs.Runs.{run_block, OnCard, Shared}
use Rattle.layout.proofs.RankBlocks.{past_block, block_there, rank_le, from_rank, from_block}

pub run_block_rank : (start n i : ℕ) → i < n → trailer start ≡ false → run_block start n i ≡ data_block (rank_of start + i)
unfolding run_block
run_block_rank start n i h plain = grind (arith, common_steps)

module _ (start n : ℕ) (plain : trailer start ≡ false) where
  pub on_card_lem : rank_of start + n ≤ 216 → OnCard start n
  on_card_lem h = record {
    starts = plain;
    each = λ i l. ap is_some (run_block_rank start n i l plain) ∙ block_there (rank_of start + i) (omega arith);
  }

  -- the last block is there, so its rank is at most 215
  pub on_card_within : start < 256 → OnCard start n → rank_of start + n ≤ 216
  on_card_within h o = ⊎_elim (λ none. omega (arith, rank_le start h)) (λ some. grind (arith, o.each (n - 1) (omega arith), run_block_rank, past_block)) (cases_lt n 1)

-- runs on the card have a rank in common exactly if they have a block in common
module _ (a m b n : ℕ) (ha : a < 256) (hb : b < 256) (ca : OnCard a m) (cb : OnCard b n) (some : 0 < m) (more : 0 < n) where
  ranked : (k x : ℕ) → k < 216 → data_block k ≡ Some x → rank_of x ≡ k
  ranked k x h e = (from_rank k x h e).rank

  meet_shared : rank_of a < rank_of b + n → rank_of b < rank_of a + m → Shared a m b n
  meet_shared p q =
      ⊎_elim
      (λ (low : rank_of a < rank_of b).
      let i = rank_of b - rank_of a in
      let up : rank_of a + i ≡ rank_of b = omega arith in
      record {
        i = i;
        j = 0;
        low = omega arith;
        high = more;
        block = b;
        first = grind (arith, run_block_rank, (from_block b hb cb.starts).block, ca.starts);
        second = grind (arith, run_block_rank, (from_block b hb cb.starts).block, cb.starts);
      })
      (λ (high : rank_of b ≤ rank_of a).
      let j = rank_of a - rank_of b in
      let up : rank_of b + j ≡ rank_of a = omega arith in
      record {
        i = 0;
        j = j;
        low = some;
        high = omega arith;
        block = a;
        first = grind (arith, run_block_rank, (from_block a ha ca.starts).block, ca.starts);
        second = grind (arith, run_block_rank, (from_block a ha ca.starts).block, cb.starts);
      })
      (cases_lt (rank_of a) (rank_of b))

  shared_level : (s : Shared a m b n) → rank_of a + s.i ≡ rank_of b + s.j
  shared_level s =
      let wa = on_card_within a m ca.starts ha ca in
      let wb = on_card_within b n cb.starts hb cb in
      let fa = ranked (rank_of a + s.i) s.block (omega arith) (sym (run_block_rank a m s.i s.low ca.starts) ∙ s.first) in
      let fb = ranked (rank_of b + s.j) s.block (omega arith) (sym (run_block_rank b n s.j s.high cb.starts) ∙ s.second) in
      sym fa ∙ fb

  pub meet_decides : (r : Bool) → r ≡ (ltb (rank_of a) (rank_of b + n) && ltb (rank_of b) (rank_of a + m)) → Decides r (Shared a m b n)
  meet_decides r e = (
    λ t. meet_shared (grind (arith, nat_tests)) (grind (arith, nat_tests)),
    λ s. let level = shared_level s in grind (arith, nat_tests),
  )
