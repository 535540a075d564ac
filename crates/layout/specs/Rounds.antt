-- For every width: a register that shifts and adds an odd polynomial loses nothing. Assumes nothing.
use Rattle.std.specs.Prelude.{◌≡◌, ℕ, zero, suc, ◌+◌, ◌-◌, ◌*◌, ◌/◌, ◌%◌, ◌^◌, ◌<◌, ◌≤◌, bit_xor, refl}
use Rattle.std.proofs.Common.{sym, subst, ◌∙◌, ⊎_elim, arith, mul-div_cancel, add-one, pow-add, pow_mono, pow_pos}
use Rattle.std.proofs.Math.Path.{ap}
use Rattle.std.specs.Int.Bits.{xor_assoc, xor_self, xor_zero_r}
use Rattle.std.proofs.lemmas.Nat.{one_shl, shl_whole, shl_below, xor_lt, xor_mod, xor_comm}
use Rattle.std.proofs.lemmas.Bool.{cases_lt, lt-ltb, le-ltb, cond-true, cond-false}
use Rattle.layout.specs.Crc.{Register, round, rounds, stepped}

-- adding p twice takes it away again
xor_back : (x p : ℕ) → bit_xor (bit_xor x p) p ≡ x
xor_back x p = xor_assoc x p p ∙ ap (bit_xor x) (xor_self p) ∙ xor_zero_r x

xor_right : (x y p : ℕ) → bit_xor x p ≡ bit_xor y p → x ≡ y
xor_right x y p e = sym (xor_back x p) ∙ ap (λ z. bit_xor z p) e ∙ xor_back y p

xor_left : (x y p : ℕ) → bit_xor p x ≡ bit_xor p y → x ≡ y
xor_left x y p e = xor_right x y p (xor_comm x p ∙ e ∙ xor_comm p y)

unscaled : {b c k : ℕ} → 0 < k → b * k ≡ c * k → b ≡ c
unscaled {b} {c} {k} h e = sym (mul-div_cancel b h) ∙ ap (λ x. x / k) e ∙ mul-div_cancel c h

pub rounds_none : (w poly s : ℕ) → rounds w poly 0 s ≡ s
unfolding rounds
rounds_none w poly s = refl

pub rounds_more : (w poly n s : ℕ) → rounds w poly (n + 1) s ≡ round w poly (rounds w poly n s)
unfolding rounds
rounds_more w poly n s = rw add-one refl

module _ (w poly : ℕ) (r : Register w poly) where
  double : 2 ^ w ≡ 2 * 2 ^ (w - 1)
  double = let whole : 1 + (w - 1) ≡ w = omega arith in ap (λ n. 2 ^ n) (sym whole) ∙ pow-add 2 1 (w - 1)

  round_low : (s : ℕ) → s < 2 ^ (w - 1) → round w poly s ≡ 2 * s
  unfolding round
  round_low s h = cond-true _ _ _ (lt-ltb s (2 ^ (w - 1)) h)

  round_high : (s : ℕ) → 2 ^ (w - 1) ≤ s → round w poly s ≡ bit_xor (2 * s - 2 ^ w) poly
  unfolding round
  round_high s h = cond-false _ _ _ (le-ltb s (2 ^ (w - 1)) h)

  pub round_lt : (s : ℕ) → s < 2 ^ w → round w poly s < 2 ^ w
  round_lt s h =
      ⊎_elim
      (λ l. rw (round_low s l) (omega (arith, double)))
      (λ l. rw (round_high s l) (xor_lt w (2 * s - 2 ^ w) poly (omega (arith, double)) r.low))
      (cases_lt s (2 ^ (w - 1)))

  rounds_lt : (n s : ℕ) → s < 2 ^ w → rounds w poly n s < 2 ^ w
  unfolding rounds
  rounds_lt zero s h = h
  rounds_lt (suc n) s h = round_lt (rounds w poly n s) (rounds_lt n s h)

  -- a byte at the top of the register
  byte_lt : (b : ℕ) → b < 256 → b * 2 ^ (w - 8) < 2 ^ w
  byte_lt b h =
      let whole : 8 + (w - 8) ≡ w = omega arith in
      subst (λ n. b * 2 ^ (w - 8) < 2 ^ n) whole (shl_below b 8 (w - 8) h)

  added_lt : (s b : ℕ) → s < 2 ^ w → b < 256 → bit_xor s (b * 2 ^ (w - 8)) < 2 ^ w
  added_lt s b hs hb = xor_lt w s (b * 2 ^ (w - 8)) hs (byte_lt b hb)

  pub stepped_lt : (s b : ℕ) → s < 2 ^ w → b < 256 → stepped w poly s b < 2 ^ w
  unfolding stepped
  stepped_lt s b hs hb = rounds_lt 8 _ (added_lt s b hs hb)

  module _ (odd : poly % 2 ≡ 1) where
    -- the lowest bit says whether a one left at the top
    high_odd : (s : ℕ) → 2 ^ (w - 1) ≤ s → round w poly s % 2 ≡ 1
    high_odd s h =
        let even : (2 * s - 2 ^ w) % 2 ≡ 0 = omega (arith, double) in
        ap (λ x. x % 2) (round_high s h) ∙ xor_mod (2 * s - 2 ^ w) poly 1 ∙ simp (even, odd) refl

    round_apart : (s t : ℕ) → s < 2 ^ w → t < 2 ^ w → round w poly s ≡ round w poly t → s ≡ t
    round_apart s t hs ht e =
        ⊎_elim
        (λ (ls : s < 2 ^ (w - 1)). ⊎_elim
        (λ (lt : t < 2 ^ (w - 1)). omega (arith, round_low s ls, round_low t lt))
        (λ (lt : 2 ^ (w - 1) ≤ t). omega (arith, round_low s ls, high_odd t lt))
        (cases_lt t (2 ^ (w - 1))))
        (λ (ls : 2 ^ (w - 1) ≤ s). ⊎_elim
        (λ (lt : t < 2 ^ (w - 1)). omega (arith, high_odd s ls, round_low t lt))
        (λ (lt : 2 ^ (w - 1) ≤ t).
        omega (arith, double, xor_right (2 * s - 2 ^ w) (2 * t - 2 ^ w) poly (sym (round_high s ls) ∙ e ∙ round_high t lt)))
        (cases_lt t (2 ^ (w - 1))))
        (cases_lt s (2 ^ (w - 1)))

    rounds_apart : (n s t : ℕ) → s < 2 ^ w → t < 2 ^ w → rounds w poly n s ≡ rounds w poly n t → s ≡ t
    unfolding rounds
    rounds_apart zero s t hs ht e = e
    rounds_apart (suc n) s t hs ht e =
        rounds_apart n s t hs ht (round_apart (rounds w poly n s) (rounds w poly n t) (rounds_lt n s hs) (rounds_lt n t ht) e)

    -- with one byte, different states step to different states
    pub stepped_apart : (s t b : ℕ) → s < 2 ^ w → t < 2 ^ w → b < 256 → stepped w poly s b ≡ stepped w poly t b → s ≡ t
    unfolding stepped
    stepped_apart s t b hs ht hb e =
        let x = b * 2 ^ (w - 8) in
        xor_right s t x (rounds_apart 8 (bit_xor s x) (bit_xor t x) (added_lt s b hs hb) (added_lt t b ht hb) e)

    -- from one state, different bytes step to different states
    pub stepped_shows : (s b c : ℕ) → s < 2 ^ w → b < 256 → c < 256 → stepped w poly s b ≡ stepped w poly s c → b ≡ c
    unfolding stepped
    stepped_shows s b c hs hb hc e =
        let x = b * 2 ^ (w - 8) in
        let y = c * 2 ^ (w - 8) in
        unscaled (pow_pos (w - 8)) (xor_left x y s (rounds_apart 8 (bit_xor s x) (bit_xor s y) (added_lt s b hs hb) (added_lt s c hs hc) e))

  -- the register as the code has it, in 16 bits
  top_is : (1 * 2 ^ (w - 1)) % 65536 ≡ 2 ^ (w - 1)
  top_is = one_shl (w - 1) 16 (omega arith)

  added_is : (s b f : ℕ) → b < 256 → f ≡ b → bit_xor s (b * 2 ^ (w - 8)) ≡ bit_xor s ((f * 2 ^ (w - 8)) % 65536)
  added_is s b f h e =
      ap (bit_xor s) (sym (shl_whole b 8 (w - 8) 16 h (omega arith)) ∙ ap (λ x. (x * 2 ^ (w - 8)) % 65536) (sym e))

  pub added_fits : (s b f : ℕ) → s < 2 ^ w → b < 256 → f ≡ b → bit_xor s ((f * 2 ^ (w - 8)) % 65536) < 2 ^ w
  added_fits s b f hs hb e = subst (λ x. x < 2 ^ w) (added_is s b f hb e) (added_lt s b hs hb)

  pub doubled_fits : (s : ℕ) → s < 2 ^ w → (s - (1 * 2 ^ (w - 1)) % 65536) * 2 < 65536
  doubled_fits s h = let most : 2 ^ w ≤ 65536 = pow_mono r.narrow in omega (arith, double, top_is)

  -- one turn of the code's loop
  pub turn_low : (s : ℕ) → s < (1 * 2 ^ (w - 1)) % 65536 → s * 2 ≡ round w poly s
  turn_low s h = let low : s < 2 ^ (w - 1) = omega (arith, top_is) in omega (arith, round_low s low)

  pub turn_high : (s : ℕ) → (1 * 2 ^ (w - 1)) % 65536 ≤ s → bit_xor ((s - (1 * 2 ^ (w - 1)) % 65536) * 2) poly ≡ round w poly s
  turn_high s h =
      let same : (s - (1 * 2 ^ (w - 1)) % 65536) * 2 ≡ 2 * s - 2 ^ w = omega (arith, double, top_is) in
      ap (λ x. bit_xor x poly) same ∙ sym (round_high s (omega (arith, top_is)))

  -- eight turns are a step
  pub eight_turns : (s b f : ℕ) → b < 256 → f ≡ b → rounds w poly 8 (bit_xor s ((f * 2 ^ (w - 8)) % 65536)) ≡ stepped w poly s b
  unfolding stepped
  eight_turns s b f h e = ap (rounds w poly 8) (sym (added_is s b f h e))
