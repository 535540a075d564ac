-- One altered byte of a directory breaks its seal. Assumes nothing.
use Rattle.std.proofs.Common.{◌≡◌, ℕ, zero, suc, ◌+◌, ◌<◌, ◌≤◌, true, false, eqb, ◌⊎◌, List, [], ◌∷◌, ◌++◌, length, get_or, Some, sym, refl, ap, ◌∙◌, subst, inl, inr, ⊎_elim, suc-le-suc, le_of_suc-le-suc, suc-ne-zero, arith, length-append, ext_get_or}
use native.Mathlib.Nat.{suc_inj}
use Rattle.std.proofs.ByRecursion.{All-append}
use Rattle.std.proofs.lemmas.Bool.{eqb-true, ne_eqb, cases_eq, false≢true}
use Rattle.std.proofs.lemmas.Grind.{common_steps}
use Rattle.std.proofs.lemmas.List.{get_or_append_left}
use Rattle.std.proofs.lemmas.Option.{gets}
use Rattle.std.proofs.lemmas.List.FromFn.{get_or-range_with_len, length-range_with_len}
use Rattle.std.specs.List.{slice_get, range_with_len}
use Rattle.layout.specs.Crc.{crc8}
use Rattle.layout.specs.Differ.{Bytes, DifferInOne}
use Rattle.layout.specs.CrcShows.{crc8_shows}
use Rattle.card.specs.Blocks.{Blocks, put}
use Rattle.directory.specs.Laws.{Agree}
use Rattle.directory.specs.Reads.{joined}
use Rattle.directory.specs.Seals.{sealed}
use Rattle.directory.proofs.Locality.{joined_agree}

-- what differs behind the first byte
differ_rest : (x y : ℕ) (xs ys : List ℕ) (d : DifferInOne (x ∷ xs) (y ∷ ys)) (i : ℕ) → d.place ≡ suc i → DifferInOne xs ys
differ_rest x y xs ys d i at = record {
  long = suc_inj d.long;
  place = i;
  within = le_of_suc-le-suc (subst (λ k. k < length (x ∷ xs)) at d.within);
  there = λ e. d.there (ap (λ k. get_or (y ∷ ys) k 0) at ∙ e ∙ sym (ap (λ k. get_or (x ∷ xs) k 0) at));
  elsewhere = λ k ne. d.elsewhere (suc k) (λ e. ne (suc_inj (e ∙ at)));
}

pub seal_breaks : (xs ys : List ℕ) → sealed xs ≡ true → Bytes xs → Bytes ys → DifferInOne xs ys → sealed ys ≡ false
seal_breaks [] ys shut bx by d = absurd (false≢true shut)
seal_breaks (x ∷ xs) [] shut bx by d = refl
seal_breaks (x ∷ xs) (y ∷ ys) shut bx by d = by_place d.place refl
  where
    by_place : (k : ℕ) → d.place ≡ k → eqb y (crc8 ys) ≡ false
    by_place zero at =
        let rest : ys ≡ xs = ext_get_or 0 ys xs (suc_inj d.long) (λ k _. d.elsewhere (suc k) (λ e. suc-ne-zero k (e ∙ at))) in
        ne_eqb y (crc8 ys) (λ e. d.there (ap (λ k. get_or (y ∷ ys) k 0) at ∙ e ∙ ap crc8 rest ∙ sym (eqb-true x (crc8 xs) shut) ∙ sym (ap (λ k. get_or (x ∷ xs) k 0) at)))
    by_place (suc i) at =
        let first : y ≡ x = d.elsewhere 0 (λ e. suc-ne-zero i (sym (e ∙ at))) in
        ne_eqb y (crc8 ys) (λ e. crc8_shows xs ys bx.1 by.1 (differ_rest x y xs ys d i at) (sym e ∙ first ∙ eqb-true x (crc8 xs) shut))

module _ (xs ys zs : List ℕ) (d : DifferInOne xs ys) where
  differ_front : DifferInOne (xs ++ zs) (ys ++ zs)
  differ_front =
      let at = d.place in
      let long = d.long in
      let within = d.within in
      record {
        long = length-append ys zs ∙ ap (λ n. n + length zs) long ∙ sym (length-append xs zs);
        place = at;
        within = omega (arith, length-append xs zs);
        there = λ e. d.there (sym (get_or_append_left ys zs 0 at (omega arith)) ∙ e ∙ get_or_append_left xs zs 0 at within);
        elsewhere = λ k ne. grind (arith, common_steps, d.elsewhere k ne, length-append {A = ℕ});
      }

differ_cons : (z : ℕ) (xs ys : List ℕ) → DifferInOne xs ys → DifferInOne (z ∷ xs) (z ∷ ys)
differ_cons z xs ys d = record {
  long = ap suc d.long;
  place = suc d.place;
  within = suc-le-suc d.within;
  there = d.there;
  elsewhere = elsewhere;
}
  where
    elsewhere : (k : ℕ) → (k ≡ suc d.place → ⊥) → get_or (z ∷ ys) k 0 ≡ get_or (z ∷ xs) k 0
    elsewhere zero ne = refl
    elsewhere (suc k) ne = d.elsewhere k (λ e. ne (ap suc e))

differ_behind : (zs xs ys : List ℕ) → DifferInOne xs ys → DifferInOne (zs ++ xs) (zs ++ ys)
differ_behind [] xs ys d = d
differ_behind (z ∷ zs) xs ys d = differ_cons z (zs ++ xs) (zs ++ ys) (differ_behind zs xs ys d)

-- a block is not among some, or among them once
unfoldable pub Absent : ℕ → List ℕ → Type 0
Absent at [] = Unit {0}
Absent at (b ∷ bs) = (b ≡ at → ⊥) × Absent at bs

unfoldable pub Once : ℕ → List ℕ → Type 0
Once at [] = ⊥
Once at (b ∷ bs) = ((b ≡ at) × Absent at bs) ⊎ ((b ≡ at → ⊥) × Once at bs)

module _ (blocks : Blocks) (at : ℕ) (new : List ℕ) where
  put_here : (b : ℕ) → b ≡ at → put blocks at new b ≡ new
  put_here b e = grind (arith, common_steps)

  pub put_away : (b : ℕ) → (b ≡ at → ⊥) → put blocks at new b ≡ blocks b
  put_away b ne = grind (arith, common_steps)

  pub agree_absent : (bs : List ℕ) → Absent at bs → Agree bs blocks (put blocks at new)
  unfolding Absent
  agree_absent [] a = tt
  agree_absent (b ∷ bs) a = (sym (put_away b a.0), agree_absent bs a.1)

  -- the bytes of blocks of which one is altered
  pub joined_altered : (bs : List ℕ) → Once at bs → DifferInOne (blocks at) new → DifferInOne (joined blocks bs) (joined (put blocks at new) bs)
  unfolding Once
  joined_altered [] once d = absurd once
  joined_altered (b ∷ bs) once d =
      ⊎_elim
      (λ p.
      let rest = joined_agree bs blocks (put blocks at new) (agree_absent bs p.1) in
      subst (λ ys. DifferInOne (joined blocks (b ∷ bs)) ys) (λ i. sym (put_here b p.0) i ++ sym rest i)
      (subst (λ c. DifferInOne (blocks c ++ joined blocks bs) (new ++ joined blocks bs)) (sym p.0) (differ_front (blocks at) new (joined blocks bs) d)))
      (λ p.
      subst (λ w. DifferInOne (joined blocks (b ∷ bs)) (w ++ joined (put blocks at new) bs)) (sym (put_away b p.0))
      (differ_behind (blocks b) (joined blocks bs) (joined (put blocks at new) bs) (joined_altered bs p.1 d)))
      once

bytes_joined : (blocks : Blocks) → ((b : ℕ) → Bytes (blocks b)) → (bs : List ℕ) → Bytes (joined blocks bs)
bytes_joined blocks each [] = tt
bytes_joined blocks each (b ∷ bs) = All-append (λ x. x < 256) (blocks b) (joined blocks bs) (each b) (bytes_joined blocks each bs)

-- the seal of a directory of which one byte is altered
pub altered_unsealed : (blocks : Blocks) (at : ℕ) (new : List ℕ) (bs : List ℕ) → ((b : ℕ) → Bytes (blocks b)) → Bytes new → Once at bs → DifferInOne (blocks at) new → sealed (joined blocks bs) ≡ true → sealed (joined (put blocks at new) bs) ≡ false
altered_unsealed blocks at new bs each fits once d shut =
    seal_breaks (joined blocks bs) (joined (put blocks at new) bs) shut (bytes_joined blocks each bs) (bytes_joined (put blocks at new) every bs) (joined_altered blocks at new bs once d)
  where
    every : (b : ℕ) → Bytes (put blocks at new b)
    every b = ⊎_elim (λ e. subst Bytes (sym (put_here blocks at new b e)) fits) (λ ne. subst Bytes (sym (put_away blocks at new b ne)) (each b)) (cases_eq b at)

-- consecutive blocks: each is there once
absent_counting : (at from n : ℕ) → at < from → Absent at (range_with_len from n)
unfolding Absent
absent_counting at from zero h = tt
absent_counting at from (suc n) h = (λ e. absurd (omega arith), absent_counting at (from + 1) n (omega arith))

pub nth_counting : (from n k at : ℕ) → slice_get (range_with_len from n) k ≡ Some at → (from ≤ at) × (at < from + n)
nth_counting from n k at e = (grind (arith, gets, get_or-range_with_len, length-range_with_len), grind (arith, gets, get_or-range_with_len, length-range_with_len))

pub once_counting : (from n k at : ℕ) → slice_get (range_with_len from n) k ≡ Some at → Once at (range_with_len from n)
unfolding Once
once_counting from zero k at e = grind arith
once_counting from (suc n) zero at e = let same : from ≡ at = cc in inl (same, absent_counting at (from + 1) n (omega arith))
once_counting from (suc n) (suc k) at e = let low = (nth_counting (from + 1) n k at e).0 in inr (λ same. absurd (omega arith), once_counting (from + 1) n k at e)

-- a block is not among others that lie below or above
pub absent_counted : (at from n : ℕ) → (at < from) ⊎ (from + n ≤ at) → Absent at (range_with_len from n)
unfolding Absent
absent_counted at from zero h = tt
absent_counted at from (suc n) h =
    ⊎_elim (λ (low : at < from). absent_counting at from (suc n) low)
    (λ (high : from + suc n ≤ at). (λ e. absurd (omega arith), absent_counted at (from + 1) n (inr (omega arith)))) h
