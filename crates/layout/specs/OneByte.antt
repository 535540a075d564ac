-- From the two laws of a step: one changed byte changes the checksum. Assumes nothing.
use Rattle.std.specs.Prelude.{◌≡◌, ℕ, zero, suc, ◌<◌, List, [], ◌∷◌, length, fold, ◌≢◌, slice_index}
use Rattle.std.proofs.Common.{sym, ap, ◌∙◌, le_of_suc-le-suc, not-suc-le-zero, suc-ne-zero, ext_get_or}
use Rattle.std.proofs.Math.Nat.{suc_inj}
use Rattle.layout.specs.Differ.{Bytes, OneByteShows}

module _ {S : Type 0} (fits : S → Type 0) (step : S → ℕ → S)
    (stays : (s : S) (b : ℕ) → fits s → b < 256 → fits (step s b))
    (apart : (s t : S) (b : ℕ) → fits s → fits t → b < 256 → step s b ≡ step t b → s ≡ t)
    (shows : (s : S) (b c : ℕ) → fits s → b < 256 → c < 256 → step s b ≡ step s c → b ≡ c) where
  fold_apart : (xs : List ℕ) (s t : S) → fits s → fits t → Bytes xs → fold step s xs ≡ fold step t xs → s ≡ t
  fold_apart [] s t hs ht a e = e
  fold_apart (x ∷ xs) s t hs ht a e =
      apart s t x hs ht a.0 (fold_apart xs (step s x) (step t x) (stays s x hs a.0) (stays t x ht a.0) a.1 e)

  -- equal checksums of strings that are equal but for place i: equal there too
  same_there : (xs ys : List ℕ) (i : ℕ) (s : S) → fits s → Bytes xs → Bytes ys → length ys ≡ length xs → i < length xs
      → ((k : ℕ) → (k ≢ i) → slice_index ys k ≡ slice_index xs k)
      → fold step s ys ≡ fold step s xs → slice_index ys i ≡ slice_index xs i
  same_there [] ys i s hs ax ay long within elsewhere e = absurd (not-suc-le-zero within)
  same_there (x ∷ xs) [] i s hs ax ay long within elsewhere e = absurd (suc-ne-zero (length xs) (sym long))
  same_there (x ∷ xs) (y ∷ ys) zero s hs ax ay long within elsewhere e =
      let rest : ys ≡ xs = ext_get_or 0 ys xs (suc_inj long) (λ k _. elsewhere (suc k) (suc-ne-zero k)) in
      let level : fold step (step s y) xs ≡ fold step (step s x) xs = ap (fold step (step s y)) (sym rest) ∙ e in
      shows s y x hs ay.0 ax.0 (fold_apart xs (step s y) (step s x) (stays s y hs ay.0) (stays s x hs ax.0) ax.1 level)
  same_there (x ∷ xs) (y ∷ ys) (suc i) s hs ax ay long within elsewhere e =
      let first : y ≡ x = elsewhere 0 (λ z. suc-ne-zero i (sym z)) in
      let level : fold step (step s x) ys ≡ fold step (step s x) xs = ap (λ b. fold step (step s b) ys) (sym first) ∙ e in
      same_there xs ys i (step s x) (stays s x hs ax.0) ax.1 ay.1 (suc_inj long) (le_of_suc-le-suc within)
      (λ k ne. elsewhere (suc k) (λ z. ne (suc_inj z))) level

  pub one_byte_shows : (start : S) → fits start → OneByteShows start step
  one_byte_shows start starts xs ys ax ay d e =
      d.there (same_there xs ys d.place start starts ax ay d.long d.within d.elsewhere e)
