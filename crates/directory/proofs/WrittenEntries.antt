-- An entry that was written is read back, and the others are as they were. Assumes nothing.
use Rattle.std.proofs.Common.{◌≡◌, ℕ, zero, suc, ◌+◌, ◌-◌, ◌*◌, ◌<◌, ◌≤◌, true, false, ◌⊎◌, List, length, take, drop, replicate, Some, None, Option, sym, refl, ap, ◌∙◌, inl, inr, ⊎_elim, mul-le-mul_right, suc-mul, arith}
use lib.ListN.{length-replicate}
use lib.Seq.{paste}
use borrow.Rule.Slice.PartMut.{put_mid}
use Rattle.std.proofs.lemmas.Slice.{put_mid-paste, between-put_mid, between_is, take-put_mid_below, drop-put_mid}
use Rattle.std.proofs.lemmas.Grind.{common_steps}
use Rattle.std.proofs.lemmas.Bool.{cases_lt}
use Rattle.std.specs.List.{between}
use Rattle.directory.specs.Entries.{unused, parsed, entry_at, printed, entry_put, Fit}

-- what stands at a place, and that nothing does past the end
module _ {E : Type 0} (header wide : ℕ) (parse : List ℕ → E) (directory : List ℕ) (i : ℕ) where
  pub entry_past : 48 < header + i * wide + wide → entry_at header wide parse directory i ≡ None
  unfolding entry_at
  entry_past past = grind (arith, common_steps)

  pub entry_here : header + i * wide + wide ≤ 48 → entry_at header wide parse directory i ≡ parsed parse (between (header + i * wide) (header + i * wide + wide) directory)
  unfolding entry_at
  entry_here here = grind (arith, common_steps)

zeros : (n : ℕ) → unused (replicate n 0) ≡ true
zeros zero = refl
zeros (suc n) = zeros n

between_paste : (xs ys : List ℕ) (a w : ℕ) → length ys ≡ w → a ≤ length xs → between a (a + w) (paste xs a ys w) ≡ ys
between_paste xs ys a w long within =
    ap (between a (a + w)) (sym (put_mid-paste a w xs ys ys w refl refl (sym long)))
    ∙ between-put_mid a w xs ys (a + w) within (omega arith)

between_other : (xs ys : List ℕ) (a b w : ℕ) → length ys ≡ w → a ≤ length xs → (b + w ≤ a) ⊎ (a + w ≤ b) → between b (b + w) (paste xs a ys w) ≡ between b (b + w) xs
between_other xs ys a b w long within apart =
    ap (between b (b + w)) (sym (put_mid-paste a w xs ys ys w refl refl (sym long)))
    ∙ ⊎_elim
    (λ low. between_is (put_mid a w xs ys) b (b + w) ∙ ap (drop b) (take-put_mid_below a w xs ys (b + w) low within) ∙ sym (between_is xs b (b + w)))
    (λ high. ap (take (b + w - b)) (drop-put_mid a w xs ys b high within long))
    apart

module _ {E : Type 0} (header wide : ℕ) (parse : List ℕ → E) (print : E → List ℕ) (fits : E → Type 0)
    (whole : (e : E) → length (print e) ≡ wide)
    (used : (e : E) → fits e → unused (print e) ≡ false)
    (back : (e : E) → fits e → parse (print e) ≡ e) where
  length_printed : (e : Option E) → length (printed print wide e) ≡ wide
  length_printed None = length-replicate wide 0
  length_printed (Some e) = whole e

  parsed_printed : (e : Option E) → Fit fits e → parsed parse (printed print wide e) ≡ e
  parsed_printed None h = grind (arith, zeros wide)
  parsed_printed (Some e) h = grind (arith, used e h, back e h)

  module _ (directory : List ℕ) (full : length directory ≡ 48) (i : ℕ) (e : Option E) where
    put_here : header + i * wide + wide ≤ 48 → entry_put header wide print directory i e ≡ paste directory (header + i * wide) (printed print wide e) wide
    unfolding entry_put
    put_here here = grind (arith, common_steps)

    pub put_past : 48 < header + i * wide + wide → entry_put header wide print directory i e ≡ directory
    unfolding entry_put
    put_past past = grind (arith, common_steps)

    -- what the code writes
    pub put_part : (part : List ℕ) → part ≡ printed print wide e → header + i * wide + wide ≤ 48 → put_mid (header + i * wide) (header + i * wide + wide - (header + i * wide)) directory part ≡ entry_put header wide print directory i e
    put_part part is here =
        let a = header + i * wide in
        put_mid-paste a (a + wide - a) directory part (printed print wide e) wide is (omega arith) (sym (length_printed e)) ∙ sym (put_here here)

    pub read_back : Fit fits e → header + i * wide + wide ≤ 48 → entry_at header wide parse (entry_put header wide print directory i e) i ≡ e
    read_back fit here = grind (arith, entry_here, put_here, between_paste, length_printed e, parsed_printed e fit)

    apart : (j : ℕ) → (j ≡ i → ⊥) → (header + j * wide + wide ≤ header + i * wide) ⊎ (header + i * wide + wide ≤ header + j * wide)
    apart j ne =
        ⊎_elim
        (λ (less : j < i). let most : suc j * wide ≤ i * wide = mul-le-mul_right wide less in inl (omega (arith, suc-mul j wide)))
        (λ (more : i ≤ j). let most : suc i * wide ≤ j * wide = mul-le-mul_right wide (omega (arith, ne)) in inr (omega (arith, suc-mul i wide)))
        (cases_lt j i)

    pub others_same : (j : ℕ) → (j ≡ i → ⊥) → entry_at header wide parse (entry_put header wide print directory i e) j ≡ entry_at header wide parse directory j
    others_same j ne =
        ⊎_elim
        (λ (past : 48 < header + i * wide + wide). grind (arith, put_past))
        (λ (here : header + i * wide + wide ≤ 48). ⊎_elim
        (λ (past : 48 < header + j * wide + wide). grind (arith, entry_past))
        (λ (there : header + j * wide + wide ≤ 48).
        grind (arith, entry_here, put_here, between_other directory (printed print wide e) (header + i * wide) (header + j * wide) wide (length_printed e) (omega arith) (apart j ne)))
        (cases_lt 48 (header + j * wide + wide)))
        (cases_lt 48 (header + i * wide + wide))
