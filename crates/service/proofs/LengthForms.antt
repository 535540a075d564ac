-- A length is read exactly if one stands there. Assumes nothing.
use Rattle.std.proofs.Common.{◌≡◌, ℕ, ◌+◌, ◌≤◌, Bool, true, false, cond, eqb, leb, List, [], ◌∷◌, ◌++◌, length, get_or, drop, Some, None, refl, ap, ◌∙◌, subst, inl, inr, ⊎_elim, add_assoc, arith}
use Rattle.std.proofs.lemmas.List.{drop_more}
use Rattle.std.proofs.lemmas.Bool.{leb-true, leb-false, eqb-true}
use Rattle.service.specs.Lengths.{LengthIs, length_to, length_at}
use Rattle.service.specs.declared.lengths.Length.{Length}
use Rattle.service.proofs.Offsets.{here}

module _ (xs : List ℕ) (at : ℕ) where
  pub length_complete : (n : ℕ) (bytes rest : List ℕ) → LengthIs n bytes → drop at xs ≡ bytes ++ rest → length_at xs at ≡ length_to (at + length bytes) n
  length_complete n bytes rest is e = ⊎_elim short long is
    where
      short : (bytes ≡ n ∷ []) × (n ≤ 0x7F) → length_at xs at ≡ length_to (at + length bytes) n
      short s =
          let h = here xs at n rest (e ∙ ap (λ b. b ++ rest) s.0) in
          grind (arith, h.inside, h.byte, s.0, s.1)

      long : bytes ≡ 0x81 ∷ n ∷ [] → length_at xs at ≡ length_to (at + length bytes) n
      long s =
          let h = here xs at 0x81 (n ∷ rest) (e ∙ ap (λ b. b ++ rest) s) in
          let k = here xs (at + 1) n rest h.more in
          grind (arith, h.inside, h.byte, k.inside, k.byte, s)

  -- a length stands at the offset
  pub record LengthFound (l : Length) : Type 0 where
    pub bytes : List ℕ
    pub is : LengthIs l.count bytes
    pub there : drop at xs ≡ bytes ++ drop l.after xs
    pub after : l.after ≡ at + length bytes
    pub inside : l.after ≤ length xs

  pub length_sound : (l : Length) → length_at xs at ≡ Some l → LengthFound l
  length_sound l e = by_tests (leb (length xs) at) (leb (get_or xs at 0) 0x7F) (eqb (get_or xs at 0) 0x81) (leb (length xs) (at + 1)) refl refl refl refl e
    where
      none : (None ≡ Some l) → LengthFound l
      none e = grind arith

      by_tests : (past short long cut : Bool) → leb (length xs) at ≡ past → leb (get_or xs at 0) 0x7F ≡ short → eqb (get_or xs at 0) 0x81 ≡ long → leb (length xs) (at + 1) ≡ cut
          → cond past None (cond short (length_to (at + 1) (get_or xs at 0)) (cond long (cond cut None (length_to (at + 2) (get_or xs (at + 1) 0))) None)) ≡ Some l
          → LengthFound l
      by_tests true short long cut p s t c e = none e
      by_tests false true long cut p s t c e =
          let inside = leb-false _ _ p in
          let is : record { after = at + 1; count = get_or xs at 0 } ≡ l = cc in
          subst LengthFound is (record {
            bytes = get_or xs at 0 ∷ [];
            is = inl (refl, leb-true _ _ s);
            there = drop_more xs at 0 inside;
            after = refl;
            inside = omega arith;
          })
      by_tests false false true true p s t c e = none e
      by_tests false false true false p s t c e =
          let first = leb-false _ _ p in
          let inside = leb-false _ _ c in
          let is : record { after = at + 2; count = get_or xs (at + 1) 0 } ≡ l = cc in
          subst LengthFound is (record {
            bytes = 0x81 ∷ get_or xs (at + 1) 0 ∷ [];
            is = inr refl;
            there =
                drop_more xs at 0 first
                ∙ (λ i. eqb-true _ _ t i ∷ drop_more xs (at + 1) 0 inside i)
                ∙ ap (λ n. 0x81 ∷ get_or xs (at + 1) 0 ∷ drop n xs) (add_assoc at 1 1);
            after = refl;
            inside = omega arith;
          })
      by_tests false false false cut p s t c e = none e
