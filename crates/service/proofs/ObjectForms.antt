-- An object is read exactly if one stands there. Assumes nothing.
use Rattle.std.proofs.Common.{◌≡◌, ℕ, ◌+◌, ◌-◌, ◌*◌, ◌<◌, ◌≤◌, Bool, true, false, cond, ◌||◌, eqb, ltb, leb, List, [], ◌∷◌, ◌++◌, length, get_or, drop, Some, None, Option, sym, refl, ap, ◌∙◌, subst, append_assoc, add_assoc, arith, length-append, length-drop}
use Rattle.std.proofs.lemmas.List.{drop_more}
use Rattle.std.proofs.lemmas.Bool.{leb-false, ltb-false, eqb-false, or_parts, false≢true}
use Rattle.std.specs.List.{between}
use Rattle.service.specs.Grammar.{TagIs, OneByte, TwoBytes, ObjectIs}
use Rattle.service.specs.Lengths.{LengthIs, length_at}
use Rattle.service.specs.Objects.{Tag, one, two, Fields, Met, Body, goes_on, value_of, value_at, tagged, object_at}
use Rattle.service.specs.declared.lengths.Length.{Length}
use Rattle.service.proofs.LengthForms.{length_complete, length_sound}
use Rattle.service.proofs.Offsets.{here, after_front, front_between, split_between}

module _ (xs : List ℕ) where
  -- what a length counts, with the offset after it
  pub value_complete : (at : ℕ) (format : ℕ) (size bytes rest : List ℕ) → at ≤ length xs → LengthIs (length bytes + 1) size → drop at xs ≡ size ++ (format ∷ (bytes ++ rest))
      → value_at xs at ≡ Some (record { format = format; bytes = bytes; next = at + length size + (length bytes + 1) })
  value_complete at format size bytes rest within sized e =
      let after = at + length size in
      let n = length bytes + 1 in
      let behind = after_front xs at size (format ∷ (bytes ++ rest)) e in
      let h = here xs after format (bytes ++ rest) behind in
      let room : n ≤ length xs - after = omega (arith, length-drop after xs, ap length behind, length-append bytes rest) in
      let part : between (after + 1) (after + n) xs ≡ bytes =
      ap (λ k. between (after + 1) k xs) (omega arith) ∙ front_between xs (after + 1) (length bytes) bytes rest refl h.more in
      grind (arith, length_complete xs at n size (format ∷ (bytes ++ rest)) sized e, room, h.byte, part)

  -- a format byte and data stand behind their length
  pub record ValueFound (at : ℕ) (v : Body) : Type 0 where
    pub size : List ℕ
    pub sized : LengthIs (length v.bytes + 1) size
    pub there : drop at xs ≡ size ++ (v.format ∷ (v.bytes ++ drop v.next xs))
    pub up : at < v.next
    pub inside : v.next ≤ length xs

  pub value_sound : (at : ℕ) (v : Body) → value_at xs at ≡ Some v → ValueFound at v
  value_sound at v e = by_length (length_at xs at) refl e
    where
      by_length : (o : Option Length) → length_at xs at ≡ o → value_of xs o ≡ Some v → ValueFound at v
      by_length None is e = grind arith
      by_length (Some l) is e = by_test (eqb l.count 0 || ltb (length xs - l.after) l.count) refl e
        where
          by_test : (wrong : Bool) → (eqb l.count 0 || ltb (length xs - l.after) l.count) ≡ wrong
              → cond wrong None (Some (record { format = get_or xs l.after 0; bytes = between (l.after + 1) (l.after + l.count) xs; next = l.after + l.count })) ≡ Some v
              → ValueFound at v
          by_test true w e = grind arith
          by_test false w e =
              let f = length_sound xs at l is in
              let after = l.after in
              let tests = or_parts _ _ w in
              let some = eqb-false l.count 0 tests.0 in
              let room = ltb-false _ _ tests.1 in
              let n = l.count - 1 in
              let counts : n + 1 ≡ l.count = omega (arith, some) in
              let last : (after + 1) + n ≡ after + l.count = omega arith in
              let part = between (after + 1) (after + l.count) xs in
              let inside : after + l.count ≤ length xs = omega (arith, f.inside) in
              let first : after < length xs = omega arith in
              let behind : drop (after + 1) xs ≡ part ++ drop (after + l.count) xs =
              split_between xs (after + 1) n ∙ (λ i. between (after + 1) (last i) xs ++ drop (last i) xs) in
              let long : length part + 1 ≡ l.count = omega (arith, length-append part (drop (after + l.count) xs), ap length behind, length-drop (after + 1) xs, length-drop (after + l.count) xs) in
              let is_v : record { format = get_or xs after 0; bytes = part; next = after + l.count } ≡ v = cc in
              subst (ValueFound at) is_v (record {
                size = f.bytes;
                sized = subst (λ k. LengthIs k f.bytes) (sym long) f.is;
                there = f.there ∙ ap (λ r. f.bytes ++ r) (drop_more xs after 0 first ∙ ap (λ r. get_or xs after 0 ∷ r) behind);
                up = omega (arith, f.after);
                inside = inside;
              })

  pub object_complete : (at : ℕ) (o : Fields) (front rest : List ℕ) → at ≤ length xs → ObjectIs o front → drop at xs ≡ front ++ rest
      → object_at xs at ≡ Some (record { object = o; next = at + length front })
  unfolding object_at
  object_complete at o front rest within is e = by_tag o.tag refl is.tagged
    where
      long : length front ≡ length is.tag + (length is.size + (length o.bytes + 1))
      long = ap length is.all ∙ length-append is.tag _ ∙ omega (arith, length-append is.size (o.format ∷ o.bytes))

      there : drop at xs ≡ is.tag ++ (is.size ++ (o.format ∷ (o.bytes ++ rest)))
      there =
          e ∙ ap (λ f. f ++ rest) is.all ∙ append_assoc is.tag _ rest
          ∙ ap (λ r. is.tag ++ r) (append_assoc is.size (o.format ∷ o.bytes) rest)

      by_tag : (t : Tag) → t ≡ o.tag → TagIs o.tag is.tag → object_at xs at ≡ Some (record { object = o; next = at + length front })
      by_tag (one t) is_tag which =
          let w : OneByte t is.tag = subst (λ k. TagIs k is.tag) (sym is_tag) which in
          let h = here xs at t _ (there ∙ ap (λ b. b ++ (is.size ++ (o.format ∷ (o.bytes ++ rest)))) w.all) in
          let v = value_complete (at + 1) o.format is.size o.bytes rest (omega (arith, h.inside)) is.sized h.more in
          let next : at + 1 + length is.size + (length o.bytes + 1) ≡ at + length front = omega (arith, long, ap length w.all) in
          grind (arith, h.inside, h.byte, w.used, w.alone, v, is_tag, next)
      by_tag (two t) is_tag which =
          let w : TwoBytes t is.tag = subst (λ k. TagIs k is.tag) (sym is_tag) which in
          let h = here xs at w.first _ (there ∙ ap (λ b. b ++ (is.size ++ (o.format ∷ (o.bytes ++ rest)))) w.all) in
          let k = here xs (at + 1) w.second _ h.more in
          let v = value_complete (at + 2) o.format is.size o.bytes rest (omega (arith, k.inside)) is.sized (ap (λ n. drop n xs) (sym (add_assoc at 1 1)) ∙ k.more) in
          let next : at + 2 + length is.size + (length o.bytes + 1) ≡ at + length front = omega (arith, long, ap length w.all) in
          let used : get_or xs at 0 ≡ 0 → ⊥ = λ z. false≢true (ap goes_on (sym z ∙ h.byte) ∙ w.follows) in
          grind (arith, h.inside, h.byte, used, w.follows, k.inside, k.byte, w.low, w.value, v, is_tag, next)

  -- an object stands at the offset
  pub record ObjectFound (at : ℕ) (m : Met) : Type 0 where
    pub front : List ℕ
    pub is : ObjectIs m.object front
    pub there : drop at xs ≡ front ++ drop m.next xs
    pub up : at < m.next
    pub inside : m.next ≤ length xs

  -- a tag and what its length counts
  module _ (at : ℕ) (tag : Tag) (bytes : List ℕ) (is : TagIs tag bytes) where
    pub found_behind : (m : Met) (o : Option Body) → value_at xs (at + length bytes) ≡ o → drop at xs ≡ bytes ++ drop (at + length bytes) xs → tagged tag o ≡ Some m → ObjectFound at m
    found_behind m None none there e = grind arith
    found_behind m (Some v) some there e =
        let f = value_sound (at + length bytes) v some in
        let is_m : record { object = record { tag = tag; format = v.format; bytes = v.bytes }; next = v.next } ≡ m = cc in
        subst (ObjectFound at) is_m (record {
          front = bytes ++ (f.size ++ (v.format ∷ v.bytes));
          is = record { tag = bytes; size = f.size; tagged = is; sized = f.sized; all = refl };
          there =
              there ∙ ap (λ r. bytes ++ r) (f.there ∙ sym (append_assoc f.size (v.format ∷ v.bytes) (drop v.next xs)))
              ∙ sym (append_assoc bytes _ (drop v.next xs));
          up = omega (arith, f.up);
          inside = f.inside;
        })

  pub object_sound : (at : ℕ) (m : Met) → object_at xs at ≡ Some m → ObjectFound at m
  unfolding object_at
  object_sound at m e =
      by_tests (leb (length xs) at || eqb (get_or xs at 0) 0) (goes_on (get_or xs at 0)) (leb (length xs) (at + 1) || leb 0x80 (get_or xs (at + 1) 0)) refl refl refl e
    where
      none : (None ≡ Some m) → ObjectFound at m
      none e = grind arith

      by_tests : (wrong on short : Bool) → (leb (length xs) at || eqb (get_or xs at 0) 0) ≡ wrong → goes_on (get_or xs at 0) ≡ on → (leb (length xs) (at + 1) || leb 0x80 (get_or xs (at + 1) 0)) ≡ short
          → cond wrong None (cond on (cond short None (tagged (two (get_or xs at 0 * 256 + get_or xs (at + 1) 0)) (value_at xs (at + 2)))) (tagged (one (get_or xs at 0)) (value_at xs (at + 1)))) ≡ Some m
          → ObjectFound at m
      by_tests true on short w f s e = none e
      by_tests false true true w f s e = none e
      by_tests false true false w f s e =
          let inside = leb-false _ _ (or_parts _ _ w).0 in
          let tests = or_parts _ _ s in
          let more = leb-false _ _ tests.0 in
          found_behind at (two (get_or xs at 0 * 256 + get_or xs (at + 1) 0)) (get_or xs at 0 ∷ get_or xs (at + 1) 0 ∷ [])
          (record { first = get_or xs at 0; second = get_or xs (at + 1) 0; follows = f; low = leb-false _ _ tests.1; value = refl; all = refl })
          m (value_at xs (at + 2)) refl
          (drop_more xs at 0 inside ∙ ap (λ r. get_or xs at 0 ∷ r) (drop_more xs (at + 1) 0 more ∙ ap (λ n. get_or xs (at + 1) 0 ∷ drop n xs) (add_assoc at 1 1))) e
      by_tests false false short w f s e =
          let tests = or_parts _ _ w in
          found_behind at (one (get_or xs at 0)) (get_or xs at 0 ∷ [])
          (record { used = eqb-false _ _ tests.1; alone = f; all = refl })
          m (value_at xs (at + 1)) refl (drop_more xs at 0 (leb-false _ _ tests.0)) e
