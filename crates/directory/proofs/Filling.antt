-- Blocks read into a buffer, one after another. Assumes nothing.
use Rattle.std.proofs.Common.{◌≡◌, ℕ, zero, suc, ◌+◌, ◌-◌, ◌*◌, ◌<◌, ◌≤◌, true, false, not, ◌&&◌, List, [], ◌∷◌, ◌++◌, length, get_or, take, is_some, Some, Ok, Err, sym, refl, ap, ◌∙◌, append_assoc, append-nil, arith, length-append, length-take}
use native.Mathlib.Nat.{min-eq_left}
use borrow.Rule.Slice.PartMut.{put_mid}
use Rattle.std.proofs.lemmas.List.{take_all, take_more}
use Rattle.std.proofs.lemmas.Option.{slice_get_past, gets}
use Rattle.std.proofs.lemmas.Bool.{both_ways}
use Rattle.std.specs.List.{slice_get}
use Rattle.layout.specs.Buffers.{overlaid}
use Rattle.layout.proofs.Overlaid.{put_behind}
use Rattle.layout.specs.Refusals.{refusal, Answer}
use Rattle.layout.specs.declared.refusals.Reason.TheVariants.{CardGone}
use Rattle.layout.specs.declared.refusals.Refusal.{Refusal}
use Rattle.card.specs.Blocks.{Blocks}
use Rattle.card.specs.declared.interface.Card.{Ghosts as CardKind}
use Rattle.directory.specs.Looks.{lost_at, unless_lost, Taken}
use Rattle.directory.specs.Reads.{block_look, joined, Filled}

joined_append : (blocks : Blocks) (xs ys : List ℕ) → joined blocks (xs ++ ys) ≡ joined blocks xs ++ joined blocks ys
joined_append blocks [] ys = refl
joined_append blocks (x ∷ xs) ys = simp (append_assoc, joined_append blocks xs ys)

module _ {C : Type 0} (kind : CardKind C) where
  open kind use {blocks, present, steady, full}

  pub length_joined : (card : C) (bs : List ℕ) → length (joined (blocks card) bs) ≡ 16 * length bs
  length_joined card [] = refl
  length_joined card (b ∷ bs) = length-append (blocks card b) (joined (blocks card) bs) ∙ omega (arith, full card b, length_joined card bs)

  -- the first i of some blocks have been read
  pub record Progress (touches : List ℕ) (i : ℕ) (card later : C) (before after : List ℕ) : Type 0 where
    pub same : blocks later ≡ blocks card
    pub level : present later ≡ present card
    pub off : present card ≡ false → i ≡ 0
    pub firm : steady card → steady later
    pub front : after ≡ overlaid (joined (blocks card) (take i touches)) before

  -- a block was read
  pub record One (t : ℕ) (card later : C) (bytes : List ℕ) : Type 0 where
    pub value : bytes ≡ blocks card t
    pub on : present card ≡ true
    pub level : present later ≡ present card
    pub same : blocks later ≡ blocks card

  pub one : (t : ℕ) (card later : C) (bytes : List ℕ) → Taken kind (block_look t) card later (Ok bytes) → One t card later bytes
  one t card later bytes w = at_stay w.looked.stay w.looked.off w.looked.answer w.looked.is
    where
      at_stay : (stay : ℕ) → (present card ≡ false → stay ≡ 0) → Ok bytes ≡ unless_lost (lost_at (block_look t (blocks card)) stay) (Ok (blocks card t)) → present later ≡ (present card && not (is_some (lost_at (block_look t (blocks card)) stay))) → One t card later bytes
      at_stay zero off answer is = grind arith
      at_stay (suc n) off answer is =
          let on : present card ≡ true = grind (arith, off) in
          record { value = cc; on = on; level = grind (arith, is, on); same = w.looked.same }

  -- a block was not read
  pub record Lost (t : ℕ) (card later : C) (e : Refusal) : Type 0 where
    pub gone : e ≡ refusal CardGone t
    pub off : present later ≡ false
    pub same : blocks later ≡ blocks card
    pub loose : steady card → ⊥

  pub lost : (t : ℕ) (card later : C) (e : Refusal) → Taken kind (block_look t) card later (Err e) → Lost t card later e
  lost t card later e w = at_stay w.looked.stay w.looked.answer w.looked.is
    where
      loose : steady card → ⊥
      loose s = let p = (w.firm s).0 in grind arith

      at_stay : (stay : ℕ) → Err e ≡ unless_lost (lost_at (block_look t (blocks card)) stay) (Ok (blocks card t)) → present later ≡ (present card && not (is_some (lost_at (block_look t (blocks card)) stay))) → Lost t card later e
      at_stay zero answer is = record { gone = cc; off = grind (arith, is); same = w.looked.same; loose = loose }
      at_stay (suc n) answer is = grind arith

  module _ (touches : List ℕ) (i t : ℕ) (here : slice_get touches i ≡ Some t) where
    pub progress_gone : (card later last : C) (before after : List ℕ) (e : Refusal) → Progress touches i card later before after → Taken kind (block_look t) later last (Err e) → Filled kind touches card last before after (Err e)
    progress_gone card later last before after e p w =
        let q = lost t later last e w in
        record {
          taken = record {
            looked = record {
              stay = i;
              off = p.off;
              answer = grind (arith, q.gone, here);
              same = q.same ∙ p.same;
              is = grind (arith, q.off, here);
            };
            firm = λ s. absurd (q.loose (p.firm s));
          };
          front = p.front;
        }

    pub progress_more : (card later last : C) (before after bytes : List ℕ) → i < length touches → 16 * length touches ≤ length before → Progress touches i card later before after → Taken kind (block_look t) later last (Ok bytes) → Progress touches (i + 1) card last before (put_mid (16 * i) (16 * i + 16 - 16 * i) after bytes)
    progress_more card later last before after bytes within room p w =
        let q = one t later last bytes w in
        let front = joined (blocks card) (take i touches) in
        let value : bytes ≡ blocks card t = q.value ∙ ap (λ b. b t) p.same in
        let long : length bytes ≡ 16 = ap length value ∙ full card t in
        let wide : length front ≡ 16 * i = length_joined card (take i touches) ∙ ap (λ n. 16 * n) (length-take i touches ∙ min-eq_left (omega arith)) in
        let at_i : get_or touches i 0 ≡ t = grind (arith, gets) in
        let read : joined (blocks card) (take (i + 1) touches) ≡ front ++ bytes =
        ap (joined (blocks card)) (take_more touches i 0 within ∙ ap (λ x. take i touches ++ x ∷ []) at_i)
        ∙ joined_append (blocks card) (take i touches) (t ∷ [])
        ∙ ap (λ x. front ++ x) (append-nil (blocks card t) ∙ sym value) in
        record {
          same = q.same ∙ p.same;
          level = q.level ∙ p.level;
          off = λ o. absurd (both_ways _ (p.level ∙ o) q.on);
          firm = λ s. (w.firm (p.firm s)).1;
          front =
              ap (λ x. put_mid (16 * i) (16 * i + 16 - 16 * i) x bytes) p.front
              ∙ put_behind front bytes before (16 * i) (16 * i + 16 - 16 * i) (sym wide) (omega arith) (omega arith)
              ∙ ap (λ f. overlaid f before) (sym read);
        }

  pub progress_done : (touches : List ℕ) (i : ℕ) (card later : C) (before after : List ℕ) → length touches ≤ i → Progress touches i card later before after → Filled kind touches card later before after (Ok tt)
  progress_done touches i card later before after done p =
      let none = slice_get_past touches i done in
      record {
        taken = record {
          looked = record {
            stay = i;
            off = p.off;
            answer = grind (arith, none);
            same = p.same;
            is = grind (arith, p.level, none);
          };
          firm = λ s. (refl, p.firm s);
        };
        front = p.front;
      }

  -- a card that answered every read stayed for all of them
  stayed : (touches : List ℕ) (stay : ℕ) → ◌≡◌ {A = Answer (Unit {0})} (Ok tt) (unless_lost (slice_get touches stay) (Ok tt)) → length touches ≤ stay
  stayed touches stay e = grind (arith, gets)

  -- then the buffer's front holds all of the blocks
  pub filled_whole : (touches : List ℕ) (card later : C) (before after : List ℕ) → Filled kind touches card later before after (Ok tt) → after ≡ overlaid (joined (blocks card) touches) before
  filled_whole touches card later before after f =
      f.front ∙ ap (λ t. overlaid (joined (blocks card) t) before) (take_all _ touches (stayed touches _ f.taken.looked.answer))
