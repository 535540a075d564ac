-- Looks at a card, one after another. Assumes nothing.
use Rattle.std.proofs.Common.{◌≡◌, ℕ, ◌+◌, Bool, not, ◌&&◌, List, [], ◌∷◌, ◌++◌, length, is_some, Some, None, Ok, Err, Option, sym, refl, ap, ◌∙◌, subst, append-nil, arith, length-append}
use Rattle.std.proofs.Math.Bool.{and-true}
use Rattle.std.proofs.lemmas.List.{get_or_append_left, get_or-append-add}
use Rattle.std.proofs.lemmas.Option.{gets}
use Rattle.std.specs.List.{slice_get}
use Rattle.layout.specs.Refusals.{Answer, then}
use Rattle.layout.specs.declared.refusals.Refusal.{Refusal}
use Rattle.card.specs.Blocks.{Blocks}
use Rattle.card.specs.declared.interface.Card.{Ghosts as CardKind}
use Rattle.directory.specs.Looks.{Look, judged, touches_after, then_look, lost_at, unless_lost, Looked, Taken}

-- nothing was read
pub looked_none : {X : Type 0} (r : Answer X) (blocks : Blocks) (on : Bool) → Looked (judged r) blocks on blocks on r
looked_none r blocks on = record { stay = 0; off = λ _. refl; answer = refl; same = refl; is = sym (and-true on) }

nth_none : (xs : List ℕ) → slice_get xs 0 ≡ None → length xs ≡ 0
nth_none [] e = refl
nth_none (x ∷ xs) e = grind arith

nth_front : (xs ys : List ℕ) (i b : ℕ) → slice_get xs i ≡ Some b → slice_get (xs ++ ys) i ≡ Some b
nth_front xs ys i b e = grind (arith, gets, length-append {A = ℕ}, get_or_append_left)

nth_back : (xs ys : List ℕ) (i : ℕ) → slice_get (xs ++ ys) (length xs + i) ≡ slice_get ys i
nth_back xs ys i = grind (arith, gets, length-append {A = ℕ}, get_or-append-add)

module _ {X Y : Type 0} (l : Look X) (next : X → Look Y) where
  -- the answer of a look that was not lost
  kept : (lost : Option ℕ) (x : X) (r : Answer X) → r ≡ unless_lost lost l.answer → r ≡ Ok x → (lost ≡ None) × (l.answer ≡ Ok x)
  kept None x r e is = (refl, sym e ∙ is)
  kept (Some b) x r e is = grind arith

  -- the first look is a refusal
  pub looked_stop : {b after : Blocks} {on still : Bool} {r : Answer X} {e : Refusal} → Looked l b on after still r → r ≡ Err e → Looked (then_look l next) b on after still (Err e)
  looked_stop {b} {after} {on} {still} {r} {e} w is =
      let s = stopped (lost_at l w.stay) refl in
      record { stay = w.stay; off = w.off; answer = s.0; same = w.same; is = s.1 }
    where
      stopped : (lost : Option ℕ) → lost_at l w.stay ≡ lost
          → (Err e ≡ unless_lost (lost_at (then_look l next) w.stay) (then l.answer (λ x. (next x).answer))) × (still ≡ (on && not (is_some (lost_at (then_look l next) w.stay))))
      stopped None none =
          let refused : l.answer ≡ Err e = grind (arith, w.answer, none) in (simp (refused, append-nil, none) refl, simp (refused, append-nil) w.is)
      stopped (Some at) some =
          let lost = nth_front l.touches (touches_after l.answer next) w.stay at some in (grind (arith, w.answer, some, lost), grind (arith, w.is, some, lost))

  -- the first look is none
  pub looked_then : {b after later : Blocks} {on still last : Bool} {r : Answer X} {s : Answer Y} (x : X) → Looked l b on after still r → r ≡ Ok x → Looked (next x) after still later last s → Looked (then_look l next) b on later last s
  looked_then {b} {after} {later} {on} {still} {last} {r} {s} x w is v =
      let k = kept (lost_at l w.stay) x r w.answer is in
      let level : still ≡ on = w.is ∙ ap (λ o. on && not (is_some o)) k.0 ∙ and-true on in
      let stay = length l.touches + v.stay in
      record {
        stay = stay;
        off = λ o.
            let none : length l.touches ≡ 0 = nth_none l.touches (ap (slice_get l.touches) (sym (w.off o)) ∙ k.0) in
            let zero : v.stay ≡ 0 = v.off (level ∙ o) in
            omega arith;
        answer = simp (k.1, nth_back) v.answer;
        same = v.same ∙ w.same;
        is = simp (k.1, nth_back) (rw level at v.is);
      }

-- nothing was read of a card of any kind
pub taken_none : {C X : Type 0} (kind : CardKind C) (r : Answer X) (card : C) → Taken kind (λ _. judged r) card card r
taken_none kind r card = record { looked = looked_none r (kind.blocks card) (kind.present card); firm = λ s. (refl, s) }

-- the same of looks at a card of any kind
module _ {C X Y : Type 0} (kind : CardKind C) (l : Blocks → Look X) where
  open kind use {blocks, present}

  -- a judgement of what a look has shown
  pub taken_judge : (judgement : Blocks → X → Answer Y) {card later : C} {r : Answer X} {s : Answer Y} (x : X) → Taken kind l card later r → r ≡ Ok x → s ≡ judgement (blocks card) x → Taken kind (λ b. then_look (l b) (λ y. judged (judgement b y))) card later s
  taken_judge judgement {card} {later} {r} {s} x w is e =
      let none = looked_none s (blocks later) (present later) in
      let level : judged s ≡ judged (judgement (blocks card) x) = ap judged e in
      record {
        looked = looked_then (l (blocks card)) (λ y. judged (judgement (blocks card) y)) x w.looked is (subst (λ k. Looked k (blocks later) (present later) (blocks later) (present later) s) level none);
        firm = λ t.
            let p = w.firm t in
            (e ∙ ap (λ a. then a (judgement (blocks card))) (sym is ∙ p.0), p.1);
      }

  module _ (next : Blocks → X → Look Y) where
    pub taken_stop : {card later : C} {r : Answer X} (e : Refusal) → Taken kind l card later r → r ≡ Err e → Taken kind (λ b. then_look (l b) (next b)) card later (Err e)
    taken_stop {card} e w is = record {
      looked = looked_stop (l (blocks card)) (next (blocks card)) w.looked is;
      firm = λ s.
          let p = w.firm s in
          (ap (λ a. then a (λ x. (next (blocks card) x).answer)) (sym is ∙ p.0), p.1);
    }

    pub taken_then : {card later last : C} {r : Answer X} {s : Answer Y} (x : X) → Taken kind l card later r → r ≡ Ok x → Taken kind (λ b. next b x) later last s → Taken kind (λ b. then_look (l b) (next b)) card last s
    taken_then {card} {later} {last} {r} {s} x w is v =
        let same : blocks later ≡ blocks card = w.looked.same in
        record {
          looked = looked_then (l (blocks card)) (next (blocks card)) x w.looked is (subst (λ b. Looked (next b x) (blocks later) (present later) (blocks last) (present last) s) same v.looked);
          firm = λ t.
              let p = w.firm t in
              let q = v.firm p.1 in
              (q.0 ∙ ap (λ b. (next b x).answer) same ∙ ap (λ a. then a (λ y. (next (blocks card) y).answer)) (sym is ∙ p.0), q.1);
        }

-- for how many reads the card stayed, over two looks
module _ {C X Y : Type 0} (kind : CardKind C) (l : Blocks → Look X) where
  open kind use {blocks, present}

  pub stay_judge : (judgement : Blocks → X → Answer Y) {card later : C} {r : Answer X} {s : Answer Y} (x : X) (w : Taken kind l card later r) (is : r ≡ Ok x) (e : s ≡ judgement (blocks card) x)
      → (taken_judge kind l judgement x w is e).looked.stay ≡ length (l (blocks card)).touches + 0
  unfolding taken_judge looked_then looked_none
  stay_judge judgement x w is e = refl

  module _ (next : Blocks → X → Look Y) where
    pub stay_stop : {card later : C} {r : Answer X} (e : Refusal) (w : Taken kind l card later r) (is : r ≡ Err e) → (taken_stop kind l next e w is).looked.stay ≡ w.looked.stay
    unfolding taken_stop looked_stop
    stay_stop e w is = refl

    pub stay_then : {card later last : C} {r : Answer X} {s : Answer Y} (x : X) (w : Taken kind l card later r) (is : r ≡ Ok x) (v : Taken kind (λ b. next b x) later last s)
        → (taken_then kind l next x w is v).looked.stay ≡ length (l (blocks card)).touches + v.looked.stay
    unfolding taken_then looked_then
    stay_then x w is v = refl
