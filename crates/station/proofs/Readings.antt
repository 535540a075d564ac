-- Reading a service, step after step. Assumes nothing.
use Rattle.std.proofs.Common.{◌≡◌, ℕ, ◌+◌, ◌*◌, ◌≤◌, List, ◌++◌, length, take, drop, Some, None, Ok, Err, Option, sym, refl, ap, ◌∙◌, subst, append-nil, zero-add, arith, length-take}
use Rattle.std.proofs.Math.Seq.{take-append-add, drop-append_seam}
use Rattle.std.proofs.lemmas.Grind.{common_steps}
use Rattle.std.proofs.lemmas.List.{drop_all, take_at, take_all}
use Rattle.std.proofs.lemmas.Option.{slice_get_within}
use Rattle.layout.specs.Buffers.{overlaid}
use Rattle.layout.specs.Refusals.{Answer}
use Rattle.layout.specs.declared.profiles.Profile.{Profile}
use Rattle.layout.specs.declared.refusals.Refusal.{Refusal}
use Rattle.card.specs.Blocks.{Blocks}
use Rattle.card.specs.declared.interface.Card.{Ghosts as CardKind}
use Rattle.directory.specs.Checks.{check_look, reads, verdict}
use Rattle.directory.specs.Looks.{Look, judged, then_look, touches_after, lost_at, Taken}
use Rattle.directory.specs.Reads.{run_reads, touch_look, joined, Filled}
use Rattle.directory.specs.declared.accepted.Directory.{Directory}
use Rattle.directory.proofs.Filling.{length_joined, filled_whole}
use Rattle.directory.proofs.Looking.{taken_none, taken_judge, taken_stop, taken_then, stay_judge, stay_stop, stay_then}
use Rattle.directory.proofs.RunTouches.{length_touches}
use Rattle.directory.proofs.SealedReads.{whole_run}
use Rattle.station.specs.Finds.{readable, found_in}
use Rattle.station.specs.Reads.{room_judged, reading_in, touches_of, run_look, room_for, after_check, read_look, run_read, ReadDone}
use Rattle.station.specs.declared.frame.Reading.{Reading}
use Rattle.station.specs.declared.search.Found.{Found}
use Rattle.station.proofs.AcceptedSlots.{found_on_card}

-- a service that was found, and a buffer that is long enough for it
pub room_ok : (d : Directory) (number room : ℕ) (f : Found) → found_in d number ≡ Ok f → room_judged f.run.length room ≡ Ok tt → (room_for d number room ≡ Ok f) × (16 * f.run.length ≤ room)
room_ok d number room f found enough = (grind (arith, found, enough), grind (arith, common_steps, enough))

module _ {C : Type 0} (kind : CardKind C) (p : Profile) (number : ℕ) (card : C) (before : List ℕ) where
  open kind use {blocks}

  -- where no block of the run was read, the buffer is as it was
  unread : (stay : ℕ) → length (take stay (read_look p number (length before) (blocks card)).touches) ≤ length (reads p (blocks card))
      → before ≡ overlaid (joined (blocks card) (run_read p number (length before) (blocks card) stay)) before
  unread stay few = ap (λ t. overlaid (joined (blocks card) t) before) (sym (drop_all (length (reads p (blocks card))) (take stay (read_look p number (length before) (blocks card)).touches) few))

  few_touches : (stay : ℕ) → length (read_look p number (length before) (blocks card)).touches ≤ length (reads p (blocks card))
      → before ≡ overlaid (joined (blocks card) (run_read p number (length before) (blocks card) stay)) before
  few_touches stay few = unread stay (omega (arith, length-take stay (read_look p number (length before) (blocks card)).touches))

  few_stay : (stay : ℕ) → stay ≤ length (reads p (blocks card)) → before ≡ overlaid (joined (blocks card) (run_read p number (length before) (blocks card) stay)) before
  few_stay stay few = unread stay (omega (arith, length-take stay (read_look p number (length before) (blocks card)).touches))

  -- the number is refused
  pub number_refused : (e : Refusal) → readable number ≡ Err e → ReadDone kind p number card card before before (Err e)
  unfolding read_look
  number_refused e is = record {
    taken = taken_stop kind (λ _. judged (readable number)) (λ b _. then_look (check_look p b) (after_check number (length before) b)) e (taken_none kind (readable number) card) is;
    buffer = few_touches _ (omega (arith, ap (λ a. length (touches_after a (λ _. then_look (check_look p (blocks card)) (after_check number (length before) (blocks card))))) is));
  }

  module _ (numbered : readable number ≡ Ok tt) where
    -- what is asked for once the number is accepted
    asked_after : (read_look p number (length before) (blocks card)).touches ≡ reads p (blocks card) ++ touches_after (verdict p (blocks card)) (after_check number (length before) (blocks card))
    unfolding read_look
    asked_after = ap (λ a. touches_after a (λ _. then_look (check_look p (blocks card)) (after_check number (length before) (blocks card)))) numbered

    behind_number : {later : C} {s : Answer Reading} → Taken kind (λ b. then_look (check_look p b) (after_check number (length before) b)) card later s
        → Taken kind (read_look p number (length before)) card later s
    unfolding read_look
    behind_number v = taken_then kind (λ _. judged (readable number)) (λ b _. then_look (check_look p b) (after_check number (length before) b)) tt (taken_none kind (readable number) card) numbered v

    stay_behind : {later : C} {s : Answer Reading} (v : Taken kind (λ b. then_look (check_look p b) (after_check number (length before) b)) card later s)
        → (behind_number v).looked.stay ≡ v.looked.stay
    unfolding read_look behind_number
    stay_behind v = stay_then kind (λ _. judged (readable number)) (λ b _. then_look (check_look p b) (after_check number (length before) b)) tt (taken_none kind (readable number) card) numbered v ∙ zero-add v.looked.stay

    -- the directory check refuses
    pub check_refused : (later : C) (r : Answer Directory) (e : Refusal) → Taken kind (check_look p) card later r → r ≡ Err e → ReadDone kind p number card later before before (Err e)
    check_refused later r e w is =
        let v = taken_stop kind (check_look p) (λ b. after_check number (length before) b) e w is in
        record { taken = behind_number v; buffer = by_lost (lost_at (check_look p (blocks card)) w.looked.stay) refl v (stay_behind v ∙ stay_stop kind (check_look p) (λ b. after_check number (length before) b) e w is) }
      where
        by_lost : (lost : Option ℕ) → lost_at (check_look p (blocks card)) w.looked.stay ≡ lost → (v : Taken kind (λ b. then_look (check_look p b) (after_check number (length before) b)) card later (Err e))
            → (behind_number v).looked.stay ≡ w.looked.stay
            → before ≡ overlaid (joined (blocks card) (run_read p number (length before) (blocks card) (behind_number v).looked.stay)) before
        by_lost (Some b) lost v level = few_stay _ (omega (arith, slice_get_within (reads p (blocks card)) w.looked.stay b lost))
        by_lost None kept v level =
            let refused : verdict p (blocks card) ≡ Err e = grind (arith, w.looked.answer, kept, is) in
            few_touches _ (omega (
              arith,
              ap length (asked_after ∙ ap (λ a. reads p (blocks card) ++ touches_after a (after_check number (length before) (blocks card))) refused ∙ append-nil (reads p (blocks card))),
            ))

    module _ (later : C) (d : Directory) (w : Taken kind (check_look p) card later (Ok d)) where
      -- a check that was not refused lost no read
      pub kept : verdict p (blocks card) ≡ Ok d
      kept = grind (arith, w.looked.answer)

      asked_run : (read_look p number (length before) (blocks card)).touches ≡ reads p (blocks card) ++ touches_after (room_for d number (length before)) (run_look (blocks card))
      asked_run = asked_after ∙ ap (λ a. reads p (blocks card) ++ touches_after a (after_check number (length before) (blocks card))) kept

      behind_check : {last : C} {s : Answer Reading} → Taken kind (λ b. after_check number (length before) b d) later last s
          → Taken kind (λ b. then_look (check_look p b) (after_check number (length before) b)) card last s
      behind_check v = taken_then kind (check_look p) (λ b. after_check number (length before) b) d w refl v

      stay_checked : {last : C} {s : Answer Reading} (v : Taken kind (λ b. after_check number (length before) b d) later last s)
          → (behind_check v).looked.stay ≡ length (reads p (blocks card)) + v.looked.stay
      unfolding behind_check
      stay_checked v = stay_then kind (check_look p) (λ b. after_check number (length before) b) d w refl v

      -- no such service, or a short buffer
      pub found_refused : (e : Refusal) → room_for d number (length before) ≡ Err e → ReadDone kind p number card later before before (Err e)
      found_refused e is =
          let v = behind_check (taken_stop kind (λ _. judged (room_for d number (length before))) (λ b. run_look b) e (taken_none kind (room_for d number (length before)) later) is) in
          record {
            taken = behind_number v;
            buffer = few_touches _ (omega (arith, ap length (asked_run ∙ ap (λ a. reads p (blocks card) ++ touches_after a (run_look (blocks card))) is ∙ append-nil (reads p (blocks card)))));
          }

      module _ (f : Found) (found : found_in d number ≡ Ok f) (enough : room_judged f.run.length (length before) ≡ Ok tt) where
        room : room_for d number (length before) ≡ Ok f
        room = (room_ok d number (length before) f found enough).0

        -- the run lies on the card and fits into the buffer, so all of it is to be read
        filled_run : (last : C) (after : List ℕ) (r : Answer (Unit {0})) → Filled kind (run_reads f.run.start.0 f.run.length (length before)) later last before after r → Filled kind (touches_of f) later last before after r
        filled_run last after r =
            subst (λ t. Filled kind t later last before after r)
            (whole_run f.run.start.0 f.run.length (length before) (found_on_card p (blocks card) d number f kept found) (room_ok d number (length before) f found enough).1)

        behind_found : {last : C} {s : Answer Reading} → Taken kind (λ b. run_look b f) later last s → Taken kind (λ b. after_check number (length before) b d) later last s
        behind_found v = taken_then kind (λ _. judged (room_for d number (length before))) (λ b. run_look b) f (taken_none kind (room_for d number (length before)) later) room v

        stay_found : {last : C} {s : Answer Reading} (v : Taken kind (λ b. run_look b f) later last s)
            → (behind_number (behind_check (behind_found v))).looked.stay ≡ length (reads p (blocks card)) + v.looked.stay
        unfolding behind_found
        stay_found v =
            stay_behind (behind_check (behind_found v)) ∙ stay_checked (behind_found v)
            ∙ ap (λ k. length (reads p (blocks card)) + k)
            (stay_then kind (λ _. judged (room_for d number (length before))) (λ b. run_look b) f (taken_none kind (room_for d number (length before)) later) room v ∙ zero-add v.looked.stay)

        -- the blocks of the run that were read
        run_read_lem : (stay s : ℕ) → stay ≡ length (reads p (blocks card)) + s → run_read p number (length before) (blocks card) stay ≡ take s (touches_of f)
        run_read_lem stay s level =
            let rs = reads p (blocks card) in
            let all : (read_look p number (length before) (blocks card)).touches ≡ rs ++ touches_of f =
            asked_run ∙ ap (λ a. rs ++ touches_after a (run_look (blocks card))) room ∙ ap (λ t. rs ++ t) (append-nil (touches_of f)) in
            (λ i. drop (length rs) (take (level i) (all i))) ∙ ap (drop (length rs)) (take-append-add rs (touches_of f) s) ∙ drop-append_seam rs (take s (touches_of f))

        -- the run was read up to the last of some blocks
        front_is : (last : C) (after : List ℕ) (s stay : ℕ) → stay ≡ length (reads p (blocks card)) + s → after ≡ overlaid (joined (blocks later) (take s (touches_of f))) before
            → after ≡ overlaid (joined (blocks card) (run_read p number (length before) (blocks card) stay)) before
        front_is last after s stay level front =
            front ∙ (λ i. overlaid (joined (w.looked.same i) (take s (touches_of f))) before) ∙ ap (λ t. overlaid (joined (blocks card) t) before) (sym (run_read_lem stay s level))

        -- the card went while the run was read
        pub run_gone : (last : C) (after : List ℕ) (e : Refusal) → Filled kind (run_reads f.run.start.0 f.run.length (length before)) later last before after (Err e) → ReadDone kind p number card last before after (Err e)
        run_gone last after e read =
            let filled = filled_run last after (Err e) read in
            let judgement : Blocks → Unit {0} → Look Reading = λ b _. judged (reading_in (joined b (touches_of f))) in
            let v = taken_stop kind (touch_look (touches_of f)) judgement e filled.taken refl in
            record {
              taken = behind_number (behind_check (behind_found v));
              buffer = front_is last after filled.taken.looked.stay _
                  (stay_found v ∙ ap (λ k. length (reads p (blocks card)) + k) (stay_stop kind (touch_look (touches_of f)) judgement e filled.taken refl))
                  filled.front;
            }

        -- the run was read, and the frame in it judged
        pub run_done : (last : C) (after : List ℕ) (s : Answer Reading) → Filled kind (run_reads f.run.start.0 f.run.length (length before)) later last before after (Ok tt) → s ≡ reading_in (take (16 * f.run.length) after)
            → ReadDone kind p number card last before after s
        run_done last after s read is =
            let filled = filled_run last after (Ok tt) read in
            let touches = touches_of f in
            let bytes = joined (blocks later) touches in
            let whole = filled_whole kind touches later last before after filled in
            let long : length bytes ≡ 16 * f.run.length = grind (arith, length_joined, length_touches) in
            let front : take (16 * f.run.length) after ≡ bytes = ap (take (16 * f.run.length)) whole ∙ take_at bytes (drop (length bytes) before) (16 * f.run.length) long in
            let judgement : Blocks → Unit {0} → Answer Reading = λ b _. reading_in (joined b touches) in
            let e : s ≡ reading_in bytes = is ∙ ap reading_in front in
            let v = taken_judge kind (touch_look touches) judgement tt filled.taken refl e in
            record {
              taken = behind_number (behind_check (behind_found v));
              buffer = front_is last after (length touches + 0) _
                  (stay_found v ∙ ap (λ k. length (reads p (blocks card)) + k) (stay_judge kind (touch_look touches) judgement tt filled.taken refl e))
                  (whole ∙ ap (λ t. overlaid (joined (blocks later) t) before) (sym (take_all (length touches + 0) touches (omega arith))));
            }
