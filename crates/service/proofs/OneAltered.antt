-- One altered byte of service data that does not move the frame is refused. Assumes nothing.
use Rattle.std.proofs.Common.{◌≡◌, ℕ, ◌+◌, ◌*◌, ◌<◌, ◌≤◌, true, false, ◌⊎◌, List, ◌++◌, length, get_or, take, drop, Ok, sym, refl, ap, ◌∙◌, inl, inr, ⊎_elim, arith, ext_get_or}
use Rattle.std.proofs.ByRecursion.{All-take}
use Rattle.std.proofs.lemmas.List.Prefix.{at_from_reads, at_reads}
use Rattle.std.proofs.lemmas.List.{get_or-take, get_or_past, length-take-le}
use Rattle.std.proofs.lemmas.Bool.{ne_eqb, cases_lt, cases_Bool}
use Rattle.layout.specs.Crc.{crc16}
use Rattle.layout.specs.Differ.{Bytes, DifferInOne}
use Rattle.layout.specs.Refusals.{then, refuse}
use Rattle.layout.specs.declared.refusals.Reason.{Reason}
use Rattle.layout.specs.declared.refusals.Reason.TheVariants.{DataFrame, DataChecksum}
use Rattle.layout.specs.CrcShows.{crc16_shows}
use Rattle.service.specs.Frames.{Held, outer, header_of, marked, sum_right, end_judged, content_in, frame_in, frame_of}
use Rattle.service.specs.Laws.{Holds, Altered, OneAlteredByte}
use Rattle.service.specs.declared.frames.Header.{Header}
use Rattle.service.proofs.FrameForms.{end_of, Places, places, header_at, header_complete, outer_tag, frame_sound}

-- the front of two strings that differ in one place of it
differ_take : (n : ℕ) (xs ys : List ℕ) (d : DifferInOne xs ys) → n ≤ length xs → d.place < n → DifferInOne (take n xs) (take n ys)
differ_take n xs ys d within low =
    let long = d.long in
    let nx = length-take-le n xs within in
    let ny = length-take-le n ys (omega arith) in
    record {
      long = ny ∙ sym nx;
      place = d.place;
      within = omega arith;
      there = λ e. d.there (sym (get_or-take n ys d.place 0 low) ∙ e ∙ get_or-take n xs d.place 0 low);
      elsewhere = λ k ne.
          ⊎_elim
          (λ (below : k < n). get_or-take n ys k 0 below ∙ d.elsewhere k ne ∙ sym (get_or-take n xs k 0 below))
          (λ (above : n ≤ k). get_or_past (take n ys) k 0 (omega arith) ∙ sym (get_or_past (take n xs) k 0 (omega arith)))
          (cases_lt k n);
    }

-- strings that agree below a place have the same front
same_take : (n : ℕ) (xs ys : List ℕ) (d : DifferInOne xs ys) → n ≤ length xs → n ≤ d.place → take n ys ≡ take n xs
same_take n xs ys d within high =
    let long = d.long in
    let nx = length-take-le n xs within in
    let ny = length-take-le n ys (omega arith) in
    ext_get_or 0 (take n ys) (take n xs) (ny ∙ sym nx)
    (λ k h. get_or-take n ys k 0 (omega arith) ∙ d.elsewhere k (λ e. omega arith) ∙ sym (get_or-take n xs k 0 (omega arith)))

-- a frame whose end is refused
refused_end : (run : List ℕ) (h : Header) (why : Reason) (at : ℕ) → header_of run ≡ Ok h → end_judged run h.end ≡ refuse why at → frame_of run ≡ refuse why at
unfolding frame_in
refused_end run h why at header ended = ap (λ r. then r (frame_in run)) header ∙ ap (λ r. then r (λ _. content_in run h)) ended

module _ (run after : List ℕ) (f : Held) (h : Holds run f) (d : DifferInOne run after) where
  module _ (p : Places run f h) where
    -- what is not altered is read as before
    same : (k : ℕ) → (k ≡ d.place → ⊥) → get_or after k 0 ≡ get_or run k 0
    same = d.elsewhere

    -- the header, where its length is not altered
    header : (tag : ℕ) → get_or after 0 0 ≡ tag → outer tag ≡ true → ((k : ℕ) → 0 < k → k < f.start → k ≡ d.place → ⊥) → header_of after ≡ Ok (header_at tag f.start (end_of f))
    header tag is_tag is_outer away =
        let size = h.size in
        let some : 0 < length after = omega (arith, p.some, d.long) in
        let starts = h.start in
        let fits : 1 + length size ≤ length after = omega (arith, d.long, p.room, starts) in
        let there : drop 1 after ≡ size ++ drop (1 + length size) after =
        at_from_reads 0 after size 1 fits (λ i low. same (1 + i) (away (1 + i) (omega arith) (omega arith)) ∙ at_reads 0 run size 1 _ p.header i low) in
        header_complete after tag (length f.content) size _ some is_tag is_outer h.layout.sized there
        ∙ ap (λ s. Ok (header_at tag s (s + length f.content))) (sym starts)

    -- the mark, where it is not altered
    mark : (end_of f ≡ d.place → ⊥) → (end_of f + 1 ≡ d.place → ⊥) → marked after (end_of f) ≡ true
    mark first second = grind (arith, p.room, d.long, same _ first, same _ second, p.first, p.second)

    sum_was : get_or run (end_of f + 2) 0 * 256 + get_or run (end_of f + 3) 0 ≡ crc16 (take (end_of f + 2) run)
    sum_was = (λ i. p.high i * 256 + p.low i) ∙ h.layout.sum ∙ ap crc16 (sym p.before)

    wrong_sum : marked after (end_of f) ≡ true → sum_right after (end_of f) ≡ false → end_judged after (end_of f) ≡ refuse DataChecksum (end_of f + 2)
    wrong_sum m s = grind arith

    -- a byte before the checksum was altered
    sum_covers : Bytes run → Bytes after → d.place < end_of f + 2 → sum_right after (end_of f) ≡ false
    sum_covers bx by low =
        let n = end_of f + 2 in
        let within : n ≤ length run = omega (arith, p.room) in
        ne_eqb _ _ (λ e. crc16_shows (take n run) (take n after) (All-take _ n run bx) (All-take _ n after by) (differ_take n run after d within low)
        (sym e ∙ (λ i. same (end_of f + 2) (λ k. omega arith) i * 256 + same (end_of f + 3) (λ k. omega arith) i) ∙ sum_was))

    -- a byte of the checksum was altered
    sum_itself : end_of f + 2 ≤ d.place → d.place < end_of f + 4 → sum_right after (end_of f) ≡ false
    sum_itself low high =
        let n = end_of f + 2 in
        let covers : crc16 (take n after) ≡ crc16 (take n run) = ap crc16 (same_take n run after d (omega (arith, p.room)) low) in
        grind (arith, d.there, same (end_of f + 2), same (end_of f + 3), covers, sum_was)

    -- a byte of the mark was altered
    mark_breaks : end_of f ≤ d.place → d.place < end_of f + 2 → end_judged after (end_of f) ≡ refuse DataFrame (end_of f)
    mark_breaks low high = grind (arith, d.there, p.first, p.second, same (end_of f), same (end_of f + 1))

    kept : f.start ≤ d.place → header_of after ≡ Ok (header_at f.tag f.start (end_of f))
    kept low =
        let starts = h.start in
        header f.tag (same 0 (λ e. omega arith) ∙ p.tag) (outer_tag _ h.layout.outer) (λ k some small e. omega arith)

    tag_altered : Bytes run → Bytes after → d.place ≡ 0 → (frame_of after ≡ refuse DataFrame 0) ⊎ (frame_of after ≡ refuse DataChecksum (end_of f + 2))
    tag_altered bx by first =
        let starts = h.start in
        let some : 0 < length after = omega (arith, p.some, d.long) in
        ⊎_elim
        (λ (is : outer (get_or after 0 0) ≡ true).
        inr (refused_end after _ DataChecksum _ (header (get_or after 0 0) refl is (λ k some small e. omega arith))
        (wrong_sum (mark (λ e. omega arith) (λ e. omega arith)) (sum_covers bx by (omega arith)))))
        (λ (is : outer (get_or after 0 0) ≡ false).
        inl (grind (arith, some, is)))
        (cases_Bool (outer (get_or after 0 0)))

    altered : Bytes run → Bytes after → Altered f d.place after
    altered bx by = record {
      tag = tag_altered bx by;
      content = λ low high.
          refused_end after _ DataChecksum _ (kept low)
          (wrong_sum (mark (λ e. omega arith) (λ e. omega arith)) (sum_covers bx by (omega arith)));
      mark = λ low high. refused_end after _ DataFrame _ (kept (omega arith)) (mark_breaks low high);
      sum = λ low high.
          refused_end after _ DataChecksum _ (kept (omega arith))
          (wrong_sum (mark (λ e. omega arith) (λ e. omega arith)) (sum_itself low high));
    }

pub one_altered : (run : List ℕ) → OneAlteredByte run
one_altered run f after bx by e d = let h = frame_sound run f e in altered run after f h d (places run f h) bx by
