-- What is written is service data by the layout, and is read back. Assumes nothing.
use Rattle.std.proofs.Common.{◌≡◌, ℕ, ◌+◌, ◌-◌, ◌*◌, ◌/◌, ◌%◌, ◌<◌, ◌≤◌, true, List, [], ◌∷◌, ◌++◌, length, take, drop, replicate, Ok, sym, refl, ap, ◌∙◌, append_assoc, mul_comm, arith, length-append, length-drop}
use native.Mathlib.Nat.{div-add-mod}
use lib.ListN.{length-replicate}
use borrow.Rule.Slice.PartMut.{put_mid}
use Rattle.std.proofs.lemmas.List.{length-take-le}
use Rattle.layout.specs.Buffers.{overlaid}
use Rattle.layout.specs.Crc.{crc16}
use Rattle.layout.proofs.Overlaid.{put_behind}
use Rattle.service.specs.Frames.{outer, header_size, blocks_for, summed, frame_bytes, write_judged}
use Rattle.service.specs.Grammar.{covered, RunHolds}
use Rattle.service.specs.Laws.{Fewest, WriteSound}
use Rattle.service.specs.Lengths.{LengthIs, short_length}
use Rattle.service.specs.Objects.{objects_of}
use Rattle.service.proofs.Contents.{content_exact}
use Rattle.service.proofs.FrameForms.{counted_ok, frame_complete, tag_outer}

pub short_is : (n : ℕ) → LengthIs n (short_length n)
short_is n = grind arith

pub length_short : (n : ℕ) → 1 + length (short_length n) ≡ header_size n
length_short n = grind arith

header_small : (n : ℕ) → header_size n ≤ 3
header_small n = grind arith

pub blocks_fewest : (c : ℕ) → Fewest (header_size c + c + 4) (blocks_for c)
blocks_fewest c = record { enough = omega arith; needed = omega arith }

length_covered : (tag : ℕ) (content : List ℕ) → length (covered tag (short_length (length content)) content) ≡ header_size (length content) + length content + 2
length_covered tag content =
    let size = short_length (length content) in
    omega (arith, length_short (length content), length-append size (content ++ (0xC0 ∷ 0x02 ∷ [])), length-append content (0xC0 ∷ 0x02 ∷ []))

-- what the judgement lets pass
pub judged_ok : (tag : ℕ) (content : List ℕ) → write_judged tag content ≡ Ok tt → (outer tag ≡ true) × (length content ≤ 255)
judged_ok tag content e = (grind arith, grind arith)

module _ (tag : ℕ) (content : List ℕ) where
  written_holds : outer tag ≡ true → RunHolds tag (short_length (length content)) content (frame_bytes tag content)
  unfolding frame_bytes
  written_holds is_outer =
      let sum = crc16 (covered tag (short_length (length content)) content) in
      record {
        outer = tag_outer _ is_outer;
        sized = short_is (length content);
        high = sum / 256;
        low = sum % 256;
        sum = ap (λ n. n + sum % 256) (mul_comm (sum / 256) 256) ∙ div-add-mod sum 256;
        padding = 16 * blocks_for (length content) - (header_size (length content) + length content + 4);
        all = append_assoc (covered tag (short_length (length content)) content) (sum / 256 ∷ sum % 256 ∷ []) _;
      }

  written_long : length (frame_bytes tag content) ≡ 16 * blocks_for (length content)
  unfolding frame_bytes
  written_long =
      let body = covered tag (short_length (length content)) content in
      let sum = crc16 body / 256 ∷ crc16 body % 256 ∷ [] in
      let k = 16 * blocks_for (length content) - (header_size (length content) + length content + 4) in
      omega (arith, length-append (body ++ sum) (replicate k 0), length-append body sum, length-replicate {A = ℕ} k 0, length_covered tag content, (blocks_fewest (length content)).enough)

  pub write_sound : WriteSound tag content
  write_sound e =
      let ok = judged_ok tag content e in
      let holds = written_holds ok.0 in
      record {
        holds = holds;
        back = λ n e.
            let os = counted_ok (objects_of content) n e in
            frame_complete (frame_bytes tag content) _ (record {
              size = short_length (length content);
              start = sym (length_short (length content));
              layout = holds;
              objects = os.0;
              content = (content_exact content).sound os.0 os.1;
              count = os.2;
            });
        long = written_long;
      }

  -- the frame up to its padding copied to the front of a buffer, and then 00 put behind it
  module _ (run front copied filled : List ℕ) (n to : ℕ)
      (wide : length run ≡ 272) (short : length content ≤ 255)
      (front_is : front ≡ summed (covered tag (short_length (length content)) content)) (n_is : n ≡ length front) (to_is : to ≡ 16 * blocks_for (length content))
      (copied_is : copied ≡ front) (filled_is : filled ≡ replicate (length (take (to - n) (drop n (put_mid 0 n run copied)))) 0) where
    pub frame_put : put_mid n (to - n) (put_mid 0 n run copied) filled ≡ overlaid (frame_bytes tag content) run
    unfolding frame_bytes
    frame_put =
        let c = length content in
        let body = covered tag (short_length c) content in
        let zeros : List ℕ = replicate (16 * blocks_for c - (header_size c + c + 4)) 0 in
        let small = header_small c in
        let enough = (blocks_fewest c).enough in
        let needed = (blocks_fewest c).needed in
        let most : blocks_for c < 18 = omega arith in
        let long : n ≡ header_size c + c + 4 =
        omega (arith, n_is, ap length front_is, length-append body (crc16 body / 256 ∷ crc16 body % 256 ∷ []), length_covered tag content) in
        let first : put_mid 0 n run copied ≡ overlaid front run =
        ap (put_mid 0 n run) copied_is ∙ put_behind [] front run 0 n refl n_is (omega arith) in
        let after = drop n (put_mid 0 n run copied) in
        let left : length after ≡ 272 - n = omega (arith, ap length first, length-append front (drop (length front) run), length-drop (length front) run, length-drop n (put_mid 0 n run copied)) in
        let room : length (take (to - n) after) ≡ to - n = length-take-le (to - n) after (omega arith) in
        let filled_zeros : filled ≡ zeros = filled_is ∙ ap (λ k. replicate k 0) (omega arith) in
        (λ i. put_mid n (to - n) (first i) (filled_zeros i))
        ∙ put_behind front zeros run n (to - n) n_is (omega (arith, length-replicate {A = ℕ} (16 * blocks_for c - (header_size c + c + 4)) 0)) (omega arith)
        ∙ ap (λ f. overlaid (f ++ zeros) run) front_is
