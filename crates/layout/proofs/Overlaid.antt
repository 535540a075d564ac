-- A buffer that is filled from the front, one part after another. Assumes nothing.
use Rattle.std.proofs.Common.{◌≡◌, ℕ, ◌+◌, ◌≤◌, List, ◌++◌, length, take, drop, refl, ap, ◌∙◌, arith, length-append}
use lib.Seq.{take-append_seam}
use borrow.Rule.Slice.PartMut.{put_mid}
use Rattle.std.proofs.lemmas.List.{take_all}
use Rattle.std.proofs.lemmas.Slice.{put_mid-paste, drop-append-drop}
use Rattle.layout.specs.Buffers.{overlaid}

-- bytes put behind a front that was laid over a buffer
pub put_behind : (front bytes before : List ℕ) (a k : ℕ) → a ≡ length front → k ≡ length bytes → a + k ≤ length before → put_mid a k (overlaid front before) bytes ≡ overlaid (front ++ bytes) before
put_behind front bytes before a k front_long bytes_long room =
    let xs = overlaid front before in
    let first : take a xs ≡ front = ap (λ n. take n xs) front_long ∙ take-append_seam front (drop (length front) before) in
    let rest : drop (a + k) xs ≡ drop (length (front ++ bytes)) before =
    drop-append-drop (length front) before front (a + k) (omega arith) refl
    ∙ ap (λ n. drop n before) (omega (arith, length-append front bytes)) in
    put_mid-paste a k xs bytes bytes k refl refl bytes_long
    ∙ ap (λ f. (f ++ take k bytes) ++ drop (a + k) xs) first
    ∙ ap (λ b. (front ++ b) ++ drop (a + k) xs) (take_all k bytes (omega arith))
    ∙ ap (λ r. (front ++ bytes) ++ r) rest
