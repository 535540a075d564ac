-- A directory that was read. Assumes nothing.
use Rattle.std.proofs.Common.{◌≡◌, ℕ, ◌-◌, ◌*◌, ◌≤◌, true, false, List, length, take, drop, replicate, Ok, Err, refl, ap, ◌∙◌, subst, arith}
use lib.Seq.{take-append_seam}
use Rattle.std.proofs.lemmas.Grind.{common_steps}
use Rattle.layout.specs.Refusals.{refusal, Answer}
use Rattle.layout.specs.Runs.{on_card}
use Rattle.layout.specs.declared.refusals.Reason.{Reason}
use Rattle.layout.specs.declared.refusals.Refusal.{Refusal}
use Rattle.card.specs.declared.interface.Card.{Ghosts as CardKind}
use Rattle.directory.specs.Judged.{directory_bytes, padded, seal_judged, sealed_look}
use Rattle.directory.specs.Looks.{Taken}
use Rattle.directory.specs.Reads.{run_touches, run_reads, touch_look, Filled}
use Rattle.directory.specs.Seals.{sealed}
use Rattle.directory.proofs.Filling.{length_joined, filled_whole}
use Rattle.directory.proofs.Looking.{taken_judge}
use Rattle.directory.proofs.RunTouches.{length_touches}

pub whole_run : (start n room : ℕ) → on_card start n ≡ true → 16 * n ≤ room → run_reads start n room ≡ run_touches start n
whole_run start n room on fits = grind (arith, common_steps)

module _ {C : Type 0} (kind : CardKind C)
    (start n : ℕ) (on : on_card start n ≡ true) (few : n ≤ 3) (card later : C) (after : List ℕ)
    (filled : Filled kind (run_reads start n 48) card later (replicate 48 0) after (Ok tt)) where
  open kind use {blocks}

  whole : run_reads start n 48 ≡ run_touches start n
  whole = whole_run start n 48 on (omega arith)

  pub bytes_are : after ≡ padded (directory_bytes start n (blocks card))
  bytes_are = grind (arith, filled_whole kind (run_reads start n 48) card later (replicate 48 0) after filled, whole)

  long : length (directory_bytes start n (blocks card)) ≡ 16 * n
  long = grind (arith, length_joined, length_touches)

  -- the part of the buffer that was filled
  pub part_are : take (16 * n - 0) (drop 0 after) ≡ directory_bytes start n (blocks card)
  part_are =
      let d = directory_bytes start n (blocks card) in
      let same : 16 * n - 0 ≡ length d = omega (arith, long) in
      ap (λ k. take k (drop 0 after)) same ∙ ap (λ a. take (length d) a) bytes_are ∙ take-append_seam d _

  judged_as : (why : Reason) {s : Answer (List ℕ)} → s ≡ seal_judged why start (directory_bytes start n (blocks card)) → Taken kind (sealed_look why start n) card later s
  judged_as why e =
      taken_judge kind (touch_look (run_touches start n)) (λ b _. seal_judged why start (directory_bytes start n b)) tt
      (subst (λ t. Taken kind (touch_look t) card later (Ok tt)) whole filled.taken) refl e

  pub unsealed : (why : Reason) (e : Refusal) → e ≡ refusal why start → sealed (take (16 * n - 0) (drop 0 after)) ≡ false → Taken kind (sealed_look why start n) card later (Err e)
  unsealed why e is broken = judged_as why (grind (arith, part_are))

  pub is_sealed_lem : (why : Reason) → sealed (take (16 * n - 0) (drop 0 after)) ≡ true → Taken kind (sealed_look why start n) card later (Ok after)
  is_sealed_lem why shut = judged_as why (grind (arith, part_are, bytes_are))
