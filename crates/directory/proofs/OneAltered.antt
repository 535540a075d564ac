-- One altered byte of an accepted directory meets its checksum refusal. Assumes nothing.
use Rattle.std.proofs.Common.{◌≡◌, ℕ, ◌+◌, ◌*◌, ◌<◌, ◌≤◌, true, false, ◌⊎◌, List, [], ◌++◌, Some, Ok, Err, sym, refl, ap, ◌∙◌, subst, inl, inr, ⊎_elim, append-nil, arith}
use Rattle.std.proofs.lemmas.Bool.{cond-true, cond-false, lt-ltb, cases_lt}
use Rattle.std.proofs.lemmas.Bool.Decides.{nat_tests}
use Rattle.std.proofs.lemmas.Slice.Eq.{bytes_eq-Decides}
use Rattle.std.specs.List.{slice_get, range_with_len}
use Rattle.std.specs.Str.{bytes_eq}
use Rattle.layout.specs.Blocks.{rank_of, data_block, sector_of, first_of}
use Rattle.layout.specs.Differ.{Bytes, DifferInOne}
use Rattle.layout.specs.Profiles.{within, mad_of, nscp_sectors, services_sectors}
use Rattle.layout.specs.Refusals.{refuse, Answer, then}
use Rattle.layout.specs.Runs.{run_block}
use Rattle.layout.specs.declared.numbers.Block.{Block}
use Rattle.layout.specs.declared.numbers.Sector.{Sector}
use Rattle.layout.specs.declared.profiles.Profile.{Profile}
use Rattle.layout.specs.declared.profiles.Profile.TheVariants.{A, B, C, D, E}
use Rattle.layout.specs.declared.refusals.Reason.TheVariants.{MadChecksum, NscpChecksum, ServicesChecksum}
use Rattle.layout.proofs.Answered.{then_ok}
use Rattle.layout.proofs.Below.{at}
use Rattle.card.specs.Blocks.{Blocks, put}
use Rattle.directory.specs.Checks.{nscp_accepted, nscp_look_at, nscp_look, together, accepted, services_look, rest_look, check_look, verdict}
use Rattle.directory.specs.Judged.{trailer_judged, seal_judged, sealed_look, mad_look}
use Rattle.directory.specs.Laws.{Agree, BlockOf, OneAlteredByte}
use Rattle.directory.specs.Looks.{touches_after}
use Rattle.directory.specs.Nscp.{nscp_sector_judged, nscp_judged}
use Rattle.directory.specs.Reads.{run_touches, joined}
use Rattle.directory.specs.Seals.{sealed}
use Rattle.directory.specs.Services.{services_judged}
use Rattle.directory.specs.Slots.{slots_judged}
use Rattle.directory.specs.declared.accepted.Directory.{Directory}
use Rattle.directory.specs.declared.accepted.Nscp.{Nscp}
use Rattle.directory.proofs.Altered.{Absent, Once, agree_absent, put_away, altered_unsealed, nth_counting, once_counting, absent_counted}
use Rattle.directory.proofs.DirectoryPlaces.{cond_ok, nscp_small, nscp_allowed, services_small, services_place}
use Rattle.directory.proofs.Locality.{Local, local_mad, local_nscp}

-- the blocks of the directories are consecutive
sector_touches : (s : ℕ) → s < 32 → run_touches (first_of s) 3 ≡ range_with_len (first_of s) 3
unfolding run_touches run_block data_block rank_of
sector_touches s h = (bytes_eq-Decides _ _).0 (at (λ k. bytes_eq (run_touches (first_of k) 3) (range_with_len (first_of k) 3)) 32 refl s h)

mad_touches : (p : Profile) → run_touches (mad_of p).run.start.0 (mad_of p).run.length ≡ range_with_len (mad_of p).run.start.0 (mad_of p).run.length
unfolding run_touches run_block data_block rank_of
mad_touches A = refl
mad_touches B = refl
mad_touches C = refl
mad_touches D = refl
mad_touches E = refl

-- the trailer follows the application directory, and the other directories lie above it
mad_trailer : (p : Profile) → (mad_of p).run.start.0 + (mad_of p).run.length ≡ (mad_of p).trailer.0
mad_trailer p = grind arith

first_is : (s : ℕ) → s < 32 → first_of s ≡ 4 * s
first_is s h = cond-true _ _ _ (lt-ltb s 32 h)

nscp_above : (p : Profile) (s : ℕ) → within (nscp_sectors p) s ≡ true → (mad_of p).trailer.0 < 4 * s
nscp_above p s h = grind (arith, nat_tests)

services_above : (p : Profile) (s : ℕ) → within (services_sectors p) s ≡ true → (mad_of p).trailer.0 < 4 * s
services_above p s h = grind (arith, nat_tests)

-- what an accepted card has shown
record Shown (p : Profile) (blocks : Blocks) (d : Directory) : Type 0 where
  trailer_ok : trailer_judged p (blocks (mad_of p).trailer.0) ≡ Ok tt
  mad : List ℕ
  mad_ok : (mad_look p blocks).answer ≡ Ok mad
  mad_shut : sealed (joined blocks (run_touches (mad_of p).run.start.0 (mad_of p).run.length)) ≡ true
  sector : Sector
  sector_ok : nscp_sector_judged p mad ≡ Ok sector
  nscp_shut : sealed (joined blocks (run_touches (first_of sector.0) 3)) ≡ true
  nscp : Nscp
  nscp_ok : (nscp_look p mad blocks).answer ≡ Ok nscp
  nscp_right : nscp_judged nscp.bytes ≡ Ok tt
  nscp_sector_lem : nscp.sector ≡ sector
  place : Block
  place_ok : services_judged p mad nscp.sector.0 nscp.bytes ≡ Ok place
  services_shut : sealed (joined blocks (run_touches place.0 3)) ≡ true
  d_sector : d.nscp.sector ≡ sector
  d_place : d.services.block ≡ place

shown : (p : Profile) (blocks : Blocks) (d : Directory) → verdict p blocks ≡ Ok d → Shown p blocks d
unfolding check_look
shown p blocks d ok =
    let m = then_ok (mad_look p blocks).answer (λ mad. (rest_look p mad blocks).answer) d ok in
    let mad = m.0 in
    let t = then_ok (trailer_judged p (blocks (mad_of p).trailer.0)) (λ _. (sealed_look MadChecksum (mad_of p).run.start.0 (mad_of p).run.length blocks).answer) mad m.1 in
    let n = then_ok (nscp_look p mad blocks).answer (λ nscp. (services_look p mad nscp blocks).answer) d m.2 in
    let nscp = n.0 in
    let s = then_ok (nscp_sector_judged p mad) (λ s. (nscp_look_at blocks s).answer) nscp n.1 in
    let sector = s.0 in
    let v = then_ok (sealed_look NscpChecksum (first_of sector.0) 3 blocks).answer (λ bytes. nscp_accepted sector bytes) nscp s.2 in
    let w = then_ok (nscp_judged v.0) (λ _. Ok (record { sector = sector; bytes = v.0 })) nscp v.2 in
    let made : ◌≡◌ {A = Nscp} (record { sector = sector; bytes = v.0 }) nscp = cc in
    let c = then_ok (services_judged p mad nscp.sector.0 nscp.bytes) (λ b. then (sealed_look ServicesChecksum b.0 3 blocks).answer (λ services. accepted (together p mad nscp b services))) d n.2 in
    let place = c.0 in
    let f = then_ok (sealed_look ServicesChecksum place.0 3 blocks).answer (λ services. accepted (together p mad nscp place services)) d c.2 in
    let g = then_ok (slots_judged (together p mad nscp place f.0)) (λ _. Ok (together p mad nscp place f.0)) d f.2 in
    let whole : together p mad nscp place f.0 ≡ d = cc in
    record {
      trailer_ok = t.1;
      mad = mad;
      mad_ok = m.1;
      mad_shut = (cond_ok _ _ mad _ t.2).0;
      sector = sector;
      sector_ok = s.1;
      nscp_shut = (cond_ok _ _ v.0 _ v.1).0;
      nscp = nscp;
      nscp_ok = n.1;
      nscp_right = subst (λ k. nscp_judged k.bytes ≡ Ok tt) made w.1;
      nscp_sector_lem = sym (ap (λ k. k.sector) made);
      place = place;
      place_ok = c.1;
      services_shut = (cond_ok _ _ f.0 _ f.1).0;
      d_sector = sym (ap (λ k. k.nscp.sector) whole) ∙ sym (ap (λ k. k.sector) made);
      d_place = sym (ap (λ k. k.services.block) whole);
    }

-- a card that agrees in the trailer and in the application directory's blocks
agree_mad : (p : Profile) (blocks other : Blocks) → blocks (mad_of p).trailer.0 ≡ other (mad_of p).trailer.0 → Agree (run_touches (mad_of p).run.start.0 (mad_of p).run.length) blocks other → Agree (mad_look p blocks).touches blocks other
agree_mad p blocks other trailer rest = (trailer, after (trailer_judged p (blocks (mad_of p).trailer.0)))
  where
    start : ℕ
    start = (mad_of p).run.start.0

    after : (a : Answer (Unit {0})) → Agree (touches_after a (λ _. sealed_look MadChecksum (mad_of p).run.start.0 (mad_of p).run.length blocks)) blocks other
    after (Ok t) = subst (λ ts. Agree ts blocks other) (sym (append-nil _)) rest
    after (Err e) = tt

-- a card that agrees in the NSCP directory's blocks
agree_nscp : (p : Profile) (mad : List ℕ) (s : Sector) (blocks other : Blocks) → nscp_sector_judged p mad ≡ Ok s → Agree (run_touches (first_of s.0) 3) blocks other → Agree (nscp_look p mad blocks).touches blocks other
agree_nscp p mad s blocks other is rest = subst (λ r. Agree (touches_after r (nscp_look_at blocks)) blocks other) (sym is) (after (sealed_look NscpChecksum (first_of s.0) 3 blocks).answer)
  where
    after : (a : Answer (List ℕ)) → Agree ((run_touches (first_of s.0) 3 ++ []) ++ touches_after a (λ bytes. record { touches = []; answer = nscp_accepted s bytes })) blocks other
    after (Ok bytes) = subst (λ ts. Agree ts blocks other) (sym (append-nil _ ∙ append-nil _)) rest
    after (Err e) = subst (λ ts. Agree ts blocks other) (sym (append-nil _ ∙ append-nil _)) rest

module _ (p : Profile) (blocks : Blocks) (d : Directory) (at : ℕ) (new : List ℕ) (each : (b : ℕ) → Bytes (blocks b)) (fits : Bytes new) (k : Shown p blocks d) (differ : DifferInOne (blocks at) new) where
  after : Blocks
  after = put blocks at new

  -- a directory of consecutive blocks, one of which was altered
  unsealed : (start n : ℕ) → run_touches start n ≡ range_with_len start n → BlockOf start n at → sealed (joined blocks (run_touches start n)) ≡ true → sealed (joined after (run_touches start n)) ≡ false
  unfolding after
  unsealed start n is b shut =
      altered_unsealed blocks at new (run_touches start n) each fits
      (subst (Once at) (sym is) (once_counting start n b.place at (subst (λ ts. slice_get ts b.place ≡ Some at) is b.there))) differ shut

  inside : (start n : ℕ) → run_touches start n ≡ range_with_len start n → BlockOf start n at → (start ≤ at) × (at < start + n)
  inside start n is b =
      nth_counting start n b.place at (subst (λ ts. slice_get ts b.place ≡ Some at) is b.there)

  -- blocks that lie apart are as they were
  agree_apart : (start n : ℕ) → run_touches start n ≡ range_with_len start n → (at < start) ⊎ (start + n ≤ at) → Agree (run_touches start n) blocks after
  unfolding after
  agree_apart start n is apart = agree_absent blocks at new (run_touches start n) (subst (Absent at) (sym is) (absent_counted at start n apart))

  -- the application directory is as it was, where the altered block lies above its trailer
  same_mad : (mad_of p).trailer.0 < at → mad_look p after ≡ mad_look p blocks
  unfolding after Local
  same_mad above =
      local_mad p blocks after
      (agree_mad p blocks after (sym (put_away blocks at new (mad_of p).trailer.0 (λ e. absurd (omega arith))))
      (agree_apart (mad_of p).run.start.0 (mad_of p).run.length (mad_touches p) (inr (omega (arith, mad_trailer p)))))

  mad_altered : BlockOf (mad_of p).run.start.0 (mad_of p).run.length at → verdict p after ≡ refuse MadChecksum (mad_of p).run.start.0
  unfolding after check_look
  mad_altered b =
      let start = (mad_of p).run.start.0 in
      let n = (mad_of p).run.length in
      let in-run = inside start n (mad_touches p) b in
      let trailer = put_away blocks at new (mad_of p).trailer.0 (λ e. absurd (omega (arith, mad_trailer p, in-run.1))) in
      let broken = unsealed start n (mad_touches p) b k.mad_shut in
      ap (λ a. then (then a (λ _. seal_judged MadChecksum start (joined after (run_touches start n)))) (λ mad. (rest_look p mad after).answer)) (ap (trailer_judged p) trailer ∙ k.trailer_ok)
      ∙ ap (λ a. then a (λ mad. (rest_look p mad after).answer)) (cond-false _ _ _ broken)

  nscp_altered : BlockOf (first_of k.sector.0) 3 at → verdict p after ≡ refuse NscpChecksum (first_of k.sector.0)
  unfolding after check_look
  nscp_altered b =
      let s = k.sector.0 in
      let allowed = nscp_allowed p k.mad k.sector k.sector_ok in
      let small = nscp_small p s allowed in
      let in-run = inside (first_of s) 3 (sector_touches s small) b in
      let above : (mad_of p).trailer.0 < at = omega (arith, nscp_above p s allowed, first_is s small, in-run.0) in
      let broken = unsealed (first_of s) 3 (sector_touches s small) b k.nscp_shut in
      ap (λ l. then l.answer (λ mad. (rest_look p mad after).answer)) (same_mad above)
      ∙ ap (λ a. then a (λ mad. (rest_look p mad after).answer)) k.mad_ok
      ∙ ap (λ a. then (then a (λ t. (nscp_look_at after t).answer)) (λ nscp. (services_look p k.mad nscp after).answer)) k.sector_ok
      ∙ ap (λ a. then (then a (λ bytes. nscp_accepted k.sector bytes)) (λ nscp. (services_look p k.mad nscp after).answer)) (cond-false _ _ _ broken)

  services_altered : BlockOf k.place.0 3 at → verdict p after ≡ refuse ServicesChecksum k.place.0
  unfolding after check_look Local
  services_altered b =
      let c = k.place.0 in
      let s = k.sector.0 in
      let place = services_place p k.mad k.nscp.sector.0 k.nscp.bytes k.place k.nscp_right k.place_ok in
      let nscp_ok = nscp_allowed p k.mad k.sector k.sector_ok in
      let nscp_low = nscp_small p s nscp_ok in
      let low = services_small p (sector_of c) place.allowed in
      let is : run_touches c 3 ≡ range_with_len c 3 = subst (λ n. run_touches n 3 ≡ range_with_len n 3) place.first (sector_touches (sector_of c) low) in
      let in-run = inside c 3 is b in
      let c_is : c ≡ 4 * sector_of c = sym place.first ∙ first_is (sector_of c) low in
      let s_is = first_is s nscp_low in
      let other : sector_of c ≡ s → ⊥ = λ e. place.apart (e ∙ sym (ap (λ t. t.0) k.nscp_sector_lem)) in
      let above : (mad_of p).trailer.0 < at = omega (arith, services_above p (sector_of c) place.allowed, c_is, in-run.0) in
      let apart : (at < first_of s) ⊎ (first_of s + 3 ≤ at) =
      ⊎_elim (λ (less : sector_of c < s). inl (omega (arith, c_is, s_is, in-run.1))) (λ (more : s ≤ sector_of c). inr (omega (arith, c_is, s_is, in-run.0, other))) (cases_lt (sector_of c) s) in
      let nscp_same : nscp_look p k.mad after ≡ nscp_look p k.mad blocks = local_nscp p k.mad blocks after (agree_nscp p k.mad k.sector blocks after k.sector_ok (agree_apart (first_of s) 3 (sector_touches s nscp_low) apart)) in
      let broken = unsealed c 3 is b k.services_shut in
      ap (λ l. then l.answer (λ mad. (rest_look p mad after).answer)) (same_mad above)
      ∙ ap (λ a. then a (λ mad. (rest_look p mad after).answer)) k.mad_ok
      ∙ ap (λ l. then l.answer (λ nscp. (services_look p k.mad nscp after).answer)) nscp_same
      ∙ ap (λ a. then a (λ nscp. (services_look p k.mad nscp after).answer)) k.nscp_ok
      ∙ ap (λ a. then a (λ e. then (seal_judged ServicesChecksum e.0 (joined after (run_touches e.0 3))) (λ services. accepted (together p k.mad k.nscp e services)))) k.place_ok
      ∙ ap (λ a. then a (λ services. accepted (together p k.mad k.nscp k.place services))) (cond-false _ _ _ broken)

pub one_altered : (p : Profile) → OneAlteredByte p
unfolding after
one_altered p blocks d at new each fits ok differ =
    let k = shown p blocks d ok in
    record {
      mad = mad_altered p blocks d at new each fits k differ;
      nscp = subst (λ s. BlockOf (first_of s.0) 3 at → verdict p (put blocks at new) ≡ refuse NscpChecksum (first_of s.0)) (sym k.d_sector) (nscp_altered p blocks d at new each fits k differ);
      services = subst (λ c. BlockOf c.0 3 at → verdict p (put blocks at new) ≡ refuse ServicesChecksum c.0) (sym k.d_place) (services_altered p blocks d at new each fits k differ);
    }
