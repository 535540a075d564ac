-- A run is read exactly if it holds service data. Assumes nothing.
use Rattle.std.proofs.Common.{◌≡◌, ℕ, ◌+◌, ◌*◌, ◌<◌, ◌≤◌, Bool, true, false, cond, ◌&&◌, eqb, leb, ◌⊎◌, List, [], ◌∷◌, ◌++◌, length, get_or, take, drop, replicate, Some, None, Ok, Err, Option, sym, refl, ap, ◌∙◌, subst, append_assoc, add_assoc, arith, lit<, length-append, length-drop}
use Rattle.std.proofs.lemmas.List.{drop_more, take_at}
use Rattle.std.proofs.lemmas.Bool.{cond-true, cond-false, lt-leb, leb-true, leb-false, eqb-true, and_parts}
use Rattle.std.specs.List.{between, position}
use Rattle.layout.specs.Crc.{crc16}
use Rattle.layout.specs.Refusals.{Answer, then, refuse}
use Rattle.layout.specs.declared.refusals.Reason.TheVariants.{DataFrame, DataChecksum}
use Rattle.layout.proofs.Answered.{then_ok}
use Rattle.service.specs.Frames.{Held, outer, content_at, header_of, marked, sum_right, end_judged, used, none_used, padding_judged, frame_in, frame_of}
use Rattle.service.specs.Grammar.{covered}
use Rattle.service.specs.Laws.{Holds, FrameExact}
use Rattle.service.specs.Lengths.{LengthIs, length_at}
use Rattle.service.specs.Objects.{Fields, Objects, objects_of, counted}
use Rattle.service.specs.declared.frames.Header.{Header}
use Rattle.service.specs.declared.lengths.Length.{Length}
use Rattle.service.proofs.Contents.{content_exact}
use Rattle.service.proofs.LengthForms.{length_complete, length_sound}
use Rattle.service.proofs.Offsets.{here, after_front, front_between, split_between}
use Rattle.service.proofs.Padding.{unused_complete, unused_sound}

-- the offset where the content ends
abbrev pub end_of : Held → ℕ
end_of f = f.start + length f.content

-- what stands where in a run that holds a frame
pub record Places (run : List ℕ) (f : Held) (h : Holds run f) : Type 0 where
  pub some : 0 < length run
  pub tag : get_or run 0 0 ≡ f.tag
  pub header : drop 1 run ≡ h.size ++ (f.content ++ drop (end_of f) run)
  pub content : between f.start (end_of f) run ≡ f.content
  pub room : end_of f + 4 ≤ length run
  pub first : get_or run (end_of f) 0 ≡ 0xC0
  pub second : get_or run (end_of f + 1) 0 ≡ 0x02
  pub high : get_or run (end_of f + 2) 0 ≡ h.layout.high
  pub low : get_or run (end_of f + 3) 0 ≡ h.layout.low
  pub rest : drop (end_of f + 4) run ≡ replicate h.layout.padding 0
  pub before : take (end_of f + 2) run ≡ covered f.tag h.size f.content

pub places : (run : List ℕ) (f : Held) (h : Holds run f) → Places run f h
places run f h =
    let w = h.layout in
    let size = h.size in
    let content = f.content in
    let end = end_of f in
    let tail = w.high ∷ w.low ∷ replicate w.padding 0 in
    let zero_at = here run 0 f.tag _ w.all in
    let behind : drop 1 run ≡ size ++ (content ++ (0xC0 ∷ 0x02 ∷ tail)) =
    zero_at.more ∙ append_assoc size (content ++ (0xC0 ∷ 0x02 ∷ [])) tail ∙ ap (λ r. size ++ r) (append_assoc content (0xC0 ∷ 0x02 ∷ []) tail) in
    let at_start : drop f.start run ≡ content ++ (0xC0 ∷ 0x02 ∷ tail) = ap (λ n. drop n run) h.start ∙ after_front run 1 size _ behind in
    let at_end : drop end run ≡ 0xC0 ∷ 0x02 ∷ tail = after_front run f.start content _ at_start in
    let e0 = here run end 0xC0 (0x02 ∷ tail) at_end in
    let e1 = here run (end + 1) 0x02 tail e0.more in
    let e2 = here run (end + 2) w.high (w.low ∷ replicate w.padding 0) (ap (λ n. drop n run) (sym (add_assoc end 1 1)) ∙ e1.more) in
    let e3 = here run (end + 3) w.low (replicate w.padding 0) (ap (λ n. drop n run) (sym (add_assoc end 2 1)) ∙ e2.more) in
    let long : length (covered f.tag size content) ≡ end + 2 =
    omega (arith, h.start, length-append size (content ++ (0xC0 ∷ 0x02 ∷ [])), length-append content (0xC0 ∷ 0x02 ∷ [])) in
    record {
      some = zero_at.inside;
      tag = zero_at.byte;
      header = behind ∙ ap (λ r. size ++ (content ++ r)) (sym at_end);
      content = front_between run f.start (length content) content (0xC0 ∷ 0x02 ∷ tail) refl at_start;
      room = omega (arith, e3.inside);
      first = e0.byte;
      second = e1.byte;
      high = e2.byte;
      low = e3.byte;
      rest = ap (λ n. drop n run) (sym (add_assoc end 3 1)) ∙ e3.more;
      before = ap (take (end + 2)) w.all ∙ take_at (covered f.tag size content) tail (end + 2) long;
    }

pub outer_tag : (tag : ℕ) → (tag ≡ 0xE0) ⊎ (tag ≡ 0x65) → outer tag ≡ true
outer_tag tag is = grind arith

pub tag_outer : (tag : ℕ) → outer tag ≡ true → (tag ≡ 0xE0) ⊎ (tag ≡ 0x65)
tag_outer tag is = grind arith

-- a header with its content's end
abbrev pub header_at : ℕ → ℕ → ℕ → Header
header_at tag start end = record { tag = tag; start = start; end = end }

-- an outer tag, and a length behind it
pub header_complete : (run : List ℕ) (tag n : ℕ) (size rest : List ℕ) → 0 < length run → get_or run 0 0 ≡ tag → outer tag ≡ true → LengthIs n size → drop 1 run ≡ size ++ rest
    → header_of run ≡ Ok (header_at tag (1 + length size) (1 + length size + n))
header_complete run tag n size rest some is_tag is_outer sized e =
    cond-false _ _ _ (lt-leb _ 0 some)
    ∙ cond-true _ _ _ (ap outer is_tag ∙ is_outer)
    ∙ (λ i. content_at (is_tag i) (length_complete run 1 n size rest sized e i))

pub frame_complete : (run : List ℕ) (f : Held) → Holds run f → frame_of run ≡ Ok f
unfolding frame_in
frame_complete run f h =
    let p = places run f h in
    let w = h.layout in
    let end = end_of f in
    let header : header_of run ≡ Ok (header_at f.tag f.start end) =
    header_complete run f.tag (length f.content) h.size _ p.some p.tag (outer_tag _ w.outer) w.sized p.header
    ∙ ap (λ s. Ok (header_at f.tag s (s + length f.content))) (sym h.start) in
    let mark : marked run end ≡ true = grind (arith, p.room, p.first, p.second) in
    let sum : sum_right run end ≡ true = grind (arith, p.high, p.low, w.sum, p.before) in
    let ended : end_judged run end ≡ Ok tt = grind (arith, mark, sum) in
    let objects : counted (objects_of (between f.start end run)) ≡ Ok f.objects =
    ap counted (ap objects_of p.content ∙ (content_exact f.content).complete h.objects h.content) ∙ ap (λ n. Ok n) (sym h.count) in
    let padding : padding_judged run (end + 4) ≡ Ok tt = ap (λ ys. none_used (end + 4) (position used ys)) p.rest ∙ unused_complete w.padding (end + 4) in
    ap (λ r. then r (frame_in run)) header
    ∙ (λ i. then (ended i) (λ _. then (objects i) (λ n. then (padding i) (λ _. Ok (record { tag = f.tag; start = f.start; content = p.content i; objects = n })))))

pub counted_ok : (r : Objects) (n : ℕ) → counted r ≡ Ok n → (os : List Fields) × (r ≡ Ok os) × (n ≡ length os)
counted_ok (Ok os) n e = (os, refl, cc)
counted_ok (Err at) n e = grind arith

-- a header stands at the front
record HeaderFound (run : List ℕ) (h : Header) : Type 0 where
  size : List ℕ
  outer_is : (h.tag ≡ 0xE0) ⊎ (h.tag ≡ 0x65)
  count : ℕ
  sized : LengthIs count size
  there : run ≡ h.tag ∷ (size ++ drop h.start run)
  starts : h.start ≡ 1 + length size
  ends : h.end ≡ h.start + count
  inside : h.start ≤ length run

header_sound : (run : List ℕ) (h : Header) → header_of run ≡ Ok h → HeaderFound run h
header_sound run h e = by_tests (leb (length run) 0) (outer (get_or run 0 0)) (length_at run 1) refl refl refl e
  where
    wrong : (r : Answer Header) → r ≡ Ok h → (p : ℕ) → r ≡ refuse DataFrame p → HeaderFound run h
    wrong r e p is = grind arith

    by_tests : (empty out : Bool) (o : Option Length) → leb (length run) 0 ≡ empty → outer (get_or run 0 0) ≡ out → length_at run 1 ≡ o
        → cond empty (refuse DataFrame 0) (cond out (content_at (get_or run 0 0) o) (refuse DataFrame 0)) ≡ Ok h → HeaderFound run h
    by_tests true out o n u s e = wrong _ e 0 refl
    by_tests false false o n u s e = wrong _ e 0 refl
    by_tests false true None n u s e = wrong _ e 1 refl
    by_tests false true (Some l) n u s e =
        let f = length_sound run 1 l s in
        let is : header_at (get_or run 0 0) l.after (l.after + l.count) ≡ h = cc in
        subst (HeaderFound run) is (record {
          size = f.bytes;
          outer_is = tag_outer _ u;
          count = l.count;
          sized = f.is;
          there = drop_more run 0 0 (leb-false _ _ n) ∙ ap (λ r. get_or run 0 0 ∷ r) f.there;
          starts = f.after;
          ends = refl;
          inside = f.inside;
        })

-- the mark and the right checksum stand at an offset
record EndFound (run : List ℕ) (end : ℕ) : Type 0 where
  room : end + 4 ≤ length run
  there : drop end run ≡ 0xC0 ∷ 0x02 ∷ get_or run (end + 2) 0 ∷ get_or run (end + 3) 0 ∷ drop (end + 4) run
  sum : get_or run (end + 2) 0 * 256 + get_or run (end + 3) 0 ≡ crc16 (take (end + 2) run)

end_sound : (run : List ℕ) (end : ℕ) → end_judged run end ≡ Ok tt → EndFound run end
end_sound run end e = by_tests (marked run end) (sum_right run end) refl refl e
  where
    by_tests : (mark sum : Bool) → marked run end ≡ mark → sum_right run end ≡ sum → ◌≡◌ {A = Answer (Unit {0})} (cond mark (cond sum (Ok tt) (refuse DataChecksum (end + 2))) (refuse DataFrame end)) (Ok tt) → EndFound run end
    by_tests false sum m s e = grind arith
    by_tests true false m s e = grind arith
    by_tests true true m s e =
        let tests = and_parts (leb (end + 4) (length run)) (eqb (get_or run end 0) 0xC0 && eqb (get_or run (end + 1) 0) 0x02) m in
        let room : end + 4 ≤ length run = leb-true _ _ tests.0 in
        let marks = and_parts (eqb (get_or run end 0) 0xC0) (eqb (get_or run (end + 1) 0) 0x02) tests.1 in
        let step : (k : ℕ) → k < 4 → drop (end + k) run ≡ get_or run (end + k) 0 ∷ drop (end + (k + 1)) run =
        λ k h. drop_more run (end + k) 0 (omega arith) ∙ ap (λ n. get_or run (end + k) 0 ∷ drop n run) (add_assoc end k 1) in
        record {
          room = room;
          there =
              drop_more run end 0 (omega arith)
              ∙ (λ i. eqb-true _ _ marks.0 i ∷ (step 1 (lit< tt) ∙ (λ j. eqb-true _ _ marks.1 j ∷ (step 2 (lit< tt) ∙ ap (λ r. get_or run (end + 2) 0 ∷ r) (step 3 (lit< tt))) j)) i);
          sum = eqb-true _ _ s;
        }

frame_held : (run : List ℕ) (h : Header) → HeaderFound run h → EndFound run h.end → padding_judged run (h.end + 4) ≡ Ok tt
    → (os : List Fields) (n : ℕ) → objects_of (between h.start h.end run) ≡ Ok os → n ≡ length os
    → Holds run (record { tag = h.tag; start = h.start; content = between h.start h.end run; objects = n })
frame_held run h header ended padding os n objects count =
    let content = between h.start h.end run in
    let high = get_or run (h.end + 2) 0 in
    let low = get_or run (h.end + 3) 0 in
    let zeros = drop (h.end + 4) run in
    let split : drop h.start run ≡ content ++ drop h.end run =
    split_between run h.start header.count ∙ (λ i. between h.start (sym header.ends i) run ++ drop (sym header.ends i) run) in
    let long : length content ≡ header.count =
    omega (arith, length-append content (drop h.end run), ap length split, length-drop h.start run, length-drop h.end run, header.ends, header.inside, ended.room) in
    let all : run ≡ covered h.tag header.size content ++ (high ∷ low ∷ zeros) =
    header.there
    ∙ ap (λ r. h.tag ∷ (header.size ++ r)) (split ∙ ap (λ r. content ++ r) ended.there)
    ∙ ap (λ r. h.tag ∷ r) (ap (λ r. header.size ++ r) (sym (append_assoc content (0xC0 ∷ 0x02 ∷ []) (high ∷ low ∷ zeros))) ∙ sym (append_assoc header.size (content ++ (0xC0 ∷ 0x02 ∷ [])) (high ∷ low ∷ zeros))) in
    let wide : length (covered h.tag header.size content) ≡ h.end + 2 =
    omega (arith, header.starts, header.ends, length-append header.size (content ++ (0xC0 ∷ 0x02 ∷ [])), length-append content (0xC0 ∷ 0x02 ∷ [])) in
    record {
      size = header.size;
      start = header.starts;
      layout = record {
        outer = header.outer_is;
        sized = subst (λ n. LengthIs n header.size) (sym long) header.sized;
        high = high;
        low = low;
        sum = ended.sum ∙ ap crc16 (ap (take (h.end + 2)) all ∙ take_at (covered h.tag header.size content) (high ∷ low ∷ zeros) (h.end + 2) wide);
        padding = length zeros;
        all = all ∙ ap (λ r. covered h.tag header.size content ++ (high ∷ low ∷ r)) (unused_sound zeros (h.end + 4) padding);
      };
      objects = os;
      content = (content_exact content).sound os objects;
      count = count;
    }

pub frame_sound : (run : List ℕ) (f : Held) → frame_of run ≡ Ok f → Holds run f
unfolding frame_in
frame_sound run f e =
    let header = then_ok (header_of run) (frame_in run) f e in
    let h = header.0 in
    let ended = then_ok (end_judged run h.end) _ f header.2 in
    let objects = then_ok (counted (objects_of (between h.start h.end run))) _ f ended.2 in
    let padding = then_ok (padding_judged run (h.end + 4)) _ f objects.2 in
    let os = counted_ok (objects_of (between h.start h.end run)) objects.0 objects.1 in
    let is : record { tag = h.tag; start = h.start; content = between h.start h.end run; objects = objects.0 } ≡ f = let last = padding.2 in cc in
    subst (Holds run) is (frame_held run h (header_sound run h header.1) (end_sound run h.end ended.1) padding.1 os.0 objects.0 os.1 os.2)

pub frame_exact : (run : List ℕ) → FrameExact run
frame_exact run = record { sound = frame_sound run; complete = frame_complete run }
