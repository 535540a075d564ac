use Rattle.std.proofs.Common.{◌≡◌, ◌+◌, ◌-◌, ◌*◌, ◌≤◌, length, ap, ◌∙◌, rules}
use borrow.Rule.Slice.PartMut.{put_mid}
use Rattle.directory.specs.Entries.{entry_at, entry_put}
use Rattle.directory.proofs.WrittenEntries.{put_part, read_back, others_same}
use Rattle.directory.proofs.entries.put_entry.Goals as goal

pub returns-then-start-width-le48 : goal.returns-then-start-width-le48
returns-then-start-width-le48 g c =
    let k = g.E.Entry in
    let law = g.met.E.Entry in
    let d = c.args.directory.now in
    let i = c.args.i in
    let h = c.HEADER.result in
    let w = c.WIDTH-width.result in
    let j = c.from.result in
    let part = c.fill_place.new.place in
    let full : length d ≡ 48 = search rules in
    let here : k.HEADER + i * k.WIDTH + k.WIDTH ≤ 48 = simp (c.HEADER.ensures, c.WIDTH-width.ensures, c.from.ensures) at c.if-start-width-le48.true in
    let put : put_mid (h + j * w) (h + j * w + w - (h + j * w)) d part ≡ entry_put k.HEADER k.WIDTH k.print d i c.args.value =
    simp (c.HEADER.ensures, c.WIDTH-width.ensures, c.from.ensures)
    (put_part k.HEADER k.WIDTH k.parse k.print k.fits law.whole law.used law.back d full i c.args.value part c.fill_place.ensures here) in
    record {
      put = put;
      back = λ fit within. ap (λ x. entry_at k.HEADER k.WIDTH k.parse x i) put ∙ read_back k.HEADER k.WIDTH k.parse k.print k.fits law.whole law.used law.back d full i c.args.value fit within;
      others = λ j ne. ap (λ x. entry_at k.HEADER k.WIDTH k.parse x j) put ∙ others_same k.HEADER k.WIDTH k.parse k.print k.fits law.whole law.used law.back d full i c.args.value j ne;
    }
