use Rattle.std.proofs.Common.{◌≡◌, Some, arith}
use Rattle.std.proofs.lemmas.Result.{err_from_is_err_and}
use Rattle.std.specs.List.{slice_get}
use Rattle.directory.specs.Reads.{run_touches}
use Rattle.directory.proofs.Filling.{progress_gone, progress_more, progress_done}
use Rattle.directory.proofs.RunTouches.{length_touches, nth_touches, mapped_some}
use Rattle.directory.proofs.reading.fill_from_run.Goals as goal

pub returns-in_err-bytes : goal.returns-in_err-bytes
returns-in_err-bytes g c =
    let touches = run_touches c.args.run.start.0 c.args.run.length in
    let here : slice_get touches c.loop-i.i ≡ Some c.unwrap-block.result.0 = grind (arith, nth_touches, mapped_some) in
    let p = err_from_is_err_and c.from_residual.result c.from_residual.ensures.1 in
    rw (p.1, p.2) (progress_gone g.C.Card touches c.loop-i.i c.unwrap-block.result.0 here _ _ _ _ _ _ c.loop-i.invariant c.in_err-bytes.ensures)

pub loop-i-preserved : goal.loop-i-preserved
loop-i-preserved g c =
    let touches = run_touches c.args.run.start.0 c.args.run.length in
    let here : slice_get touches c.loop-i.i ≡ Some c.unwrap-block.result.0 = grind (arith, nth_touches, mapped_some) in
    simp (c.from-start.ensures, c.copy_from_slice.ensures.after)
    (progress_more g.C.Card touches c.loop-i.i c.unwrap-block.result.0 here _ _ _ _ _ c.in_ok-bytes.bytes
    (omega (arith, length_touches)) (omega (arith, length_touches)) c.loop-i.invariant c.in_ok-bytes.ensures)

pub returns : goal.returns
returns g c = progress_done g.C.Card _ _ _ _ _ _ (omega (arith, length_touches)) c.loop-i.invariant
