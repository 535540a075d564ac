use Rattle.std.proofs.Common.{length, Ok, sym, refl, ap, ◌∙◌}
use Rattle.std.proofs.lemmas.Result.{err_from_is_err_and}
use Rattle.layout.specs.Refusals.{then}
use Rattle.station.specs.Reads.{room_judged}
use Rattle.station.proofs.Readings.{number_refused, check_refused, found_refused, run_gone, run_done}
use Rattle.station.proofs.station.Station.read.Goals as goal

pub returns-in_err-judge_number-clause-read : goal.returns-in_err-judge_number-clause-read
returns-in_err-judge_number-clause-read g c =
    let self = c.args.self.now in
    let e = err_from_is_err_and c.from_residual.result c.from_residual.ensures.1 in
    rw (e.1, e.2)
    (number_refused g.C.Card self.profile c.args.number self.card c.args.buffer.now _ (sym c.in_err-judge_number.ensures))

pub returns-in_err-directory-clause-read : goal.returns-in_err-directory-clause-read
returns-in_err-directory-clause-read g c =
    let self = c.args.self.now in
    let e = err_from_is_err_and c.from_residual-in_err-directory.result c.from_residual-in_err-directory.ensures.1 in
    rw (e.1, e.2)
    (check_refused g.C.Card self.profile c.args.number self.card c.args.buffer.now
    (sym c.in_ok-judge_number.ensures) _ _ _ c.in_err-directory.ensures.look refl)

pub returns-in_err-found-clause-read : goal.returns-in_err-found-clause-read
returns-in_err-found-clause-read g c =
    let self = c.args.self.now in
    let room = length c.args.buffer.now in
    let e = err_from_is_err_and c.from_residual-in_err-found.result c.from_residual-in_err-found.ensures.1 in
    rw (e.1, e.2)
    (found_refused g.C.Card self.profile c.args.number self.card c.args.buffer.now
    (sym c.in_ok-judge_number.ensures) _ c.in_ok-directory.directory c.in_ok-directory.ensures.look _
    (ap (λ a. then a (λ f. then (room_judged f.run.length room) (λ _. Ok f))) (sym c.in_err-found.ensures)))

pub returns-in_err-judge_room-clause-read : goal.returns-in_err-judge_room-clause-read
returns-in_err-judge_room-clause-read g c =
    let self = c.args.self.now in
    let room = length c.args.buffer.now in
    let f = c.in_ok-found.found in
    let e = err_from_is_err_and c.from_residual-in_err-judge_room.result c.from_residual-in_err-judge_room.ensures.1 in
    rw (e.1, e.2)
    (found_refused g.C.Card self.profile c.args.number self.card c.args.buffer.now
    (sym c.in_ok-judge_number.ensures) _ c.in_ok-directory.directory c.in_ok-directory.ensures.look _
    (ap (λ a. then a (λ x. then (room_judged x.run.length room) (λ _. Ok x))) (sym c.in_ok-found.ensures) ∙ ap (λ a. then a (λ _. Ok f)) (sym c.in_err-judge_room.ensures)))

pub returns-in_err-read_run-clause-read : goal.returns-in_err-read_run-clause-read
returns-in_err-read_run-clause-read g c =
    let self = c.args.self.now in
    let e = err_from_is_err_and c.from_residual-in_err-read_run.result c.from_residual-in_err-read_run.ensures.1 in
    rw (e.1, e.2)
    (run_gone g.C.Card self.profile c.args.number self.card c.args.buffer.now (sym c.in_ok-judge_number.ensures) _ c.in_ok-directory.directory c.in_ok-directory.ensures.look
    c.in_ok-found.found (sym c.in_ok-found.ensures) (sym c.in_ok-judge_room.ensures) _ _ _ c.in_err-read_run.ensures)

pub returns-clause-read : goal.returns-clause-read
returns-clause-read g c =
    let self = c.args.self.now in
    run_done g.C.Card self.profile c.args.number self.card c.args.buffer.now (sym c.in_ok-judge_number.ensures) _ c.in_ok-directory.directory c.in_ok-directory.ensures.look
    c.in_ok-found.found (sym c.in_ok-found.ensures) (sym c.in_ok-judge_room.ensures) _ _ _ c.in_ok-read_run.ensures c.frame_in.ensures
