use Rattle.std.proofs.Common.{rules}
use Rattle.service.proofs.WrittenFrames.{write_sound, frame_put}
use Rattle.service.proofs.writing.write_frame.Goals as goal

pub returns-clause-buffer : goal.returns-clause-buffer
returns-clause-buffer c =
    let filled = c.fill.ensures.after (λ _ e. e) in
    frame_put c.args.tag c.args.content.now c.args.run.now c.push_frame.new.frame.items c.copy_from_slice.new.self c.fill.new.self c.len-end.result _
    (search rules) (search rules) (search rules) c.len-end.ensures.value (search rules) (search rules) filled

pub returns-clause-sound : goal.returns-clause-sound
returns-clause-sound c = write_sound c.args.tag c.args.content.now
