-- The known figures, by computation. Assumes nothing.
use Rattle.std.proofs.Common.{refl}
use Rattle.layout.specs.Crc.{round, rounds, stepped}
use Rattle.service.specs.Figures.{Known}
use Rattle.service.specs.Frames.{frame_in, frame_bytes}
use Rattle.service.specs.Objects.{object_at, objects_from}

pub known : Known
unfolding round rounds stepped frame_in frame_bytes object_at objects_from
known = record { empty = refl; ten = refl; eleven = refl; most = refl; sample = refl; objects = refl; again = refl }
