-- Buffers that a call fills from the front. Assumes nothing.
use Rattle.std.specs.Prelude.{ℕ, List, ◌++◌, length, drop}

-- a buffer with another front
abbrev pub overlaid : List ℕ → List ℕ → List ℕ
overlaid front buffer = front ++ drop (length front) buffer
