-- What was read is what the reader gave.
use Rattle.std.specs.Prelude.{ℕ, ◌<◌, List, length, take}
use Rattle.std.specs.declared.option.Option.{Option}
use Rattle.std.specs.Io.KnownBytes.{Consumes, IsAtEnd}

-- Where the bytes that a reader has left are known, before and after: it lost those that now stand at the front of the buffer, so many, and if
-- the buffer is not full, they were all.
pub record Reads (n : ℕ) (old new : Option (List ℕ)) (buffer : List ℕ) : Type 0 where
  pub lost : Consumes old new (take n buffer)
  pub ends : n < length buffer → IsAtEnd new
