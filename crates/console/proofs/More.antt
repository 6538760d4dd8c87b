-- What two reads, one behind the other, put at the front of a buffer is what they took from the reader.
-- Assumes nothing.
use Rattle.std.specs.Prelude.{◌≡◌, ℕ, ◌+◌, List, ◌++◌, take, drop}
use Rattle.std.proofs.Common.{ap, sym, subst, ◌∙◌}
use Rattle.std.specs.declared.option.Option.{Option}
use Rattle.std.specs.Io.KnownBytes.{Consumes}
use Rattle.std.proofs.KnownBytes.{Consumes-trans}
use Rattle.std.proofs.Math.Seq.{take-add}

-- xs was filled up to f, and ys has that front and n bytes more
pub more : (a b c : Option (List ℕ)) (xs ys : List ℕ) (f n : ℕ) → take f ys ≡ take f xs → Consumes a b (take f xs)
    → Consumes b c (take n (drop f ys)) → Consumes a c (take (f + n) ys)
more a b c xs ys f n front before read =
    subst (Consumes a c) (sym (take-add f n ys ∙ ap (λ l. l ++ take n (drop f ys)) front)) (Consumes-trans a b c (take f xs) (take n (drop f ys)) before read)
