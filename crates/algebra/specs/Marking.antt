-- 01, "Refusal numbers", the paragraph on replay: the marking that a run starts from, and the markings that are finished.
use Rattle.std.specs.Prelude.{ℕ, ◌+◌, List, ◌++◌, Bool, drop, replicate, leb}
use Rattle.field.specs.Lists.{all}
use Rattle.algebra.specs.Net.{Net}

-- "the entry marking": one token on every entry place
unfoldable pub entry_marking : Net → List ℕ
entry_marking N = replicate N.entries 1 ++ (replicate N.internals 0 ++ replicate N.exits 0)

-- "all exit places are marked"
unfoldable pub exits_marked : Net → List ℕ → Bool
unfolding all
exits_marked N m = all (λ x. leb 1 x) (drop (N.entries + N.internals) m)
