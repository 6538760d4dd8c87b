use mathlib.Core.Path.{◌≡◌}
use mathlib.Core.Bool.{◌&&◌}
use lib.ListN.{drop}
use lib.Dec.{leb}
use Rattle.field.specs.Lists.{all}
use Rattle.net.proofs.tokens.at_most_one.Given as goal

abbrev pub invariant-loop-tokens : goal.invariant-loop-tokens
invariant-loop-tokens l = all (λ x. leb x 1) l.marking ≡ (l.fine && all (λ x. leb x 1) (drop l.tokens-index l.marking))
