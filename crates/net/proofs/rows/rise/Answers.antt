-- `rise`: a list of at most one number, of two, and a longer one by `each_next`. Assumes nothing.
use borrow.Author.Rules.{rules}
use native.Mathlib.Omega.{arith}
use lib.Dec.{ltb}
use Rattle.net.proofs.Neighbours.{next_few, next_two}
use Rattle.net.proofs.rows.rise.Goals as goal

pub returns-in-empty : goal.returns-in-empty
returns-in-empty c =
    next_few ltb c.args.list.now (omega arith)

pub returns-in-len2 : goal.returns-in-len2
returns-in-len2 c =
    next_two ltb c.args.list.now (omega arith)

pub returns-in_default : goal.returns-in_default
returns-in_default c =
    c.each_next.ensures ltb (λ x y r p. search rules)
