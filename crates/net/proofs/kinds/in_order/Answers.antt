-- `in_order`: few kinds, and those without a 1 first and a 3 last, are not in order; others are by what `each_next` tells. Assumes nothing.
use borrow.Author.Rules.{rules}
use mathlib.Core.Path.{◌∙◌}
use native.Mathlib.Omega.{arith}
use lib.Dec.{leb}
use Rattle.net.proofs.Neighbours.{kinds_few, kinds_first, kinds_last, kinds_between}
use Rattle.net.proofs.kinds.in_order.Goals as goal

pub returns-in-1 : goal.returns-in-1
returns-in-1 c =
    c.each_next.ensures leb (λ x y r p. search rules) ∙ kinds_between c.args.kinds.now (λ e. omega arith) (omega arith) (omega arith)

pub returns-in_default : goal.returns-in_default
returns-in_default c =
    kinds_few c.args.kinds.now c.in_default.len_below

pub returns-in_default-2 : goal.returns-in_default-2
returns-in_default-2 c =
    kinds_last c.args.kinds.now (λ e. omega arith) (λ e. omega arith)

pub returns-in_default-3 : goal.returns-in_default-3
returns-in_default-3 c =
    kinds_first c.args.kinds.now (λ e. omega arith) (λ e. omega arith)
