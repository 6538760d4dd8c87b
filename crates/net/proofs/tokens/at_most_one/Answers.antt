-- `at_most_one`: the whole is what was looked at so far and what is left. Assumes nothing.
use mathlib.Core.Path.{refl, sym}
use native.Mathlib.Omega.{arith}
use lib.Dec.{leb}
use Rattle.net.proofs.Turns.{all_so_far_turn, all_so_far_end}
use Rattle.net.proofs.tokens.at_most_one.Goals as goal

pub loop-tokens-init : goal.loop-tokens-init
loop-tokens-init c = refl

pub loop-tokens-preserved : goal.loop-tokens-preserved
loop-tokens-preserved c =
    let l = c.loop-tokens in all_so_far_turn _ l.tokens-index (λ x. leb x 1) l.fine _ l.invariant (omega arith)

pub returns : goal.returns
returns c =
    let l = c.loop-tokens in sym (all_so_far_end _ l.tokens-index (λ x. leb x 1) l.fine _ l.invariant c.loop-tokens-test.false)
