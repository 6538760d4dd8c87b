-- `chain_count`: every first action so far is below the number; at the end those that are one of 256 are below what is told. Assumes nothing.
use native.Mathlib.Omega.{arith}
use Rattle.net.proofs.pairs.chain_count.Goals as goal

pub returns : goal.returns
returns c =
    (omega arith, λ t h q. omega (arith, c.loop-t.invariant t (omega arith)))
