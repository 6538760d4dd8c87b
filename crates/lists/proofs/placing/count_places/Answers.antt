-- `count_places` meets its contract: the width of the node's list, and what its copies make of it.
-- Assumes nothing.
use native.Mathlib.Omega.{arith}
use mathlib.Core.Path.{refl, sym, ◌∙◌}
use Rattle.lists.specs.inner.Lists.{place_of}
use Rattle.lists.specs.inner.Numbers.{node_table}
use Rattle.lists.proofs.NodeRows.{table_length, list_of_row}
use Rattle.lists.proofs.Chains.{placed_count}
use Rattle.lists.proofs.placing.count_places.Goals as goal

pub returns-then-lists-k : goal.returns-then-lists-k
returns-then-lists-k c =
    λ s reach. absurd (omega (arith, c.if-lists-k.true, reach, table_length c.args.lists.now))

pub returns : goal.returns
returns c =
    let a = c.args in
    let r = c.on-list in
    let e = r.ensures ∙ sym (list_of_row a.lists.now a.k _ (omega arith) a.side) in
    λ s reach told. placed_count (node_table a.lists.now) a.side a.k (place_of a.side a.k) r.result refl e s told c.count_chain.result c.count_chain.ensures
