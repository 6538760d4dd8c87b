-- `count_chain` meets its contract, the node number falling: the copies of one list, and then those of the list that it goes on with.
-- Assumes nothing.
use Prim.Native.Nat.{◌*◌, ◌%◌}
use native.Mathlib.Omega.{arith}
use mathlib.Core.Path.{refl, sym, ◌∙◌, ap₂, subst}
use mathlib.Core.Logic.{inl, inr}
use Rattle.lists.specs.inner.Lists.{place_of}
use Rattle.lists.specs.inner.Numbers.{node_table}
use Rattle.lists.proofs.NodeRows.{list_of_row}
use Rattle.lists.proofs.Chains.{Counts, counts_none, counts_never, counts_next}
use Rattle.lists.proofs.placing.+count_chain.Goals as goal

pub returns-then-list-eq0 : goal.returns-then-list-eq0
returns-then-list-eq0 t c =
    let a = c.args in
    let l = node_table a.lists.now in
    elim c.then-list-eq0.either [
      | inl z ↦ counts_none l a.side a.below a.list.times a.list.up a.count z
      | inr (some, b) ↦ counts_never l a.side a.below a.list.times a.list.up a.count a.count some (omega (arith, b, c.from-up.ensures))
    ]

pub returns : goal.returns
returns t c =
    let a = c.args in
    let l = node_table a.lists.now in
    let r = c.on.result in
    let up = c.from-up.result in
    let n = c.count_chain.result in
    let go = subst (λ m. Counts l a.side up r.times r.up m n) (c.short-copies.ensures ∙ ap₂ (λ x y. x * y % 65536) c.from.ensures c.from-2.ensures) c.count_chain.ensures in
    subst (λ u. Counts l a.side a.below a.list.times u a.count n) c.from-up.ensures
    (counts_next l a.side a.below a.list.times up a.count n (place_of a.side up) r c.if-list-eq0.false refl (c.on.ensures ∙ sym (list_of_row a.lists.now up _ (omega arith) a.side)) go)
