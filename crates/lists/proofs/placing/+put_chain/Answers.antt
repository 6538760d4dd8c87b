-- `put_chain` meets its contract, the node number falling: the copies of one list, and then those of the list that it goes on with.
-- Where a test fails, the table is no chain or has no room. Assumes nothing.
use Prim.Native.Nat.{◌*◌}
use native.Mathlib.Omega.{arith}
use mathlib.Core.Path.{refl, sym, ◌∙◌, ap, subst}
use mathlib.Core.Logic.{inl, inr}
use Rattle.lists.specs.inner.Lists.{place_of}
use Rattle.lists.specs.inner.Numbers.{node_table}
use Rattle.lists.specs.inner.Placing.{CopiedOn}
use Rattle.lists.proofs.NodeRows.{list_of_row}
use Rattle.lists.proofs.Chains.{Puts, puts_none, puts_never, puts_next}
use Rattle.lists.proofs.placing.+put_chain.Goals as goal

pub returns-then-list-eq0 : goal.returns-then-list-eq0
returns-then-list-eq0 t c =
    let a = c.args in
    let l = node_table a.lists.now in
    let n = a.list in
    elim c.then-list-eq0.either [
      | inl z ↦ puts_none l a.side a.below n.times n.step n.up a.count a.out.now z
      | inr (inl (some, b)) ↦ puts_never l a.side a.below n.times n.step n.up a.count a.out.now a.out.now some c.requires.1 (λ x y z. omega (arith, b, c.from-up.ensures))
      | inr (inr (some, b, k)) ↦ puts_never l a.side a.below n.times n.step n.up a.count a.out.now a.out.now some c.requires.1 (λ x y z. omega (arith, k))
    ]

pub returns-then-out-end : goal.returns-then-out-end
returns-then-out-end t c =
    let a = c.args in
    let n = a.list in
    puts_never (node_table a.lists.now) a.side a.below n.times n.step n.up a.count a.out.now a.out.now c.if-list-eq0.false c.requires.1
    (λ x y z. omega (arith, c.if-out-end.true, ap (λ m. m * a.count) c.from.ensures))

pub returns : goal.returns
returns t c =
    let a = c.args in
    let l = node_table a.lists.now in
    let n = a.list in
    let r = c.on.result in
    let up = c.from-up.result in
    let go = c.put_chain in
    let on = c.put_copies in
    let e = ap (λ m. m * a.count) c.from.ensures in
    subst (λ u. Puts l a.side a.below n.times n.step u a.count a.out.now go.new.out) c.from-up.ensures
    (puts_next l a.side a.below n.times n.step up a.count a.out.now on.new.out go.new.out (place_of a.side up) r c.if-list-eq0.false c.requires.1
    (subst (λ m. CopiedOn n.step a.count m a.out.now on.new.out) e on.ensures) refl
    (c.on.ensures ∙ sym (list_of_row a.lists.now up _ (omega arith) a.side))
    (subst (λ m. Puts l a.side up r.times r.step r.up m on.new.out go.new.out) e go.ensures))
