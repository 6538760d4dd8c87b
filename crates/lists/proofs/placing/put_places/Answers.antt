-- `put_places` meets its contract: a run from the base, and then the copies, of which there may be none.
-- Assumes nothing.
use native.Mathlib.Omega.{arith}
use mathlib.Core.Path.{◌≡◌, refl, sym, ◌∙◌, subst}
use mathlib.Core.Logic.{inl, inr}
use mathlib.Core.List.{◌++◌}
use lib.ListN.{length, drop}
use borrow.Author.Rules.{rules}
use Rattle.lists.specs.inner.Lists.{place_of, list_row}
use Rattle.lists.specs.inner.Numbers.{node_table}
use Rattle.lists.specs.inner.Placing.{Stepped}
use Rattle.lists.proofs.NodeRows.{table_length, list_of_row}
use Rattle.lists.proofs.Placings.{steps_in_front}
use Rattle.lists.proofs.Chains.{Puts, placed_width, placed_longer, placed_put}
use Rattle.lists.proofs.placing.put_places.Goals as goal

pub returns-then-lists-k : goal.returns-then-lists-k
returns-then-lists-k c =
    λ s reach. absurd (omega (arith, c.if-lists-k.true, reach, table_length c.args.lists.now))

pub returns-then-width-eq0 : goal.returns-then-width-eq0
returns-then-width-eq0 c =
    let a = c.args in
    let l = node_table a.lists.now in
    let r = c.on-list in
    let e : r.result ≡ list_row l (place_of a.side a.k) = r.ensures ∙ sym (list_of_row a.lists.now a.k _ (omega arith) a.side) in
    λ s reach told wide long small.
    elim c.then-width-eq0.either [
      | inl z ↦ absurd (omega (arith, z, c.from-width.ensures, placed_width l a.side a.k (place_of a.side a.k) r.result refl e s told))
      | inr (some, room) ↦ absurd (omega (arith, room, c.from-width.ensures, placed_longer l a.side a.k (place_of a.side a.k) r.result refl e s told))
    ]

pub returns : goal.returns
returns c =
    let a = c.args in
    let l = node_table a.lists.now in
    let r = c.on-list in
    let e : r.result ≡ list_row l (place_of a.side a.k) = r.ensures ∙ sym (list_of_row a.lists.now a.k _ (omega arith) a.side) in
    let run = c.put_steps in
    let w = c.from-width in
    let go = c.put_chain in
    let mid = run.new.out ++ drop w.result a.out.now in
    let kept : length go.new.out ≡ length a.out.now = search rules in
    let front : Stepped r.result.base 1 r.result.width a.out.now mid =
    subst (λ n. Stepped r.result.base 1 n a.out.now mid) w.ensures (steps_in_front (omega arith) run.ensures) in
    let copies : Puts l a.side a.k r.result.times r.result.step r.result.up r.result.width mid go.new.out =
    subst (λ n. Puts l a.side a.k r.result.times r.result.step r.result.up n mid go.new.out) w.ensures go.ensures in
    λ s reach told wide. placed_put l a.side a.k (place_of a.side a.k) r.result refl e s told a.out.now mid go.new.out front copies kept
