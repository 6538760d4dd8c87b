-- `is_net_with_index`: the five tests of check 30 in their order, each behind what the earlier ones have shown. Assumes nothing.
use mathlib.Core.Path.{sym}
use lib.Seq.{length-take-le}
use Rattle.net.specs.Lent.{tables_lent}
use Rattle.net.proofs.NetTests.{net_tests, counts_told, reach_told}
use Rattle.net.proofs.is_net_with_index.Goals as goal
use Rattle.net.proofs.is_net_with_index.Goals.{then-not-counts_fit-via-then-not-counts_fit, then-not-counts_fit-via-else-not-counts_fit+then-not-tables_reach, then-not-counts_fit-via-else-not-counts_fit+else-not-tables_reach+then-not-in_order, then-not-counts_fit-via-else-not-counts_fit+else-not-tables_reach+else-not-in_order+then-not-all_fit}

pub tables_reach-requires : goal.tables_reach-requires
tables_reach-requires c =
    (counts_told (tables_lent c.args.lent.now) c.if-not-counts_fit.ensures).1

pub slice_bounds-in_order-end : goal.slice_bounds-in_order-end
slice_bounds-in_order-end c =
    sym (length-take-le _ c.args.lent.now.kinds.now (reach_told (tables_lent c.args.lent.now) c.if-not-tables_reach.ensures).0)

pub all_fit-requires : goal.all_fit-requires
all_fit-requires c =
    let reach = reach_told (tables_lent c.args.lent.now) c.if-not-tables_reach.ensures in
    record {
      reach = (reach.1, reach.2);
      few_arcs = (counts_told (tables_lent c.args.lent.now) c.if-not-counts_fit.ensures).2;
    }

pub returns-then-not-counts_fit-clause-value : goal.returns-then-not-counts_fit-clause-value
returns-then-not-counts_fit-clause-value c =
    let tests = net_tests (tables_lent c.args.lent.now) in
    elim c.then-not-counts_fit.branch [
      | then-not-counts_fit-via-then-not-counts_fit w ↦ rw (tests, ← w.if-not-counts_fit.ensures)
      | then-not-counts_fit-via-else-not-counts_fit+then-not-tables_reach w ↦ rw (tests, ← w.if-not-counts_fit.ensures, ← w.if-not-tables_reach.ensures)
      | then-not-counts_fit-via-else-not-counts_fit+else-not-tables_reach+then-not-in_order w ↦
          rw (tests, ← w.if-not-counts_fit.ensures, ← w.if-not-tables_reach.ensures, ← w.if-not-in_order.ensures)
      | then-not-counts_fit-via-else-not-counts_fit+else-not-tables_reach+else-not-in_order+then-not-all_fit w ↦
          rw (tests, ← w.if-not-counts_fit.ensures, ← w.if-not-tables_reach.ensures, ← w.if-not-in_order.ensures, ← w.if-not-all_fit.ensures)
    ]

pub invariant_of-rows : goal.invariant_of-rows
invariant_of-rows c = record {
  few = (counts_told (tables_lent c.args.lent.now) c.if-not-counts_fit.ensures).1;
  reach = (reach_told (tables_lent c.args.lent.now) c.if-not-tables_reach.ensures).1;
}

pub returns-clause-value : goal.returns-clause-value
returns-clause-value c =
    rw (
      net_tests (tables_lent c.args.lent.now),
      ← c.if-not-counts_fit.ensures,
      ← c.if-not-tables_reach.ensures,
      ← c.if-not-in_order.ensures,
      ← c.if-not-all_fit.ensures,
    ) c.differ.ensures.value
