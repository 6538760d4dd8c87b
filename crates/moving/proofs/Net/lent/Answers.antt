-- `lent`: tables that passed check 30 are in order.
use Rattle.std.proofs.Common.{sym}
use Rattle.net.specs.Lent.{tables_lent}
use Rattle.moving.proofs.NetInOrder.{net_in_order, transitions_lent}
use Rattle.moving.proofs.Net.lent.Goals as goal

pub invariant_of-result : goal.invariant_of-result
invariant_of-result c =
    let l = c.args.lent.now in record { in_order = net_in_order l.kinds.now l.rows.now l.arcs.now l.places l.transitions l.arc_count c.requires }

pub returns-clause-transitions : goal.returns-clause-transitions
returns-clause-transitions c = sym (transitions_lent (tables_lent c.args.lent.now))
