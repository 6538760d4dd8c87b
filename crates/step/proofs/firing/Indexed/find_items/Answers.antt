-- `find_items`: the items so far name the transitions that are written, and what is left of the items names the rest.
use Rattle.std.proofs.Common.{arith, refl}
use Rattle.form.proofs.ItemLists.{behind_none}
use Rattle.step.proofs.Names.{naming_end, naming_none, naming_turn, below_set}
use Rattle.step.proofs.firing.Indexed.find_items.Goals as goal

pub loop-i-init : goal.loop-i-init
loop-i-init c = record { below = λ k d h. absurd (omega arith); named = behind_none _ }

pub returns-in_default-clause-says : goal.returns-in_default-clause-says
returns-in_default-clause-says c =
    let n = c.args.self.net in
    naming_none n.rows.now n.arcs.now c.args.items.now n.transitions c.loop-i.i c.loop-i.ts c.loop-i.invariant.named c.loop-i-test.true _ refl c.in_default.ensures

pub loop-i-preserved : goal.loop-i-preserved
loop-i-preserved c =
    let n = c.args.self.net in
    record {
      below = below_set c.loop-i.ts c.loop-i.i _ n.transitions (omega arith) c.loop-i.invariant.below c.in-Some.ensures.0;
      named = naming_turn n.rows.now n.arcs.now c.args.items.now n.transitions c.loop-i.i c.loop-i.ts c.loop-i.invariant.named c.loop-i-test.true _ refl _ c.in-Some.ensures (omega arith);
    }

pub returns-clause-says : goal.returns-clause-says
returns-clause-says c =
    let n = c.args.self.net in
    naming_end n.rows.now n.arcs.now c.args.items.now n.transitions c.loop-i.i c.loop-i.ts c.loop-i.invariant.named c.loop-i-test.false (omega arith)

pub returns-clause-fits : goal.returns-clause-fits
returns-clause-fits c = λ k d h. c.loop-i.invariant.below k d (omega arith)
