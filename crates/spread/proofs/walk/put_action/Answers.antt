-- `put_action` meets its contract: what is told is the node and the two counts of its places.
-- Assumes nothing.
use native.Mathlib.Omega.{arith}
use mathlib.Core.Path.{◌∙◌, ap}
use Rattle.spread.specs.inner.Numbers.{told_table}
use Rattle.spread.specs.inner.Walk.{index_numbers, index_put}
use Rattle.spread.proofs.ToldRows.{told_stored, none_told}
use Rattle.spread.proofs.walk.put_action.Goals as goal

pub returns-then-i-index : goal.returns-then-i-index
returns-then-i-index c =
    let a = c.args in
    let ins = c.count_places-inputs in
    let outs = c.count_places-outputs in
    record {
      inputs = ins.result;
      outputs = outs.result;
      stored = told_stored a.index.now c.from-i.result (omega arith) (omega arith) (omega arith) c.if-i-index.true
          ∙ ap (λ n. index_put (told_table a.index.now) n (index_numbers a.k ins.result outs.result)) c.from-i.ensures;
      inputs_are = ins.ensures;
      outputs_are = outs.ensures;
    }

pub returns-else-i-index : goal.returns-else-i-index
returns-else-i-index c =
    let a = c.args in
    let ins = c.count_places-inputs in
    let outs = c.count_places-outputs in
    record {
      inputs = ins.result;
      outputs = outs.result;
      stored = none_told a.index.now a.row.first (index_numbers a.k ins.result outs.result) (omega arith);
      inputs_are = ins.ensures;
      outputs_are = outs.ensures;
    }
