-- `write_kinds` meets its contract: three runs from the front, each behind the one before.
-- Assumes nothing.
use Prim.Native.Nat.{◌+◌}
use mathlib.Core.Path.{◌∙◌, ap}
use lib.ListN.{replicate}
use lib.Seq.{sets}
use Rattle.sides.proofs.Runs.{three_runs}
use Rattle.tables.proofs.kinds.write_kinds.Goals as goal

pub returns : goal.returns
returns c =
    let r1 = c.write_run in
    let r2 = c.write_run-2 in
    let a = c.args in
    c.write_run-3.ensures
    ∙ ap (λ l. sets l (a.entries + a.internals) (replicate a.exits 3)) (r2.ensures ∙ ap (λ l. sets l a.entries (replicate a.internals 2)) r1.ensures)
    ∙ three_runs a.kinds.now a.entries a.internals a.exits 1 2 3 c.requires.0
