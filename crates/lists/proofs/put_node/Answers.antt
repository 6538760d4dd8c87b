-- `put_node` meets its contract: the row is stored where the table reaches, each number of it in 16 bits.
-- Assumes nothing.
use mathlib.Core.Path.{◌∙◌, ap}
use lib.ListN.{set}
use Rattle.lists.specs.inner.Numbers.{node_table}
use Rattle.lists.proofs.NodeRows.{any_stored, none_stored}
use Rattle.lists.proofs.put_node.Goals as goal

pub returns-then-c-lists : goal.returns-then-c-lists
returns-then-c-lists c =
    let a = c.args in
    let ins = c.cut.ensures in
    let outs = c.cut-then-c-lists.ensures in
    let low = c.short.ensures in
    ap node_table (λ t. set a.lists.now a.c (record { entries = ins t; exits = outs t; internal = low t }))
    ∙ any_stored a.lists.now a.c a.entries a.exits a.internal c.if-c-lists.true

pub returns-else-c-lists : goal.returns-else-c-lists
returns-else-c-lists c = let a = c.args in none_stored a.lists.now a.c a.entries a.exits a.internal c.if-c-lists.false
