-- `fire_items`: 31, or the moving of the found transitions' tokens.
use Rattle.std.proofs.Common.{sym, subst}
use Rattle.moving.specs.inner.InOrder.{InOrder}
use Rattle.step.proofs.FireAnswers.{item_unknown, items_known}
use Rattle.step.proofs.firing.Indexed.fire_items.Goals as goal

pub returns-in-Err : goal.returns-in-Err
returns-in-Err c =
    let n = c.args.self.net in item_unknown n.rows.now n.arcs.now n.transitions _ c.args.marking.now _ c.in-Err.ensures.says _ c.at.ensures

pub returns : goal.returns
returns c =
    let n = c.args.self.net in
    items_known n.rows.now n.arcs.now n.transitions _ c.args.marking.now _ c.in_default.ensures.says c.in_default.ensures.fits (subst (InOrder n.rows.now n.arcs.now n.transitions) (sym c.requires.marking_length) n.in_order)
    c.requires.marking_value _ _ c.move_tokens.ensures
