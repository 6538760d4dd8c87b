-- `enabled`: each answer, with the list that it leaves, is a law of `EnabledCall` at what the checks so far have told.
use Rattle.std.proofs.Common.{sym, ◌∙◌}
use borrow.Author.Tests.{leb-true}
use lib.Seq.{length-take-le}
use Rattle.net.specs.Lent.{tables_lent}
use Rattle.net.proofs.NetTests.{net_reaches}
use Rattle.moving.proofs.Checked.{marking_good}
use Rattle.enabling.proofs.EnabledCall.{no_net_lent, no_marking_lent, no_room_lent, kinds_long, none_lent, many_lent}
use Rattle.enabling.proofs.enabled.Goals as goal

pub returns-then-not-is_net : goal.returns-then-not-is_net
returns-then-not-is_net c =
    let a = c.args in
    let law = no_net_lent (tables_lent a.lent.now) a.marking.now a.out.now c.is_net.result c.is_net.ensures c.if-not-is_net.true _ c.at.ensures in
    record { answer = law.0; list = law.1 }

pub returns-then-not-is_marking : goal.returns-then-not-is_marking
returns-then-not-is_marking c =
    let a = c.args in
    let law = no_marking_lent (tables_lent a.lent.now) a.marking.now a.out.now c.is_net.result c.is_net.ensures c.if-not-is_net.false
    c.is_marking.result c.is_marking.ensures c.if-not-is_marking.true _ c.at-then-not-is_marking.ensures in
    record { answer = law.0; list = law.1 }

pub slice_bounds-tokens-end : goal.slice_bounds-tokens-end
slice_bounds-tokens-end c =
    sym (length-take-le _ _ (marking_good c.args.lent.now.places c.args.marking.now c.is_marking.result c.is_marking.ensures c.if-not-is_marking.false).0)

pub invariant_of-marked : goal.invariant_of-marked
invariant_of-marked c =
    let good = marking_good c.args.lent.now.places c.args.marking.now c.is_marking.result c.is_marking.ensures c.if-not-is_marking.false in
    record { long = length-take-le _ _ good.0 ∙ sym c.lent.ensures.counts.0; safe = good.1 }

pub returns-then-not-fits : goal.returns-then-not-fits
returns-then-not-fits c =
    let a = c.args in
    let law = no_room_lent (tables_lent a.lent.now) a.marking.now a.out.now c.is_net.result c.is_net.ensures c.if-not-is_net.false
    c.is_marking.result c.is_marking.ensures c.if-not-is_marking.false _ c.lent.ensures.transitions c.fits.result c.fits.ensures c.if-not-fits.true _ c.at-then-not-fits.ensures in
    record { answer = law.0; list = law.1 }

pub write-many-requires : goal.write-many-requires
write-many-requires c =
    leb-true _ _ (sym c.fits.ensures ∙ c.if-not-fits.false)

pub slice_bounds-when_none-end : goal.slice_bounds-when_none-end
slice_bounds-when_none-end c =
    sym (length-take-le _ _ (net_reaches (tables_lent c.args.lent.now) (sym c.is_net.ensures ∙ c.if-not-is_net.false)).0)

pub when_none-requires : goal.when_none-requires
when_none-requires c =
    let a = c.args in
    kinds_long (tables_lent a.lent.now) a.marking.now c.is_net.result c.is_net.ensures c.if-not-is_net.false c.is_marking.result c.is_marking.ensures c.if-not-is_marking.false

pub returns-then-many-eq0 : goal.returns-then-many-eq0
returns-then-many-eq0 c =
    let a = c.args in
    let law = none_lent (tables_lent a.lent.now) a.marking.now a.out.now c.is_net.result c.is_net.ensures c.if-not-is_net.false
    c.is_marking.result c.is_marking.ensures c.if-not-is_marking.false _ c.lent.ensures.transitions c.fits.result c.fits.ensures c.if-not-fits.false c.write-many.result _
    c.write-many.ensures.many c.write-many.ensures.list c.if-many-eq0.true c.when_none.result c.when_none.ensures in
    record { answer = law.0; list = law.1 }

pub returns : goal.returns
returns c =
    let a = c.args in
    let law = many_lent (tables_lent a.lent.now) a.marking.now a.out.now c.is_net.result c.is_net.ensures c.if-not-is_net.false
    c.is_marking.result c.is_marking.ensures c.if-not-is_marking.false _ c.lent.ensures.transitions c.fits.result c.fits.ensures c.if-not-fits.false c.write-many.result _
    c.write-many.ensures.many c.write-many.ensures.list c.if-many-eq0.false in
    record { answer = law.0; list = law.1 }
