-- `of_loop` meets its contract: a product of four that is cut off factor by factor is that of the whole, cut off.
use Rattle.std.proofs.Common.{arith, refl, ◌*◌, ◌∙◌, ap₂}
use Rattle.field.specs.Limits.{place_limit}
use Rattle.boxes.specs.Counts.{cut}
use Rattle.boxes.proofs.CountsCutOff.{cut_product}
use Rattle.boxes.proofs.CountRows.{same_counts}
use Rattle.boxes.proofs.counts.of_loop.Goals as goal

pub returns : goal.returns
returns c =
    let a = c.args in
    let places =
    c.product-places.ensures
    ∙ ap₂ (λ x y. cut place_limit (x * y)) c.product.ensures c.product-2.ensures
    ∙ cut_product place_limit (a.e.exits * a.f.exits) (a.f.entries * a.g.entries) in
    same_counts refl (omega (arith, places)) refl
