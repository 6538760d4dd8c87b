-- `RecordReader::step`: the header at the reader's place, then the items of the body that it tells.
-- The body is the same part of the record, counted from its front or from the place on.
use Prim.Native.Nat.{ℕ, ◌+◌, ◌-◌}
use mathlib.Core.Path.{◌≡◌, sym, ap, ap₂, ◌∙◌}
use mathlib.Core.List.{List}
use native.Mathlib.Omega.{arith}
use lib.ListN.{take, drop}
use lib.Seq.{drop-drop}
use Rattle.form.proofs.ItemForms.{passed_on}
use Rattle.form.proofs.StepForms.{step_refused, step_items}
use Rattle.form.specs.Form.{read_items}
use Rattle.record.proofs.RecordReader.step.Goals as goal

body_there : (at n : ℕ) (s : List ℕ) → take (at + (3 + n) - (at + 3)) (drop (at + 3) s) ≡ take n (drop 3 (drop at s))
body_there at n s = ap₂ (λ (m : ℕ) (l : List ℕ). take m l) (let z : at + (3 + n) - (at + 3) ≡ n = omega arith in z) (sym (drop-drop 3 at s))

pub returns-in_err-bytes-clause-says : goal.returns-in_err-bytes-clause-says
returns-in_err-bytes-clause-says c =
    let r = c.args.self in
    passed_on r.at _ c.from_residual.result c.in_err-bytes.field-0.0 c.from_residual.ensures.1 ∙ step_refused r.at (drop r.at r.bytes.now) _ c.in_err-bytes.ensures.says

pub returns-in_err-items-clause-says : goal.returns-in_err-items-clause-says
returns-in_err-items-clause-says c =
    let r = c.args.self in
    let q = c.from_residual-in_err-items in
    let n = c.in_ok-bytes.field-0 in
    passed_on r.at _ q.result c.in_err-items.field-0.0 q.ensures.1
    ∙ step_items r.at (drop r.at r.bytes.now) n c.in_ok-bytes.ensures.says _ (c.in_err-items.ensures.says r.at ∙ ap (read_items r.at 0 0) (body_there r.at n r.bytes.now))

pub returns-clause-says : goal.returns-clause-says
returns-clause-says c =
    let r = c.args.self in
    let n = c.in_ok-bytes.field-0 in
    step_items r.at (drop r.at r.bytes.now) n c.in_ok-bytes.ensures.says _ (c.in_ok-items.ensures.says r.at ∙ ap (read_items r.at 0 0) (body_there r.at n r.bytes.now))
