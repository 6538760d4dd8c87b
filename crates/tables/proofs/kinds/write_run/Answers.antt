-- `write_run` meets its contract: the part that is filled is the run.
-- Assumes nothing.
use Prim.Native.Nat.{◌+◌, ◌-◌}
use native.Mathlib.Omega.{arith}
use mathlib.Core.Path.{◌≡◌, ◌∙◌, ap}
use lib.ListN.{length, take, drop, replicate, length-drop, length-replicate}
use lib.Seq.{sets, length-take-le}
use Rattle.tables.proofs.Puts.{part_set}
use Rattle.tables.proofs.kinds.write_run.Goals as goal

pub returns : goal.returns
returns c =
    let a = c.args in
    let n = a.start + a.count - a.start in
    let long : length (take n (drop a.start a.kinds.now)) ≡ a.count = length-take-le n (drop a.start a.kinds.now) (omega (arith, length-drop a.start a.kinds.now)) ∙ omega arith in
    let run : c.fill.new.self ≡ replicate a.count a.kind = c.fill.ensures.after (λ y e. e) ∙ ap (λ m. replicate m a.kind) long in
    part_set a.kinds.now c.fill.new.self a.start n (omega (arith, ap length run, length-replicate a.count a.kind)) (omega arith) ∙ ap (sets a.kinds.now a.start) run
