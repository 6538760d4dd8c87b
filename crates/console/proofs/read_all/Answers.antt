-- `read_all`: each turn adds what it read to what was read before.
use Rattle.console.proofs.More.{more}
use Rattle.console.proofs.read_all.Goals as goal

pub loop-at-preserved : goal.loop-at-preserved
loop-at-preserved g c =
    let read = c.in_ok-read.ensures in
    let before = c.loop-at.invariant in
    (read.fits, more _ _ _ c.loop-at.buffer c.read_at.new.buffer c.loop-at.at c.in_ok-read.read read.front before.1 read.bytes)
