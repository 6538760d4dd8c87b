use Rattle.std.proofs.Common.{◌≡◌, ◌+◌, length}
use Rattle.std.proofs.lemmas.List.Edits.{sets}
use Rattle.algebra.specs.Firing.{enabled_from}
use Rattle.moving.specs.inner.InOrder.{transitions_within}
use Rattle.enabling.proofs.EnabledTurns.{enabled_at}
use Rattle.enabling.proofs.listing.Marked.write.Given as goal

abbrev pub invariant-loop-t : goal.invariant-loop-t
invariant-loop-t l = record {
  told : length (enabled_from 0 l.self.tokens.now (transitions_within l.self.net.rows.now l.self.net.arcs.now l.self.net.transitions)) ≡ l.many + length (enabled_at l.self.net.rows.now l.self.net.arcs.now l.self.tokens.now l.self.net.transitions l.t);
  list : sets l.initial.out 0 (enabled_from 0 l.self.tokens.now (transitions_within l.self.net.rows.now l.self.net.arcs.now l.self.net.transitions)) ≡ sets l.out l.many (enabled_at l.self.net.rows.now l.self.net.arcs.now l.self.tokens.now l.self.net.transitions l.t);
}
