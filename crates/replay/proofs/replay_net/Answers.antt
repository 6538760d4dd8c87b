-- `replay_net`: each answer, with the buffer that it leaves, is a law of `ReplayCall` at what the two tests have told.
-- Assumes nothing.
use native.Mathlib.Omega.{arith}
use mathlib.Core.Path.{sym, ◌∙◌}
use lib.Seq.{length-take-le}
use Rattle.replay.proofs.ReplayCall.{reaches, no_room, too_long, runs}
use Rattle.replay.proofs.replay_net.Goals as goal

pub returns-then-not-has_room : goal.returns-then-not-has_room
returns-then-not-has_room c =
    let e = c.at_once.ensures in
    λ N h. no_room N c.args.net.places h.its_places c.args.«record».now c.args.marking.now c.has_room.result c.has_room.ensures c.if-not-has_room.true
    c.at_once.result (λ i. record { refusal = record { fault = e.0 i; carried = e.1 i }; steps = e.2 i })

pub returns-then-record-gt-RECORD_LIMIT : goal.returns-then-record-gt-RECORD_LIMIT
returns-then-record-gt-RECORD_LIMIT c =
    let s = c.at_once-then-record-gt-RECORD_LIMIT in
    let e = s.ensures in
    λ N h. too_long N c.args.net.places h.its_places c.args.«record».now c.args.marking.now c.has_room.result c.has_room.ensures c.if-not-has_room.false c.if-record-gt-RECORD_LIMIT.true
    s.result (λ i. record { refusal = record { fault = e.0 i; carried = e.1 i }; steps = e.2 i })

pub slice_bounds-run_from_entries-end : goal.slice_bounds-run_from_entries-end
slice_bounds-run_from_entries-end c = reaches c.args.net.places c.args.marking.now c.has_room.result c.has_room.ensures c.if-not-has_room.false

pub slice_bounds-run_from_entries-end-2 : goal.slice_bounds-run_from_entries-end-2
slice_bounds-run_from_entries-end-2 c =
    sym (length-take-le c.args.net.places c.args.marking.now (reaches c.args.net.places c.args.marking.now c.has_room.result c.has_room.ensures c.if-not-has_room.false))

pub run_from_entries-requires-clause-long : goal.run_from_entries-requires-clause-long
run_from_entries-requires-clause-long c =
    length-take-le c.args.net.places c.args.marking.now (reaches c.args.net.places c.args.marking.now c.has_room.result c.has_room.ensures c.if-not-has_room.false)

pub run_from_entries-requires-clause-internals_in_bounds : goal.run_from_entries-requires-clause-internals_in_bounds
run_from_entries-requires-clause-internals_in_bounds c =
    let part = length-take-le c.args.net.places c.args.marking.now (reaches c.args.net.places c.args.marking.now c.has_room.result c.has_room.ensures c.if-not-has_room.false) in
    omega (arith, part, c.requires.internals_bound)

pub returns : goal.returns
returns c =
    λ N h. let a = c.args in
    let room = c.if-not-has_room.false in
    let part = length-take-le a.net.places a.marking.now (reaches a.net.places a.marking.now c.has_room.result c.has_room.ensures room) in
    let q = c.run_from_entries in
    runs N a.net.places h.its_places a.«record».now a.marking.now c.has_room.result c.has_room.ensures room c.if-record-gt-RECORD_LIMIT.false q.result q.new.marking
    (q.ensures N (record { its_transitions = h.its_transitions; its_places = h.its_places ∙ sym part; its_entries = h.its_entries; its_internals = h.its_internals }))
