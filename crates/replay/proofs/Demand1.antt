-- Demand 1: every plan, record, table and marking gets an answer: each public call asks nothing of its caller, its contract allows an answer and a content of the
-- lent bytes at every input, and no other. That each call ends and meets its contract is its own proof, in the folder of its name. Said of each contract as the toolchain
-- makes it from the code (`Asked`, `Post`). The calls of the library for C and Rust have the same lines in exports, `Determined`.
use Rattle.field.proofs.OneResult.{Answered}
use Rattle.compile.proofs.compile.Kinds as compile-kinds
use Rattle.compile.proofs.compile.Reads as compile-reads
use Rattle.compile.proofs.Determined as compile
use Rattle.net.proofs.is_net.Kinds as is-net-kinds
use Rattle.net.proofs.is_net.Reads as is-net-reads
use Rattle.net.proofs.tokens.is_marking.Kinds as is-marking-kinds
use Rattle.net.proofs.tokens.is_marking.Reads as is-marking-reads
use Rattle.net.proofs.tokens.has_room.Kinds as has-room-kinds
use Rattle.net.proofs.tokens.has_room.Reads as has-room-reads
use Rattle.net.proofs.Determined as net
use Rattle.step.proofs.fire.Kinds as fire-kinds
use Rattle.step.proofs.fire.Reads as fire-reads
use Rattle.enabling.proofs.enabled.Kinds as enabled-kinds
use Rattle.enabling.proofs.enabled.Reads as enabled-reads
use Rattle.step.proofs.Determined as step
use Rattle.enabling.proofs.Determined as enabling
use Rattle.replay.proofs.replay.Kinds as replay-kinds
use Rattle.replay.proofs.replay.Reads as replay-reads
use Rattle.replay.proofs.Determined as replay

-- Compiling, with the three tables.
pub compile_answered : Answered 4 compile-kinds.ps compile-kinds.r compile-reads.Asked compile-reads.Post
compile_answered = compile.compile_answered

-- Check 30.
pub is_net_answered : Answered 2 is-net-kinds.ps is-net-kinds.r is-net-reads.Asked is-net-reads.Post
is_net_answered = net.is_net_answered

-- Check 35, of a marking and of replay's buffer.
pub is_marking_answered : Answered 1 is-marking-kinds.ps is-marking-kinds.r is-marking-reads.Asked is-marking-reads.Post
is_marking_answered = net.is_marking_answered

pub has_room_answered : Answered 1 has-room-kinds.ps has-room-kinds.r has-room-reads.Asked has-room-reads.Post
has_room_answered = net.has_room_answered

-- Firing a step, with the marking.
pub fire_answered : Answered 4 fire-kinds.ps fire-kinds.r fire-reads.Asked fire-reads.Post
fire_answered = step.fire_answered

-- The enabled list, with the numbers that are written.
pub enabled_answered : Answered 4 enabled-kinds.ps enabled-kinds.r enabled-reads.Asked enabled-reads.Post
enabled_answered = enabling.enabled_answered

-- Replay, with the marking buffer.
pub replay_answered : Answered 3 replay-kinds.ps replay-kinds.r replay-reads.Asked replay-reads.Post
replay_answered = replay.replay_answered
