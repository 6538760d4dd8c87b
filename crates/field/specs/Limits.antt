-- 01, "Plan bytes": "Limits: plan 4,096 bytes; depth 32; 256 actions; 2,048 places; 1,024 transitions; 16,384 arcs; record 16,384 bytes."
use Rattle.std.specs.Prelude.{ℕ}

abbrev pub plan_limit : ℕ
plan_limit = 4096

abbrev pub depth_limit : ℕ
depth_limit = 32

abbrev pub action_limit : ℕ
action_limit = 256

abbrev pub place_limit : ℕ
place_limit = 2048

abbrev pub transition_limit : ℕ
transition_limit = 1024

abbrev pub arc_limit : ℕ
arc_limit = 16384

abbrev pub record_limit : ℕ
record_limit = 16384
