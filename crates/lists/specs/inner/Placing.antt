-- What the functions that write places leave in a slice.
use Rattle.std.specs.Prelude.{ℕ, ◌+◌, ◌*◌, ◌-◌, ◌%◌, ◌≤◌, ◌<◌, ◌≡◌, List, length, get_or}

-- Numbers of 16 bits.
abbrev pub Small : List ℕ → Type 0
Small l = (j : ℕ) → j < length l → get_or l j 0 ≤ 65535

-- The first so many numbers rise by a step, and the rest is as it was.
pub record Stepped (from step count : ℕ) (before after : List ℕ) : Type 0 where
  pub long : length after ≡ length before
  pub new : (j : ℕ) → j < count → get_or after j 0 ≡ (from + j * step) % 65536
  pub rest : (j : ℕ) → count ≤ j → get_or after j 0 ≡ get_or before j 0

-- The first `count` numbers are as they were, and those behind them up to `end` are a step more than the ones `count` places before.
pub record CopiedOn (step count end : ℕ) (before after : List ℕ) : Type 0 where
  pub long : length after ≡ length before
  pub first : (j : ℕ) → j < count → get_or after j 0 ≡ get_or before j 0
  pub new : (j : ℕ) → count ≤ j → j < end → get_or after j 0 ≡ (get_or after (j - count) 0 + step) % 65536
