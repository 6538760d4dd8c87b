-- What the check for loops says, and what it knows after the nodes from k on.
use Rattle.std.specs.Prelude.{ℕ, zero, suc, ◌+◌, ◌*◌, ◌≤◌, ◌<◌, ◌≡◌, List, [], ◌∷◌, ◌++◌, Bool, true, false, cond, get_or, map, eqb, Option, None, Some}
use Rattle.field.specs.Answer.{Answer, ◌>>◌}
use Rattle.algebra.specs.Expr.{Expr}
use Rattle.algebra.specs.Exclusive.{exclusive}
use Rattle.plan.specs.Loops.{no_fault}
use Rattle.plan.specs.inner.Table.{tag_at, after_at, Known}

-- The offset of a fault, or none.
abbrev pub fault_told : Option ℕ → List ℕ
fault_told None = []
fault_told (Some at) = at ∷ []

-- 1 for an exclusive expression, 0 for another.
abbrev pub bit : Bool → ℕ
bit true = 1
bit false = 0

abbrev pub bits : List Bool → List ℕ
bits bs = map bit bs

abbrev pub exclusive_bit : Expr → List ℕ
exclusive_bit E = bit (exclusive E) ∷ []

-- Whether node k is exclusive, from its tag and its operands' numbers.
unfoldable pub exclusive_by : List ℕ → List ℕ → ℕ → ℕ
exclusive_by rows table k =
    cond (eqb (tag_at rows k) 3) (cond (eqb (get_or table (k + 1) 0) 0) 0 (get_or table (after_at rows (k + 1)) 0))
    (cond (eqb (tag_at rows k) 4) 0
    (cond (eqb (tag_at rows k) 6) (get_or table (k + 1) 0) 1))

-- The offset of node k where it is a loop whose body is not exclusive.
unfoldable pub fault_by : List ℕ → List ℕ → ℕ → List ℕ
fault_by rows table k = cond (eqb (tag_at rows k) 5) (cond (eqb (get_or table (after_at rows (k + 1)) 0) 0) (get_or rows (6 * k + 5) 0 ∷ []) []) []

-- The lists of so many numbers from k on, all_values.
unfoldable pub all_values : (ℕ → List ℕ) → ℕ → ℕ → List ℕ
all_values f k zero = []
all_values f k (suc count) = f k ++ all_values f (k + 1) count

-- The body of each loop below k comes after it.
abbrev pub Ordered : List ℕ → ℕ → Type 0
Ordered rows k = (m : ℕ) → m < k → tag_at rows m ≡ 5 → m < after_at rows (m + 1)

-- The nodes below k are judged too: a table grows, and an answer on the loops from k on becomes one on all of them.
pub record Judged (rows : List ℕ) (k : ℕ) (before after : List ℕ) (rest answer : Answer (Unit {0})) : Type 0 where
  pub kept : (m : ℕ) → k ≤ m → get_or after m 0 ≡ get_or before m 0
  pub known : (count : ℕ) → Known rows count 1 exclusive_bit k before → Known rows count 1 exclusive_bit 0 after
  pub first : Ordered rows k → answer ≡ (no_fault (all_values (fault_by rows after) 0 k) >> rest)
