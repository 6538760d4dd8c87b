-- What the inner functions leave in the list: these contracts follow the code.
use Rattle.std.specs.Prelude.{ℕ, ◌+◌, ◌*◌, ◌≤◌, ◌<◌, ◌≡◌, List, [], ◌∷◌, ◌++◌, map, Bool, cond, length, get_or, take, Option, Some, None}
use Rattle.algebra.specs.Expr.{Expr, actions}
use Rattle.algebra.specs.Item.{Item, one, two, first}
use Rattle.algebra.specs.Scopes.{ScopesNamed}
use Rattle.algebra.specs.Transitions.{Labelled, select, labelled, transitions}
use Rattle.plan.specs.inner.Nodes.{node_count}
use Rattle.plan.specs.inner.Table.{Stands, Node}
use Rattle.transitions.specs.inner.Numbers.{flat, most}

-- From one transition of the list to another stand these.
pub record Part (list : List ℕ) (start end : ℕ) (ts : List Labelled) : Type 0 where
  pub count : end ≡ start + length ts
  pub stands : Stands list (3 * start) (flat ts)

-- Transition t is stored in a list: what stands before it and behind it is as it was.
pub record Stored (t label first second : ℕ) (entry exit : List ℕ) : Type 0 where
  pub here : take (3 * (t + 1)) exit ≡ take (3 * t) entry ++ (label ∷ (first ∷ (second ∷ [])))
  pub behind : (j : ℕ) → 3 * (t + 1) ≤ j → get_or exit j 0 ≡ get_or entry j 0
  pub long : length exit ≡ length entry

-- So many numbers from the front of a list are these.
pub record Found (n : ℕ) (list is : List ℕ) : Type 0 where
  pub count : n ≡ length is
  pub numbers : take n list ≡ is

-- The first actions of those with a label.
unfoldable pub firsts : ℕ → List Labelled → List ℕ
unfolding select
firsts a ts = map (λ t. first t.item) (select (labelled a) ts)

-- How many transitions are joined pairs.
abbrev pub pair_of : Item → ℕ
pair_of (one i) = 0
pair_of (two i j) = 1

unfoldable pub pairs : List Labelled → ℕ
pairs [] = 0
pairs (t ∷ ts) = pair_of t.item + pairs ts

-- The list holds m transitions: n as at entry, and these behind them. What lies past them is work room.
pub record Held (m n : ℕ) (ts : List Labelled) (entry exit : List ℕ) : Type 0 where
  pub count : m ≡ n + length ts
  pub numbers : take (3 * m) exit ≡ take (3 * n) entry ++ flat ts
  pub long : length exit ≡ length entry

-- Behind the first n transitions these are listed; or the most are too few for n, for so many single actions, and for the pairs.
abbrev pub Lists : Option ℕ → ℕ → ℕ → List Labelled → List ℕ → List ℕ → Type 0
Lists (Some m) n few ts entry exit = Held m n ts entry exit
Lists None n few ts entry exit = most < n + (few + pairs ts)

abbrev pub joined_pair : ℕ → ℕ → Labelled
joined_pair i j = record { label = 0; item = two i j }

-- The pairs of one action with those that part from it, and of every one of a list.
unfoldable pub pairs_with : (ℕ → ℕ → Bool) → ℕ → List ℕ → List Labelled
pairs_with part i [] = []
pairs_with part i (j ∷ js) = cond (part i j) (joined_pair i j ∷ pairs_with part i js) (pairs_with part i js)

unfoldable pub pairs_of : (ℕ → ℕ → Bool) → List ℕ → List ℕ → List Labelled
unfolding pairs_with
pairs_of part [] js = []
pairs_of part (i ∷ is) js = pairs_with part i js ++ pairs_of part is js

-- The nodes from one to another are operands, the first action of which has the number i.
abbrev pub Operands : List ℕ → ℕ → ℕ → ℕ → ℕ → List Expr → Type 0
Operands rows count k end i [] = k ≡ end
Operands rows count k end i (E ∷ Es) = ((at : ℕ) × Node rows count k i at E) × Operands rows count (k + node_count E) end (i + actions E) Es

unfoldable pub all_actions : List Expr → ℕ
unfolding actions
all_actions [] = 0
all_actions (E ∷ Es) = actions E + all_actions Es

unfoldable pub all_transitions : ℕ → List Expr → List Labelled
unfolding transitions actions
all_transitions i [] = []
all_transitions i (E ∷ Es) = transitions i E ++ all_transitions (i + actions E) Es

abbrev pub AllNamed : List Expr → Type 0
AllNamed [] = Unit {0}
AllNamed (E ∷ Es) = ScopesNamed E × AllNamed Es
