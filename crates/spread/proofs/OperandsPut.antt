-- What the pass puts for a node, from what it called for it: the rows of its operands, by the node's tag.
-- True because lists whose numbers are the same in 16 bits put equal rows.
use Prim.Native.Nat.{ℕ, ◌+◌, ◌*◌, ◌%◌}
use native.Mathlib.Omega.{arith}
use mathlib.Core.Path.{◌≡◌, ◌∙◌, ap}
use mathlib.Core.Bool.{cond}
use mathlib.Core.List.{List, [], ◌∷◌}
use lib.ListN.{length, get_or}
use lib.Dec.{leb}
use lib.Seq.{sets}
use Rattle.boxes.specs.declared.counts.Counts.{Counts}
use Rattle.arcs.specs.inner.Moves.{Kind, Entry, Internal, Exit, Operand, First, Second, Third, Move, shift, loop_move}
use Rattle.lists.specs.declared.Node.{Node}
use Rattle.lists.specs.inner.Lists.{OneList, one_list, cut, list_row, node_row, list_by, lower_by, lower, node_put}
use Rattle.lists.specs.inner.Numbers.{numbers_of}
use Rattle.spread.specs.inner.Walk.{one_put, two_put, three_put}
use Rattle.lists.proofs.Lowering.{lower_same}

-- Equal in 16 bits: lists, and numbers.
pub record Same (s t : OneList) : Type 0 where
  pub same : cut s ≡ cut t

pub record SameNumber (m n : ℕ) : Type 0 where
  pub same : m % 65536 ≡ n % 65536

-- ---- an operand's lists, from the node's as they were read
module _ (lists : List ℕ) (k : ℕ) {n : Node ℕ} (read : n ≡ node_row lists k) where
  pub entries_kept : Same n.entries (lower_by 1 1 0 0 k (list_row lists (11 * k)))
  entries_kept = record { same = ap (λ (x : Node ℕ). cut x.entries) read ∙ ap cut (lower_same k (list_row lists (11 * k))) }

  pub exits_kept : Same n.exits (lower_by 1 1 0 0 k (list_row lists (11 * k + 5)))
  exits_kept = record { same = ap (λ (x : Node ℕ). cut x.exits) read ∙ ap cut (lower_same k (list_row lists (11 * k + 5))) }

  pub internal_kept : SameNumber n.internal (get_or lists (11 * k + 10) 0 + 0)
  internal_kept =
      let e = ap (λ (x : Node ℕ). x.internal) read in
      let p : n.internal ≡ get_or lists (11 * k + 10) 0 + 0 = omega arith in
      record { same = ap (λ m. m % 65536) p }

  pub internal_behind : (i off : ℕ) → i ≡ n.internal + off → SameNumber i (get_or lists (11 * k + 10) 0 + off)
  internal_behind i off e = record { same = ap (λ m. m % 65536) (e ∙ ap (λ (x : Node ℕ). x.internal + off) read) }

  module _ (left right step off : ℕ) {r : OneList} where
    pub of_entries : r ≡ lower_by left right step off k n.entries → Same r (lower_by left right step off k (list_row lists (11 * k)))
    of_entries e = record { same = ap cut (e ∙ ap (λ (x : Node ℕ). lower_by left right step off k x.entries) read) }

    pub of_exits : r ≡ lower_by left right step off k n.exits → Same r (lower_by left right step off k (list_row lists (11 * k + 5)))
    of_exits e = record { same = ap cut (e ∙ ap (λ (x : Node ℕ). lower_by left right step off k x.exits) read) }

    pub of_internals : {s : OneList} → s ≡ one_list n.internal 1 0 0 0 → r ≡ lower_by left right step off k s
        → Same r (lower_by left right step off k (one_list (get_or lists (11 * k + 10) 0) 1 0 0 0))
    of_internals {s} p e = record {
      same = ap cut (e ∙ ap (λ (s : OneList). lower_by left right step off k s) p ∙ ap (λ (x : Node ℕ). lower_by left right step off k (one_list x.internal 1 0 0 0)) read);
    }

-- ---- the rows of one, two and three operands, one after another
abbrev Is : List ℕ → ℕ → Move → OneList → Type 0
Is lists k m a = Same a (lower m k (list_by lists k m.kind))

abbrev Inner : List ℕ → ℕ → ℕ → ℕ → Type 0
Inner lists k off i = SameNumber i (get_or lists (11 * k + 10) 0 + off)

-- A row that is put, by its numbers in 16 bits.
abbrev stored : List ℕ → ℕ → OneList → OneList → ℕ → List ℕ
stored lists c entries exits internal = cond (leb (11 * c + 11) (length lists)) (sets lists (11 * c) (numbers_of entries (numbers_of exits (internal ∷ [])))) lists

pub one_told : (lists : List ℕ) (k : ℕ) {a b : OneList} {i : ℕ} {one : List ℕ} → Is lists k (shift Entry 0) a → Is lists k (shift Exit 0) b → Inner lists k 0 i
    → one ≡ node_put lists (k + 1) a b i → one ≡ one_put lists k
one_told lists k p q r x = x ∙ (λ t. stored lists (k + 1) (p.same t) (q.same t) (r.same t))

module _ (lists : List ℕ) (k second : ℕ) {a b a' b' : OneList} {i i' : ℕ} {one two : List ℕ} where
  pub two_told : (m : Operand → Kind → Counts → Counts → Move) (e f : Counts) → Is lists k (m First Entry e f) a → Is lists k (m First Exit e f) b → Inner lists k (m First Internal e f).off i
      → Is lists k (m Second Entry e f) a' → Is lists k (m Second Exit e f) b' → Inner lists k (m Second Internal e f).off i'
      → one ≡ node_put lists (k + 1) a b i → two ≡ node_put one second a' b' i' → two ≡ two_put m lists k second e f
  two_told m e f p q r p' q' r' x y =
      y ∙ (λ t. stored ((x ∙ (λ u. stored lists (k + 1) (p.same u) (q.same u) (r.same u))) t) second (p'.same t) (q'.same t) (r'.same t))

  pub three_told : (third : ℕ) (e f g : Counts) {a'' b'' : OneList} {i'' : ℕ} {three : List ℕ}
      → Is lists k (loop_move First Entry e f g) a → Is lists k (loop_move First Exit e f g) b → Inner lists k 0 i
      → Is lists k (loop_move Second Entry e f g) a' → Is lists k (loop_move Second Exit e f g) b' → Inner lists k e.internals i'
      → Is lists k (loop_move Third Entry e f g) a'' → Is lists k (loop_move Third Exit e f g) b'' → Inner lists k (e.internals + f.internals) i''
      → one ≡ node_put lists (k + 1) a b i → two ≡ node_put one second a' b' i' → three ≡ node_put two third a'' b'' i''
      → three ≡ three_put lists k second third e f g
  three_told third e f g p q r p' q' r' p'' q'' r'' x y z =
      let first = x ∙ (λ u. stored lists (k + 1) (p.same u) (q.same u) (r.same u)) in
      let then = y ∙ (λ u. stored (first u) second (p'.same u) (q'.same u) (r'.same u)) in
      z ∙ (λ u. stored (then u) third (p''.same u) (q''.same u) (r''.same u))
