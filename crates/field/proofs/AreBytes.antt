-- Lists of bytes: parts of them are, and a list that is put together from bytes is, and so is a field whose body is short enough.
-- True number by number; a length below 65,536 is two bytes.
use Prim.Native.Nat.{ℕ, zero, suc, ◌+◌, ◌<◌, min}
use mathlib.Core.Path.{◌≡◌}
use mathlib.Core.List.{List, [], ◌∷◌, ◌++◌}
use native.Mathlib.Omega.{arith}
use lib.ListN.{length, get_or, take, drop, length-append, length-drop, length-take}
use lib.Seq.{get_or-drop, get_or-take, get_or-append-add}
use Rattle.field.specs.Field.{field}

-- each member is a byte
abbrev pub AreBytes : List ℕ → Type 0
AreBytes s = (i : ℕ) → i < length s → get_or s i 0 < 256

pub drop_are_bytes : (n : ℕ) (s : List ℕ) → AreBytes s → AreBytes (drop n s)
drop_are_bytes n s b i h = rw (get_or-drop n s i 0) (b (n + i) (omega (arith, length-drop n s)))

pub take_are_bytes : (n : ℕ) (s : List ℕ) → AreBytes s → AreBytes (take n s)
take_are_bytes n s b i h =
    let l : length (take n s) ≡ min n (length s) = length-take n s in
    rw (get_or-take n s i 0 (omega arith)) (b i (omega arith))

pub rest_are_bytes : (s t : List ℕ) → AreBytes (s ++ t) → AreBytes t
rest_are_bytes s t b i h = rw (get_or-append-add s t i 0) at (b (length s + i) (omega (arith, length-append s t)))

pub none_are_bytes : AreBytes []
none_are_bytes i h = absurd (let z : ⊥ = omega arith in z)

pub cons_are_bytes : (x : ℕ) (s : List ℕ) → x < 256 → AreBytes s → AreBytes (x ∷ s)
cons_are_bytes x s h b zero i = h
cons_are_bytes x s h b (suc k) i = b k (omega arith)

pub both_are_bytes : (s t : List ℕ) → AreBytes s → AreBytes t → AreBytes (s ++ t)
both_are_bytes [] t b c = c
both_are_bytes (x ∷ s) t b c = cons_are_bytes x (s ++ t) (b 0 (omega arith)) (both_are_bytes s t (λ i h. b (suc i) (omega arith)) c)

pub field_are_bytes : (t : ℕ) (body : List ℕ) → t < 256 → length body < 65536 → AreBytes body → AreBytes (field t body)
unfolding field
field_are_bytes t body g l b zero h = g
field_are_bytes t body g l b (suc zero) h = omega arith
field_are_bytes t body g l b (suc (suc zero)) h = omega arith
field_are_bytes t body g l b (suc (suc (suc k))) h = b k (omega arith)
