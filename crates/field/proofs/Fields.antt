-- A field gives back its tag, its length and its body, whatever stands after it; and bytes that begin with a whole field are that field there.
-- True because the two bytes of a length are its quotient and its remainder by 256.
use Prim.Native.Nat.{ℕ, ◌+◌, ◌*◌, ◌-◌, ◌/◌, ◌%◌, ◌≤◌, ◌<◌}
use mathlib.Core.Path.{◌≡◌, refl, sym, ap, ap₂, ◌∙◌}
use mathlib.Core.List.{List, [], ◌∷◌, ◌++◌}
use native.Mathlib.Omega.{arith}
use native.Mathlib.Nat.{div-add-mod'}
use lib.ListN.{length, get_or, take, drop, length-take, length-drop}
use lib.Seq.{take-append_seam, take-add}
use lib.Arith.{digits_div, digits_mod}
use Rattle.field.specs.Field.{tag_of, length_of, body_of, field}

pub field_length : (t : ℕ) (body : List ℕ) → length (field t body) ≡ 3 + length body
unfolding field
field_length t body = omega arith

pub field_tag_of : (t : ℕ) (body rest : List ℕ) → tag_of (field t body ++ rest) ≡ t
unfolding field
field_tag_of t body rest = refl

pub field_length_of : (t : ℕ) (body rest : List ℕ) → length_of (field t body ++ rest) ≡ length body
unfolding field
field_length_of t body rest = div-add-mod' (length body) 256

pub field_body_of : (t : ℕ) (body rest : List ℕ) → body_of (field t body ++ rest) ≡ body
unfolding field
field_body_of t body rest = ap (λ (n : ℕ). take n (body ++ rest)) (div-add-mod' (length body) 256) ∙ take-append_seam body rest

pub body_of_length : (s : List ℕ) → length_of s ≤ length s - 3 → length (body_of s) ≡ length_of s
body_of_length s h = length-take (length_of s) (drop 3 s) ∙ omega (arith, length-drop 3 s)

-- the header and the body at the front of bytes that are long enough
pub field_front : (s : List ℕ) → 3 ≤ length s → length_of s ≤ length s - 3 → get_or s 2 0 < 256 → take (3 + length_of s) s ≡ field (tag_of s) (body_of s)
unfolding field
field_front [] h l b = absurd (let z : ⊥ = omega arith in z)
field_front (x ∷ []) h l b = absurd (let z : ⊥ = omega arith in z)
field_front (x ∷ y ∷ []) h l b = absurd (let z : ⊥ = omega arith in z)
field_front (x ∷ y ∷ z ∷ s) h l b =
    let n : length (take (y * 256 + z) s) ≡ y * 256 + z = body_of_length (x ∷ y ∷ z ∷ s) l in
    let q : y ≡ length (take (y * 256 + z) s) / 256 = sym (ap (λ (m : ℕ). m / 256) n ∙ digits_div y b) in
    let r : z ≡ length (take (y * 256 + z) s) % 256 = sym (ap (λ (m : ℕ). m % 256) n ∙ digits_mod y b) in
    take-add 3 (y * 256 + z) (x ∷ y ∷ z ∷ s) ∙ ap₂ (λ (u v : ℕ). x ∷ (u ∷ (v ∷ take (y * 256 + z) s))) q r
