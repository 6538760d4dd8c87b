-- A test of a whole list passes exactly when each of its members passes, and a test of two parts when both pass.
-- Each law follows the list: the test of a list is the test of its head and the test of the rest.
use Prim.Native.Nat.{ℕ, zero, suc}
use mathlib.Core.Path.{◌≡◌, refl, sym, ap, subst, subst⁻¹, ◌∙◌}
use mathlib.Core.List.{List, [], ◌∷◌, ◌++◌, map, Memᴰ}
use mathlib.Core.Bool.{Bool, true, false, ◌&&◌}
use lib.ListN.{replicate}
use lib.Dec.{T}
use Rattle.field.proofs.Tests.{and_parts, parts_and}
use Rattle.field.specs.Lists.{all}

pub and_assoc : (a b c : Bool) → ((a && b) && c) ≡ (a && (b && c))
and_assoc true b c = refl
and_assoc false b c = refl

pub all_of : {A : Type 0} (f : A → Bool) (l : List A) → ((x : A) → Memᴰ x l → T (f x)) → T (all f l)
unfolding all
all_of f [] h = tt
all_of f (x ∷ l) h = parts_and (f x) (all f l) (h x (Memᴰ.head refl)) (all_of f l (λ y m. h y (Memᴰ.tail m)))

pub all_at : {A : Type 0} (f : A → Bool) (l : List A) → T (all f l) → (x : A) → Memᴰ x l → T (f x)
unfolding all
all_at f [] h x m = elim m [ ]
all_at f (y ∷ l) h x (Memᴰ.head e) = subst⁻¹ (λ z. T (f z)) e (and_parts (f y) (all f l) h).0
all_at f (y ∷ l) h x (Memᴰ.tail m) = all_at f l (and_parts (f y) (all f l) h).1 x m

pub all_append : {A : Type 0} (f : A → Bool) (k l : List A) → all f (k ++ l) ≡ (all f k && all f l)
unfolding all
all_append f [] l = refl
all_append f (x ∷ k) l = ap (λ (b : Bool). f x && b) (all_append f k l) ∙ sym (and_assoc (f x) (all f k) (all f l))

pub all_join : {A : Type 0} (f : A → Bool) (k l : List A) → T (all f k) → T (all f l) → T (all f (k ++ l))
all_join f k l p q = subst⁻¹ T (all_append f k l) (parts_and (all f k) (all f l) p q)

pub all_split : {A : Type 0} (f : A → Bool) (k l : List A) → T (all f (k ++ l)) → T (all f k) × T (all f l)
all_split f k l h = and_parts (all f k) (all f l) (subst T (all_append f k l) h)

pub all_map : {A B : Type 0} (f : B → Bool) (g : A → B) (l : List A) → all f (map g l) ≡ all (λ x. f (g x)) l
unfolding all
all_map f g [] = refl
all_map f g (x ∷ l) = ap (λ (b : Bool). f (g x) && b) (all_map f g l)

pub all_replicate : {A : Type 0} (f : A → Bool) (n : ℕ) (x : A) → T (f x) → T (all f (replicate n x))
unfolding all
all_replicate f zero x h = tt
all_replicate f (suc n) x h = parts_and (f x) (all f (replicate n x)) h (all_replicate f n x h)
