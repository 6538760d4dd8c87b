-- What lies past the net's part, in a marking too, is neither looked at nor written by firing.
-- What is asked behind 30 and 35 is asked of the net's part, and a step leaves as many places.
use Prim.Native.Nat.{ℕ}
use mathlib.Core.Path.{◌≡◌, refl, sym, ap, ◌∙◌}
use mathlib.Core.List.{List}
use lib.ListN.{length, take, drop}
use lib.Seq.{length-take-le, take_at, drop_at}
use Rattle.field.specs.Answer.{Answer, good, refused, ◌>>=◌}
use Rattle.field.proofs.Answers.{bind_good}
use Rattle.algebra.specs.Firing.{fire_items}
use Rattle.algebra.proofs.Fires.{moved_length, fires_of}
use Rattle.net.specs.Tables.{Tables, transitions_in}
use Rattle.net.specs.Check.{check_net}
use Rattle.net.specs.Marking.{check_marking}
use Rattle.net.proofs.CountedPart.{Agree}
use Rattle.net.proofs.Marking.{marking_passed}
use Rattle.form.specs.Form.{read_lent_step}
use Rattle.moving.proofs.CountedPart.{behind_checks}
use Rattle.step.specs.Fire.{fire_step, fired, fire}

module _ (T T' : Tables) (agree : Agree T T') (m m' : List ℕ) (same : take T.places m ≡ take T.places m') where
  step_same : (s : List ℕ) → fire_step T m s ≡ fire_step T' m' s
  unfolding fire_step
  step_same s = behind_checks T T' agree m m' same (λ ts l. read_lent_step s >>= (λ is. fire_items ts l is))

-- The marking that a step leaves has a byte for each place.
step_length : (T : Tables) (m s l : List ℕ) → fire_step T m s ≡ good l → length l ≡ T.places
unfolding fire_step
step_length T m s l e =
    let net = bind_good (check_net T) _ l e in
    let marking = bind_good (check_marking T.places m) _ l net.2 in
    let items = bind_good (read_lent_step s) _ l marking.2 in
    let fires = fires_of (transitions_in T) (take T.places m) items.0 l items.2 in
    sym (ap length fires.after) ∙ moved_length 0 fires.ts (take T.places m) ∙ length-take-le T.places m (marking_passed T.places m marking.1).0

pub fire_same : (T T' : Tables) → Agree T T' → (m m' s : List ℕ) → take T.places m ≡ take T.places m'
    → ((fire T m s).answer ≡ (fire T' m' s).answer) × (take T.places (fire T m s).marking ≡ take T.places (fire T' m' s).marking)
unfolding fire
fire_same T T' agree m m' s same = go (fire_step T m s) (fire_step T' m' s) refl (step_same T T' agree m m' same s)
  where
    told : (a : Answer (List ℕ)) → fire_step T m s ≡ a
        → ((fired T m a).answer ≡ (fired T' m' a).answer) × (take T.places (fired T m a).marking ≡ take T.places (fired T' m' a).marking)
    told (good l) e =
        let long : length l ≡ T.places = step_length T m s l e in
        (refl, take_at l (drop T.places m) T.places long ∙ sym (take_at l (drop T'.places m') T.places long))
    told (refused n c) e = (refl, same)

    go : (a b : Answer (List ℕ)) → fire_step T m s ≡ a → a ≡ b
        → ((fired T m a).answer ≡ (fired T' m' b).answer) × (take T.places (fired T m a).marking ≡ take T.places (fired T' m' b).marking)
    go a b e f = rw (← f) (told a e)

pub fire_behind : (T : Tables) (m s : List ℕ) → drop T.places (fire T m s).marking ≡ drop T.places m
unfolding fire
fire_behind T m s = go (fire_step T m s) refl
  where
    go : (a : Answer (List ℕ)) → fire_step T m s ≡ a → drop T.places (fired T m a).marking ≡ drop T.places m
    go (good l) e = drop_at l (drop T.places m) T.places (step_length T m s l e)
    go (refused n c) e = refl
