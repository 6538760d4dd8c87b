-- 01, "Plan bytes": "House form: a field is a one-byte tag, a two-byte length (high byte first), a body."
use Rattle.std.specs.Prelude.{ℕ, ◌+◌, ◌*◌, ◌/◌, ◌%◌, List, ◌∷◌, length, get_or, take, drop}

abbrev pub tag_of : List ℕ → ℕ
tag_of s = get_or s 0 0

abbrev pub length_of : List ℕ → ℕ
length_of s = get_or s 1 0 * 256 + get_or s 2 0

abbrev pub body_of : List ℕ → List ℕ
body_of s = take (length_of s) (drop 3 s)

-- The field of a tag and a body.
unfoldable pub field : ℕ → List ℕ → List ℕ
field tag body = tag ∷ (length body / 256 ∷ (length body % 256 ∷ body))
