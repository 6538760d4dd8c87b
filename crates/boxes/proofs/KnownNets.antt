-- 01, "Known nets", those with P: from plan bytes to the answer and the three tables. Each row is what the paper says; the definitions compute it.
-- The full_room tables hold 9s beforehand, so a row also shows that nothing behind the net's part is written.
use Prim.Native.Nat.{ℕ, ◌-◌}
use mathlib.Core.Path.{◌≡◌, refl}
use mathlib.Core.List.{List, [], ◌∷◌, ◌++◌, map}
use lib.ListN.{length, replicate}
use Rattle.field.specs.Answer.{good, refused}
use Rattle.boxes.specs.Compile.{Lent, Counts, Compiled, compile}

abbrev pub full_room : Lent
full_room = record { kinds = replicate 8 9; rows = replicate 36 9; arcs = replicate 16 9 }

-- a table of so many 9s with a part written at its front
abbrev written : ℕ → List ℕ → List ℕ
written n part = part ++ replicate (n - length part) 9

-- a net: its counts (places, transitions, arcs, entries, internals), kinds, rows and arcs
abbrev net : Counts → List ℕ → List ℕ → List ℕ → Compiled
net counts kinds rows arcs = record { answer = good counts; tables = record { kinds = written 8 kinds; rows = written 36 rows; arcs = written 16 arcs } }

abbrev counts : ℕ → ℕ → ℕ → ℕ → ℕ → Counts
counts p t a e i = record { places = p; transitions = t; arcs = a; entries = e; internals = i }

abbrev refusal : ℕ → ℕ → Compiled
refusal n c = record { answer = refused n c; tables = full_room }

pub record Known : Type 0 where
  pub plan : List ℕ
  pub compiled : Compiled

-- (a‖b);c
abbrev pub ab_then_c : List ℕ
ab_then_c = 0x02 ∷ 0x00 ∷ 0x0F ∷ 0x04 ∷ 0x00 ∷ 0x08 ∷ 0x01 ∷ 0x00 ∷ 0x01 ∷ 0x01 ∷ 0x01 ∷ 0x00 ∷ 0x01 ∷ 0x02 ∷ 0x01 ∷ 0x00 ∷ 0x01 ∷ 0x03 ∷ []

-- a sc a
abbrev pub a_alone : List ℕ
a_alone = 0x06 ∷ 0x00 ∷ 0x05 ∷ 0x01 ∷ 0x01 ∷ 0x00 ∷ 0x01 ∷ 0x01 ∷ []

abbrev pub known : List Known
known =
    -- (a‖b);c: 5 places; 0→2, 1→3, 2 3→4
    record {
      plan = ab_then_c;
      compiled = net (counts 5 3 7 2 2) (1 ∷ 1 ∷ 2 ∷ 2 ∷ 3 ∷ [])
          (1 ∷ 0 ∷ 65535 ∷ 0 ∷ 1 ∷ 1 ∷ 2 ∷ 1 ∷ 65535 ∷ 2 ∷ 1 ∷ 1 ∷ 3 ∷ 2 ∷ 65535 ∷ 4 ∷ 2 ∷ 1 ∷ [])
          (0 ∷ 2 ∷ 1 ∷ 3 ∷ 2 ∷ 3 ∷ 4 ∷ []);
    }
    -- (a‖b)□c: 4 places; 0→2, 1→3, 0 1→2 3
    ∷ record {
      plan = 0x03 ∷ 0x00 ∷ 0x0F ∷ 0x04 ∷ 0x00 ∷ 0x08 ∷ 0x01 ∷ 0x00 ∷ 0x01 ∷ 0x01 ∷ 0x01 ∷ 0x00 ∷ 0x01 ∷ 0x02 ∷ 0x01 ∷ 0x00 ∷ 0x01 ∷ 0x03 ∷ [];
      compiled = net (counts 4 3 8 2 0) (1 ∷ 1 ∷ 3 ∷ 3 ∷ [])
          (1 ∷ 0 ∷ 65535 ∷ 0 ∷ 1 ∷ 1 ∷ 2 ∷ 1 ∷ 65535 ∷ 2 ∷ 1 ∷ 1 ∷ 3 ∷ 2 ∷ 65535 ∷ 4 ∷ 2 ∷ 2 ∷ [])
          (0 ∷ 2 ∷ 1 ∷ 3 ∷ 0 ∷ 1 ∷ 2 ∷ 3 ∷ []);
    }
    -- ⟨a⊗b⊗c⟩: 0→1, 1→1, 1→2
    ∷ record {
      plan = 0x05 ∷ 0x00 ∷ 0x0C ∷ 0x01 ∷ 0x00 ∷ 0x01 ∷ 0x01 ∷ 0x01 ∷ 0x00 ∷ 0x01 ∷ 0x02 ∷ 0x01 ∷ 0x00 ∷ 0x01 ∷ 0x03 ∷ [];
      compiled = net (counts 3 3 6 1 1) (1 ∷ 2 ∷ 3 ∷ [])
          (1 ∷ 0 ∷ 65535 ∷ 0 ∷ 1 ∷ 1 ∷ 2 ∷ 1 ∷ 65535 ∷ 2 ∷ 1 ∷ 1 ∷ 3 ∷ 2 ∷ 65535 ∷ 4 ∷ 1 ∷ 1 ∷ [])
          (0 ∷ 1 ∷ 1 ∷ 1 ∷ 1 ∷ 2 ∷ []);
    }
    -- ⟨c⊗((a‖b);e)⊗d⟩: 6 places; c 0→3 4, a 3→1, b 4→2, e 1 2→3 4, d 3 4→5
    ∷ record {
      plan =
          0x05 ∷ 0x00 ∷ 0x1A ∷ 0x01 ∷ 0x00 ∷ 0x01 ∷ 0x03 ∷ 0x02 ∷ 0x00 ∷ 0x0F ∷ 0x04 ∷ 0x00 ∷ 0x08 ∷ 0x01 ∷ 0x00 ∷ 0x01 ∷ 0x01 ∷ 0x01 ∷ 0x00 ∷ 0x01 ∷ 0x02
          ∷ 0x01 ∷ 0x00 ∷ 0x01 ∷ 0x05 ∷ 0x01 ∷ 0x00 ∷ 0x01 ∷ 0x04 ∷ [];
      compiled = net (counts 6 5 14 1 4) (1 ∷ 2 ∷ 2 ∷ 2 ∷ 2 ∷ 3 ∷ [])
          (3 ∷ 0 ∷ 65535 ∷ 0 ∷ 1 ∷ 2 ∷ 1 ∷ 1 ∷ 65535 ∷ 3 ∷ 1 ∷ 1 ∷ 2 ∷ 2 ∷ 65535 ∷ 5 ∷ 1 ∷ 1 ∷ 5 ∷ 3 ∷ 65535 ∷ 7 ∷ 2 ∷ 2 ∷ 4 ∷ 4 ∷ 65535 ∷ 11 ∷ 2 ∷ 1 ∷ [])
          (0 ∷ 3 ∷ 4 ∷ 3 ∷ 1 ∷ 4 ∷ 2 ∷ 1 ∷ 2 ∷ 3 ∷ 4 ∷ 3 ∷ 4 ∷ 5 ∷ []);
    }
    -- (a‖a') sc a: one silent 0 1→2 3
    ∷ record {
      plan = 0x06 ∷ 0x00 ∷ 0x0C ∷ 0x01 ∷ 0x04 ∷ 0x00 ∷ 0x08 ∷ 0x01 ∷ 0x00 ∷ 0x01 ∷ 0x01 ∷ 0x01 ∷ 0x00 ∷ 0x01 ∷ 0x81 ∷ [];
      compiled = net (counts 4 1 4 2 0) (1 ∷ 1 ∷ 3 ∷ 3 ∷ []) (0 ∷ 0 ∷ 1 ∷ 0 ∷ 2 ∷ 2 ∷ []) (0 ∷ 1 ∷ 2 ∷ 3 ∷ []);
    }
    -- (a;a') sc a: 3 places, no transition
    ∷ record {
      plan = 0x06 ∷ 0x00 ∷ 0x0C ∷ 0x01 ∷ 0x02 ∷ 0x00 ∷ 0x08 ∷ 0x01 ∷ 0x00 ∷ 0x01 ∷ 0x01 ∷ 0x01 ∷ 0x00 ∷ 0x01 ∷ 0x81 ∷ [];
      compiled = net (counts 3 0 0 1 1) (1 ∷ 2 ∷ 3 ∷ []) [] [];
    }
    -- a sc a: 2 places, none
    ∷ record { plan = a_alone; compiled = net (counts 2 0 0 1 0) (1 ∷ 3 ∷ []) [] [] }
    -- ⟨c⊗(a‖b)⊗d⟩: 10 at offset 0
    ∷ record {
      plan =
          0x05 ∷ 0x00 ∷ 0x13 ∷ 0x01 ∷ 0x00 ∷ 0x01 ∷ 0x03 ∷ 0x04 ∷ 0x00 ∷ 0x08 ∷ 0x01 ∷ 0x00 ∷ 0x01 ∷ 0x01 ∷ 0x01 ∷ 0x00 ∷ 0x01 ∷ 0x02 ∷ 0x01 ∷ 0x00 ∷ 0x01 ∷ 0x04 ∷ [];
      compiled = refusal 10 0;
    }
    -- 02 00 00: 8 at offset 3
    ∷ record { plan = 0x02 ∷ 0x00 ∷ 0x00 ∷ []; compiled = refusal 8 3 }
    -- empty plan: 8 at 0
    ∷ record { plan = []; compiled = refusal 8 0 }
    -- 01 00 01 80: 6
    ∷ record { plan = 0x01 ∷ 0x00 ∷ 0x01 ∷ 0x80 ∷ []; compiled = refusal 6 0 }
    ∷ []

pub known_nets : map (λ (k : Known). compile k.plan full_room) known ≡ map (λ (k : Known). k.compiled) known
unfolding compile
known_nets = refl
