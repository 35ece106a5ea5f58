-- What a program holds after worked calls, by the definitions. The words were reckoned outside.
use Rattle.std.proofs.Common.{◌≡◌, ℕ, ◌<◌, ◌≤◌, ◌∷◌, [], refl, List, arith, lit<, lit≤}
use Rattle.tlsf_class.specs.Rounding.{rounded}
use Rattle.tlsf_c.specs.Held.{Held, held_after, Holds, AreOwn, asked_bytes, AllKeepToNumbers, AllKeepToOneSize, AreNoRefusals}
use Rattle.tlsf_c.specs.PlacedRuns.{Call, ask, ask_again, give_back, Told}

abbrev held : (address word asked : ℕ) → Held
held address word asked = record { address = address; word = word; asked = asked }

abbrev told : (address word : ℕ) → Told
told address word = record { address = address; word = word }

-- a block of 100 bytes, one that is refused, the first one resized to 200, a second one of 20, and the first given back
abbrev calls : List Call
calls = ask 100 ∷ ask 5000 ∷ ask_again 4112 3366696039589512271 200 ∷ ask 20 ∷ give_back 4112 653554061461718095 ∷ []

abbrev tolds : List Told
tolds = told 4112 3366696039589512271 ∷ told 0 2 ∷ told 4112 653554061461718095 ∷ told 4320 77 ∷ told 0 0 ∷ []

held_row : held_after calls tolds [] ≡ held 4320 77 20 ∷ []
held_row = refl

-- before the last call both were held, the newer one first
both_row : held_after (ask 100 ∷ ask 5000 ∷ ask_again 4112 3366696039589512271 200 ∷ ask 20 ∷ []) (told 4112 3366696039589512271 ∷ told 0 2 ∷ told 4112 653554061461718095 ∷ told 4320 77 ∷ []) []
    ≡ held 4320 77 20 ∷ held 4112 653554061461718095 200 ∷ []
both_row = refl

-- 20 bytes count as 32, and 200 as 208
bytes_row : asked_bytes (held 4320 77 20 ∷ held 4112 653554061461718095 200 ∷ []) ≡ 240
unfolding rounded
bytes_row = refl

-- the program resizes and gives back what it holds, by the word that was told last
own_row : AreOwn calls tolds []
own_row = (tt, (tt, (first_held, (tt, (later_held, tt)))))
  where
    first_held : Holds 4112 3366696039589512271 (held 4112 3366696039589512271 100 ∷ [])
    first_held = record { block = held 4112 3366696039589512271 100; has = (0, lit< tt, refl); at = refl; by = refl }

    later_held : Holds 4112 653554061461718095 (held 4320 77 20 ∷ held 4112 653554061461718095 200 ∷ [])
    later_held = record { block = held 4112 653554061461718095 200; has = (1, lit< tt, refl); at = refl; by = refl }

-- one of its calls is refused
refused_row : AreNoRefusals calls tolds → ⊥
refused_row all = omega (arith, all.1.0 (λ e. omega (arith, e)))

-- one block is held at most where more is asked for, and 208 bytes were asked for it
within_row : AllKeepToNumbers 1 208 5000 calls tolds []
unfolding rounded
within_row = (
  (λ some. record { few = lit≤ tt; small = lit≤ tt; least = lit≤ tt }),
  (
    (λ some. record { few = lit≤ tt; small = lit≤ tt; least = lit≤ tt }),
    (record { few = lit≤ tt; small = lit≤ tt; least = lit≤ tt }, ((λ some. record { few = lit≤ tt; small = lit≤ tt; least = lit≤ tt }), (tt, tt))),
  ),
)

-- not within a byte less
beyond_row : AllKeepToNumbers 1 207 5000 calls tolds [] → ⊥
unfolding rounded
beyond_row keeps = (let more : 208 ≤ 207 = (keeps.1.1.1.0 (λ e. omega (arith, e))).small in omega (arith, more))

-- 100 and 90 bytes are 112 with their fronts, and two such blocks are asked for
one_size_row : AllKeepToOneSize 2 112 (ask 100 ∷ ask 90 ∷ []) (told 4112 3366696039589512271 ∷ told 4224 77 ∷ []) []
unfolding rounded
one_size_row = ((λ some. record { few = lit< tt; rounds = refl }), ((λ some. record { few = lit< tt; rounds = refl }), tt))

-- a third one is one too many
third_row : AllKeepToOneSize 2 112 (ask 100 ∷ ask 90 ∷ ask 100 ∷ []) (told 4112 3366696039589512271 ∷ told 4224 77 ∷ told 0 2 ∷ []) [] → ⊥
third_row keeps = (let less : 2 < 2 = (keeps.1.1.0 (λ e. omega (arith, e))).few in omega (arith, less))
