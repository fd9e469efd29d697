-- The moves on a row of pins, their numbers, and what they leave.
use Rattle.std.specs.Prelude.{◌≡◌, ℕ, zero, suc, ◌+◌, ◌-◌, ◌<◌, ◌≤◌, Bool, true, false, if◌then◌else◌, ◌⊎◌, List, [], ◌∷◌, length, slice_index_or, refl}
use Rattle.std.proofs.Common.{arith}
use Rattle.kayles.specs.declared.board.Pin.{Pin}
use Rattle.kayles.specs.declared.board.Pin.TheVariants.{Standing, Down}
use Rattle.kayles.specs.declared.position.Knock.{Knock}
use Rattle.kayles.specs.Lists.{ListOf}
use Rattle.kayles.specs.Rows.{Stands, nth_pin}

-- pin i is one of those that the knock takes
abbrev pub Hits : Knock → ℕ → Type 0
Hits k i = (k.pin ≤ i) × (i < k.pin + k.pins)

-- a move knocks down one standing pin or two standing neighbours
pub record IsKnock (ps : List Pin) (k : Knock) : Type 0 where
  pub some : 1 ≤ k.pins
  pub few : k.pins ≤ 2
  pub stand : (i : ℕ) → Hits k i → Stands ps i

-- moves go by the lowest pin, one before two
abbrev pub Earlier : Knock → Knock → Type 0
Earlier j k = (j.pin < k.pin) ⊎ ((j.pin ≡ k.pin) × (j.pins < k.pins))

-- what a list is read as past its end; it is no move
abbrev pub no_knock : Knock
no_knock = record { pin = 0; pins = 0 }

-- ks lists the moves on the row. The move of number m is the one at place m, from 0
abbrev pub KnocksOf : List Pin → List Knock → Type 0
KnocksOf ps ks = ListOf (IsKnock ps) Earlier no_knock ks

-- the move k on the row ps leaves the row qs: as many pins, those of the move are down, the others are as they were
pub record Leaves (ps : List Pin) (k : Knock) (qs : List Pin) : Type 0 where
  pub pins : length qs ≡ length ps
  pub hit : (i : ℕ) → Hits k i → Stands qs i → ⊥
  pub others : (i : ℕ) → (Hits k i → ⊥) → nth_pin qs i ≡ nth_pin ps i

-- the first n pins stand
unfoldable pub front : ℕ → List Pin → Bool
front zero ps = true
front (suc n) [] = false
front (suc n) (Standing ∷ ps) = front n ps
front (suc n) (Down ∷ ps) = false

-- the move that takes n pins from pin i on
abbrev pub taking : ℕ → ℕ → Knock
taking i n = record { pin = i; pins = n }

-- that move, if the n pins stand, before the other moves; ps begins with pin i
unfoldable pub offered : ℕ → ℕ → List Pin → List Knock → List Knock
offered i n ps ks = if front n ps then taking i n ∷ ks else ks

-- the moves on a row that begins with pin i
unfoldable pub knocks_from : ℕ → List Pin → List Knock
knocks_from i [] = []
knocks_from i (p ∷ ps) = offered i 1 (p ∷ ps) (offered i 2 (p ∷ ps) (knocks_from (suc i) ps))

-- the list of the moves on a row
unfoldable pub knocks : List Pin → List Knock
knocks ps = knocks_from 1 ps

-- the first n pins go down
unfoldable pub fallen : ℕ → List Pin → List Pin
fallen zero ps = ps
fallen (suc n) [] = []
fallen (suc n) (p ∷ ps) = Down ∷ fallen n ps

-- n pins go down, after i that stay
unfoldable pub fallen_after : ℕ → ℕ → List Pin → List Pin
fallen_after zero n ps = fallen n ps
fallen_after (suc i) n [] = []
fallen_after (suc i) n (p ∷ ps) = p ∷ fallen_after i n ps

-- the row that a move leaves
unfoldable pub left_by : Knock → List Pin → List Pin
left_by k ps = fallen_after (k.pin - 1) k.pins ps

-- k is the move of number m
abbrev pub Numbered : List Pin → ℕ → Knock → Type 0
Numbered ps m k = (ks : List Knock) × KnocksOf ps ks × (m < length ks) × (slice_index_or ks m no_knock ≡ k)

-- no move has the number m
abbrev pub Unnumbered : List Pin → ℕ → Type 0
Unnumbered ps m = (ks : List Knock) × KnocksOf ps ks × (length ks ≤ m)

-- a move takes no pin off the row
length-fallen : (n : ℕ) (ps : List Pin) → length (fallen n ps) ≡ length ps
unfolding fallen
length-fallen zero ps = refl
length-fallen (suc n) [] = refl
length-fallen (suc n) (p ∷ ps) = omega (arith, length-fallen n ps)

length-after : (i n : ℕ) (ps : List Pin) → length (fallen_after i n ps) ≡ length ps
unfolding fallen_after
length-after zero n ps = length-fallen n ps
length-after (suc i) n [] = refl
length-after (suc i) n (p ∷ ps) = omega (arith, length-after i n ps)

pub length-left : (k : Knock) (ps : List Pin) → length (left_by k ps) ≡ length ps
unfolding left_by
length-left k ps = length-after _ _ ps
