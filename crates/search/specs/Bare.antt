-- The bare search: visits without look and keep.
use Rattle.std.specs.Prelude.{◌≡◌, ℕ, zero, suc, ◌+◌, min, Bool, true, if◌then◌else◌, not, Some, None, Option}
use Rattle.std.specs.Bool.{beq}
use Rattle.search.specs.Games.{Rules}
use Rattle.search.specs.Minimax.{move, worth}
use Rattle.search.specs.Sets.{Sets}
use Rattle.search.specs.Tables.{Memory}
use Rattle.search.specs.Visits.{Visit, aim, rest_of, settled}

-- An answer and the number of visits made for it, not held at any limit.
abbrev pub Count : Type 0
Count = Bool × ℕ

-- Side c is to move, first is what the visit after one move came to, and later what the moves behind it come to: those are
-- left alone where the first answers as the side wants.
abbrev pub first_or_later : Bool → Count → Count → Count
first_or_later c first later = if beq first.0 c then (c, first.1) else (later.0, first.1 + later.1)

-- One visit, and where it is not settled without a move, what its moves come to.
abbrev pub with_visit : Option Bool → Count → Count
with_visit (Some a) moves = (a, 1)
with_visit None moves = (moves.0, suc moves.1)

module _ {P : Type 0} (R : Rules P) where
  -- The bare search of p at b over its moves from i on, of which l are left; child is what it does after each.
  unfoldable pub bare_moves : (P → ℕ → Count) → P → ℕ → ℕ → ℕ → Count
  bare_moves child p b zero i = (not (R.counting p), 0)
  bare_moves child p b (suc l) i = first_or_later (R.counting p) (child (R.after p i) (rest_of R p b i)) (bare_moves child p b l (suc i))

  -- The bare search of a position of less height than the first number; at 0 there is no such position.
  unfoldable pub bare_within : ℕ → P → ℕ → Count
  bare_within zero p b = (true, 1)
  bare_within (suc k) p b = with_visit (settled R p b) (bare_moves (bare_within k) p b (R.moves p) 0)

  -- The bare search of p at b. It is a visit over the table that never holds any entry.
  unfoldable pub bare : P → ℕ → Count
  bare p b = bare_within (suc (R.height p)) p b

  -- How many visits the bare search makes.
  abbrev pub bare_visits : P → ℕ → ℕ
  bare_visits p b = (bare p b).1

-- The visits of bare searches number i, i + 1 and so on, l of them, where visits tells those of each.
unfoldable pub bare_from : (ℕ → ℕ) → ℕ → ℕ → ℕ
bare_from visits zero i = 0
bare_from visits (suc l) i = visits i + bare_from visits l (suc i)

-- What solve and best would make of bare searches.
module _ {P : Type 0} (R : Rules P) where
  -- The visits of a solve: at 1, 2 and so on up to one above the worth, which answers no, or up to the top if that is lower.
  abbrev pub bare_solve : P → ℕ
  bare_solve p = bare_from (bare_visits R p) (min (R.top p) (worth R p + 1)) 1

  -- The visits of the bare search of the position after move i, at best's bound.
  unfoldable pub bare_after : P → ℕ → ℕ
  bare_after p i = bare_visits R (R.after p i) (aim R p (worth R p) i)

  -- The visits of a best: a solve, and then the moves up to the position's move.
  abbrev pub bare_best : P → ℕ
  bare_best p = bare_solve p + bare_from (bare_after p) (move R p + 1) 0

-- The table that never holds any entry: looking there and keeping there do nothing.
abbrev pub nothing_held : {P S : Type 0} → Memory P S (Unit {0})
nothing_held = record { held = λ x e. ⊥; looks = λ x p b o. o ≡ None; keeps = λ x e y. Unit {0}; wipes = λ x y. Unit {0}; retains = λ x. ⊥ }

-- The visit of p at b over that table answers so and makes so many visits.
abbrev pub Bare : {P S : Type 0} → Rules P → Sets P S → P → ℕ → Bool → ℕ → Type 0
Bare {P} {S} R Z p b a n = (s : S) × Visit R Z nothing_held p b tt a s tt n
