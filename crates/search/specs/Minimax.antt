-- Plain minimax: what a position is worth, and its move.
use Rattle.std.specs.Prelude.{◌≡◌, ℕ, zero, suc, ◌+◌, ◌<◌, ◌≤◌, min, max, Bool, true, false, if◌then◌else◌, ◌≢◌, ◌==◌}
use Rattle.search.specs.Games.{Rules, Legal, Ended, Live}

-- The rule of minimax, for a function w from positions to numbers.
pub record Minimax {P : Type 0} (R : Rules P) (w : P → ℕ) : Type 0 where
  -- an ended position is worth its end score
  pub ended : (p : P) → Ended R p → w p ≡ R.score p
  -- any other is worth what some move of it gains plus what the position after that move is worth
  pub attained : (p : P) → Live R p → (m : ℕ) × Legal R p m × (w p ≡ R.gain p m + w (R.after p m))
  -- and no move of the counting side makes more, none of the other side less
  pub greatest : (p : P) (m : ℕ) → R.counting p ≡ true → Legal R p m → R.gain p m + w (R.after p m) ≤ w p
  pub least : (p : P) (m : ℕ) → R.counting p ≡ false → Legal R p m → w p ≤ R.gain p m + w (R.after p m)

-- The better of two numbers for the counting side (true) or the other.
abbrev pub better : Bool → ℕ → ℕ → ℕ
better true a b = max a b
better false a b = min a b

-- The best of v 0, v 1, .. v n.
unfoldable pub best_to : Bool → (ℕ → ℕ) → ℕ → ℕ
best_to c v zero = v zero
best_to c v (suc n) = better c (best_to c v n) (v (suc n))

-- The first of 0, 1, .. n - 1 at which f is true, or n.
unfoldable pub first_to : (ℕ → Bool) → ℕ → ℕ
first_to f zero = zero
first_to f (suc n) = if f zero then zero else suc (first_to (λ i. f (suc i)) n)

module _ {P : Type 0} (R : Rules P) where
  -- What p is worth by its first n moves, where w says what the positions after them are worth.
  unfoldable pub worth_by : ℕ → P → (P → ℕ) → ℕ
  worth_by zero p w = R.score p
  worth_by (suc n) p w = best_to (R.counting p) (λ i. R.gain p i + w (R.after p i)) n

  -- What p is worth if no play from it is longer than the first number.
  unfoldable pub worth_within : ℕ → P → ℕ
  worth_within zero p = R.score p
  worth_within (suc k) p = worth_by (R.moves p) p (worth_within k)

  -- What p is worth. It follows the rule of minimax, and nothing else does.
  unfoldable pub worth : P → ℕ
  worth p = worth_within (R.height p) p

  -- What move m of p comes to.
  abbrev pub comes_to : P → ℕ → ℕ
  comes_to p m = R.gain p m + worth (R.after p m)

  -- m is p's move: the first to reach what p is worth.
  pub record IsMove (p : P) (m : ℕ) : Type 0 where
    pub legal : Legal R p m
    pub reaches : comes_to p m ≡ worth p
    pub first : (j : ℕ) → j < m → comes_to p j ≢ worth p

  -- The move of a position that is not ended.
  unfoldable pub move : P → ℕ
  move p = first_to (λ i. comes_to p i == worth p) (R.moves p)

-- The answer to 'worth at least b' that is right of a worth: yes (true) or no.
abbrev pub Says : Bool → ℕ → ℕ → Type 0
Says true b w = b ≤ w
Says false b w = w < b
