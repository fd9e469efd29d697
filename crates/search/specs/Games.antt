-- What a game tells of its positions, and the laws that every game keeps.
use Rattle.std.specs.Prelude.{◌≡◌, ℕ, ◌+◌, ◌<◌, ◌≤◌, Bool, List}
use Rattle.search.specs.declared.game.Child.{Child}

-- A position has at most this many moves.
abbrev pub most_moves : ℕ
most_moves = 255

-- Gains, end scores, tops, heights and weights are at most this.
abbrev pub most_points : ℕ
most_points = 250

-- A game over positions P. All that it tells depends on the position alone.
pub record Rules (P : Type 0) : Type 0 where
  -- whether the counting side is to move: it wants a high score, the other side a low one
  pub counting : P → Bool
  -- how many moves there are, numbered from 0; a position with none is ended
  pub moves : P → ℕ
  -- what a move adds to the score
  pub gain : P → ℕ → ℕ
  -- the position after a move; what is said of a number at or past the count is of no account, here and in gain
  pub after : P → ℕ → P
  -- what is added to the score at the end
  pub score : P → ℕ
  -- no play from here adds more than this
  pub top : P → ℕ
  -- no play from here is longer than this
  pub height : P → ℕ
  -- the position as plain numbers, and a position for whatever numbers
  pub row : P → List ℕ
  pub position : List ℕ → P

module _ {P : Type 0} (R : Rules P) where
  -- m is the number of a move of p
  abbrev pub Legal : P → ℕ → Type 0
  Legal p m = m < R.moves p

  -- p has no move
  abbrev pub Ended : P → Type 0
  Ended p = R.moves p ≡ 0

  -- p has a move
  abbrev pub Live : P → Type 0
  Live p = 0 < R.moves p

-- The laws of games.
pub record GameLaws {P : Type 0} (R : Rules P) : Type 0 where
  -- the height after a move is lower than before
  pub falls : (p : P) (m : ℕ) → Legal R p m → R.height (R.after p m) < R.height p
  -- the end score of an ended position is at most its top
  pub score_top : (p : P) → Ended R p → R.score p ≤ R.top p
  -- the gain of a move plus the top after it is at most the top before it
  pub gain_top : (p : P) (m : ℕ) → Legal R p m → R.gain p m + R.top (R.after p m) ≤ R.top p
  -- a position that is not ended has no end score
  pub no_score : (p : P) → Live R p → R.score p ≡ 0
  -- the limits of the numbers; those of gains and end scores follow from the top's
  pub few_moves : (p : P) → R.moves p ≤ most_moves
  pub low_top : (p : P) → R.top p ≤ most_points
  pub low_height : (p : P) → R.height p ≤ most_points
  -- a position's own row gives that position
  pub row_back : (p : P) → R.position (R.row p) ≡ p

-- What a game answers for move m of p, where moved says which move has a number.
pub record IsChild {P M : Type 0} (R : Rules P) (moved : P → ℕ → M) (p : P) (m : ℕ) (c : Child P M) : Type 0 where
  pub legal : Legal R p m
  pub position : c.position ≡ R.after p m
  pub gain : c.gain ≡ R.gain p m
  pub played : c.played ≡ moved p m
