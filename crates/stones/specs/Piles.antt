-- A small game, to try the search on: piles of stones.
use Rattle.std.specs.Prelude.{ℕ, ◌+◌, ◌-◌, ◌≤◌, min, if◌then◌else◌, not, ◌&&◌, [], ◌∷◌, ◌==◌, slice_index}
use Rattle.std.specs.Bool.{beq}
use Rattle.std.proofs.Common.{arith}
use Rattle.stones.specs.Limits.{most_stones}
use Rattle.stones.specs.declared.pile.PileSet.{PileSet}
use Rattle.stones.specs.declared.pile.Pile.{Pile}
use Rattle.search.specs.Games.{Rules}
use Rattle.search.specs.Sets.{Sets}

-- Taking stones leaves no more than the most.
pub fewer : (n k : ℕ) → n ≤ most_stones → n - k ≤ most_stones
fewer n k h = omega arith

-- A number held at the most.
pub at_most : (n : ℕ) → min n most_stones ≤ most_stones
at_most n = omega arith

-- How many stones move m takes: one, then two.
abbrev pub taken : ℕ → ℕ
taken m = m + 1

-- The pile after so many stones were taken: the other side is to move, the colour stays.
abbrev pub less : Pile → ℕ → Pile
less p k = record { stones = p.stones - k; counting = not p.counting; red = p.red; few = fewer p.stones k p.few }

-- The sides in turn take one stone or two, as long as there are some; the counting side scores what it takes.
abbrev pub rules_of_play : Rules Pile
rules_of_play = record {
  counting = λ p. p.counting;
  moves = λ p. min p.stones 2;
  gain = λ p m. if p.counting then taken m else 0;
  after = λ p m. less p (taken m);
  score = λ p. 0;
  top = λ p. p.stones;
  height = λ p. p.stones;
  row = λ p. p.stones ∷ (if p.counting then 1 else 0) ∷ (if p.red then 1 else 0) ∷ 0 ∷ 0 ∷ [];
  position = λ r. record { stones = min (slice_index r 0) most_stones; counting = (slice_index r 1 == 1); red = (slice_index r 2 == 1); few = at_most (slice_index r 0) };
}

-- The piles of p's size with p's side to move.
abbrev pub alike : Pile → PileSet
alike p = record { stones = p.stones; counting = p.counting }

-- Piles of one size and side to move share a set; the colour is left out.
abbrev pub sets_of_piles : Sets Pile PileSet
sets_of_piles = record {
  member = λ s p. (s.stones == p.stones) && beq s.counting p.counting;
  broad = alike;
  pull = λ p m t. alike p;
  narrow = λ p s t. alike p;
  weight = λ s. min s.stones most_stones;
}
