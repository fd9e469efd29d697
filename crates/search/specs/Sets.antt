-- Sets of positions that may share one memory, and the laws that every set system keeps.
use Rattle.std.specs.Prelude.{◌≡◌, ℕ, zero, suc, ◌≤◌, Bool, true}
use Rattle.search.specs.Games.{Ended, GameLaws, Legal, Live, Rules, most_points}

-- A set system: sets S of positions P.
pub record Sets (P S : Type 0) : Type 0 where
  -- whether the position belongs to the set
  pub member : S → P → Bool
  -- the set for an answer that needs no move
  pub broad : P → S
  -- the set for an answer got by one move, from the set of the position after it
  pub pull : P → ℕ → S → S
  -- what two sets have in common, or less
  pub narrow : P → S → S → S
  -- how much a set weighs, by which a table may tell entries apart
  pub weight : S → ℕ

-- p belongs to s.
abbrev pub In : {P S : Type 0} → Sets P S → S → P → Type 0
In Z s p = Z.member s p ≡ true

module _ {P S : Type 0} (R : Rules P) (Z : Sets P S) where
  -- Move j of q gains g and leads into t.
  abbrev pub Leads : P → ℕ → ℕ → S → Type 0
  Leads q j g t = (R.gain q j ≡ g) × In Z t (R.after q j)

  -- The set for the moves up to i: so far it was acc for those before, and s is the pull of move i. The first stands alone.
  abbrev pub joined : P → ℕ → S → S → S
  joined p zero acc s = s
  joined p (suc i) acc s = Z.narrow p acc s

  -- The first n moves of p pulled, each through its set, and narrowed together in move order. With n = 0 there is
  -- nothing to narrow; the broad set stands in, and joined drops it.
  abbrev pub cover_to : P → (ℕ → S) → ℕ → S
  cover_to p T zero = Z.broad p
  cover_to p T (suc n) = joined p n (cover_to p T n) (Z.pull p n (T n))

  -- Every move of p pulled through its set, and these narrowed together in move order.
  abbrev pub cover : P → (ℕ → S) → S
  cover p T = cover_to p T (R.moves p)

-- The laws of set systems.
pub record SetLaws {P S : Type 0} (R : Rules P) (Z : Sets P S) : Type 0 where
  -- Broad: p belongs; every member has p's top; if p is ended, every member is ended with p's end score.
  pub broad_own : (p : P) → In Z (Z.broad p) p
  pub broad_top : (p q : P) → In Z (Z.broad p) q → R.top q ≡ R.top p
  pub broad_end : (p q : P) → In Z (Z.broad p) q → Ended R p → Ended R q × (R.score q ≡ R.score p)
  -- Pull, for a move of p and a set that holds the position after it: p belongs; every member has p's side to move and
  -- some move with that gain that leads into the set.
  pub pull_own : (p : P) (m : ℕ) (t : S) → Legal R p m → In Z t (R.after p m) → In Z (Z.pull p m t) p
  pub pull_all : (p : P) (m : ℕ) (t : S) → Legal R p m → In Z t (R.after p m) → (q : P) → In Z (Z.pull p m t) q → (R.counting q ≡ R.counting p) × ((j : ℕ) × Legal R q j × Leads R Z q j (R.gain p m) t)
  -- Narrow, for two sets that hold p: p belongs, and every member belongs to both.
  pub narrow_own : (p : P) (s t : S) → In Z s p → In Z t p → In Z (Z.narrow p s t) p
  pub narrow_all : (p : P) (s t : S) → In Z s p → In Z t p → (q : P) → In Z (Z.narrow p s t) q → In Z s q × In Z t q
  -- Cover, for a position with moves and for each move a set that holds the position after it: every member has p's side
  -- to move and is not ended, and each of its moves has the gain of some move of p and leads into that move's set.
  pub cover_all : (p : P) (T : ℕ → S) → Live R p → ((i : ℕ) → Legal R p i → In Z (T i) (R.after p i)) → (q : P) → In Z (cover R Z p T) q → (R.counting q ≡ R.counting p) × Live R q × ((j : ℕ) → Legal R q j → (i : ℕ) × Legal R p i × Leads R Z q j (R.gain p i) (T i))
  -- the limit of a weight
  pub low_weight : (s : S) → Z.weight s ≤ most_points

-- A game and a set system that keep all laws.
pub record Lawful {P S : Type 0} (R : Rules P) (Z : Sets P S) : Type 0 where
  pub game : GameLaws R
  pub sets : SetLaws R Z
