-- The worth follows the rule of minimax, it alone does, and each live position has one move.
use Rattle.std.proofs.Common.{◌≡◌, ℕ, zero, suc, ◌+◌, ◌<◌, ◌≤◌, Bool, true, false, ◌⊎◌, sym, refl, ap, ◌∙◌, ap₂, inl, inr, arith}
use Rattle.std.specs.Prelude.{◌==◌}
use Rattle.std.proofs.lemmas.Bool.{cases_Bool, cond_both, eq-eqb, eqb-true}
use Rattle.search.specs.Games.{Ended, GameLaws, Legal, Live, Rules, most_points}
use Rattle.search.specs.Minimax.{IsMove, Minimax, best_to, better, comes_to, first_to, move, worth, worth_by, worth_within}
use Rattle.search.specs.Promises.{WorthRight}

-- The best of several numbers.

best_ext : (c : Bool) (v w : ℕ → ℕ) (n : ℕ) → ((i : ℕ) → i ≤ n → v i ≡ w i) → best_to c v n ≡ best_to c w n
unfolding best_to
best_ext c v w zero h = h zero (omega arith)
best_ext c v w (suc n) h = ap₂ (better c) (best_ext c v w n (λ i k. h i (omega arith))) (h (suc n) (omega arith))

-- No number is better than the best.
best_bounds : (c : Bool) (v : ℕ → ℕ) (n i : ℕ) → i ≤ n → (c ≡ true → v i ≤ best_to c v n) × (c ≡ false → best_to c v n ≤ v i)
unfolding best_to
best_bounds c v zero i h = grind arith
best_bounds c v (suc n) i h = grind (arith, best_bounds c v n i)

-- The better of two is one of them, and the best of several is one of them.
better_one : (c : Bool) (a b : ℕ) → (better c a b ≡ a) ⊎ (better c a b ≡ b)
better_one c a b = grind arith

best_some : (c : Bool) (v : ℕ → ℕ) (n : ℕ) → (i : ℕ) × (i ≤ n) × (best_to c v n ≡ v i)
unfolding best_to
best_some c v zero = (0, omega arith, refl)
best_some c v (suc n) =
    let r = best_some c v n in
    elim (better_one c (best_to c v n) (v (suc n))) [
      | inl e ↦ (r.0, omega arith, e ∙ r.2)
      | inr e ↦ (suc n, omega arith, e)
    ]

-- The first number at which a test is true: the test is true there, and no later than anywhere else.
first_found : (f : ℕ → Bool) (n i : ℕ) → i < n → f i ≡ true → (f (first_to f n) ≡ true) × (first_to f n ≤ i)
unfolding first_to
first_found f zero i h e = absurd (omega arith)
first_found f (suc n) zero h e = rw e (e, omega arith)
first_found f (suc n) (suc i) h e =
    let r = first_found (λ k. f (suc k)) n i (omega arith) e in
    let found : ℕ → Type 0 = λ m. (f m ≡ true) × (m ≤ suc i) in
    cond_both (f 0) 0 _ found (λ t. (t, omega arith)) (λ _. (r.0, omega arith))

-- What a position is worth by its moves, of which there may be none.

module _ {P : Type 0} (R : Rules P) where
  by_ext : (n : ℕ) (p : P) (v w : P → ℕ) → ((i : ℕ) → i < n → v (R.after p i) ≡ w (R.after p i)) → worth_by R n p v ≡ worth_by R n p w
  unfolding worth_by
  by_ext zero p v w h = refl
  by_ext (suc n) p v w h = best_ext (R.counting p) _ _ n (λ i k. ap (λ x. R.gain p i + x) (h i (omega arith)))

  by_none : (n : ℕ) (p : P) (w : P → ℕ) → n ≡ 0 → worth_by R n p w ≡ R.score p
  unfolding worth_by
  by_none zero p w e = refl
  by_none (suc n) p w e = absurd (omega arith)

  by_bounds : (n : ℕ) (p : P) (w : P → ℕ) (j : ℕ) → j < n → (R.counting p ≡ true → R.gain p j + w (R.after p j) ≤ worth_by R n p w) × (R.counting p ≡ false → worth_by R n p w ≤ R.gain p j + w (R.after p j))
  unfolding worth_by
  by_bounds zero p w j h = absurd (omega arith)
  by_bounds (suc n) p w j h = best_bounds (R.counting p) (λ i. R.gain p i + w (R.after p i)) n j (omega arith)

  by_some : (n : ℕ) (p : P) (w : P → ℕ) → 0 < n → (j : ℕ) × (j < n) × (worth_by R n p w ≡ R.gain p j + w (R.after p j))
  unfolding worth_by
  by_some zero p w h = absurd (omega arith)
  by_some (suc n) p w h =
      let r = best_some (R.counting p) (λ i. R.gain p i + w (R.after p i)) n in
      (r.0, omega (arith, r.1), r.2)

module _ {P : Type 0} (R : Rules P) (L : GameLaws R) where
  -- What holds of a position wherever it holds after each of its moves holds of every position.
  pub by_height : (Q : P → Type 0) → ((p : P) → ((i : ℕ) → Legal R p i → Q (R.after p i)) → Q p) → (p : P) → Q p
  by_height Q step p = below (suc (R.height p)) p (omega arith)
    where
      below : (k : ℕ) (p : P) → R.height p < k → Q p
      below zero p h = absurd (omega arith)
      below (suc k) p h = step p (λ i l. let r = L.falls p i l in below k (R.after p i) (omega arith))

  -- A position of height 0 is ended.
  flat : (p : P) → R.height p ≤ 0 → Ended R p
  flat p h = grind (arith, L.falls p 0)

  -- More height than is needed changes nothing.
  abbrev Reached : P → Type 0
  Reached p = (k : ℕ) → R.height p ≤ k → worth_within R k p ≡ worth_by R (R.moves p) p (worth R)

  reached_after : (p : P) → ((i : ℕ) → Legal R p i → Reached (R.after p i)) → Reached p
  unfolding worth_within worth
  reached_after p h zero e = sym (by_none R (R.moves p) p (worth R) (flat p e))
  reached_after p h (suc k) e =
      by_ext R (R.moves p) p (worth_within R k) (worth R)
      (λ i l. let r = L.falls p i l in h i l k (omega arith) ∙ sym (h i l (R.height (R.after p i)) (omega arith)))

  worth_is : (p : P) → worth R p ≡ worth_by R (R.moves p) p (worth R)
  unfolding worth
  worth_is p = by_height Reached reached_after p (R.height p) (omega arith)

  pub worth_ended : (p : P) → Ended R p → worth R p ≡ R.score p
  worth_ended p e = worth_is p ∙ by_none R (R.moves p) p (worth R) e

  pub worth_most : (p : P) (j : ℕ) → R.counting p ≡ true → Legal R p j → comes_to R p j ≤ worth R p
  worth_most p j e h = omega (arith, (by_bounds R (R.moves p) p (worth R) j h).0 e, worth_is p)

  pub worth_least : (p : P) (j : ℕ) → R.counting p ≡ false → Legal R p j → worth R p ≤ comes_to R p j
  worth_least p j e h = omega (arith, (by_bounds R (R.moves p) p (worth R) j h).1 e, worth_is p)

  pub worth_some : (p : P) → Live R p → (j : ℕ) × Legal R p j × (worth R p ≡ comes_to R p j)
  worth_some p h = let r = by_some R (R.moves p) p (worth R) h in (r.0, r.1, worth_is p ∙ r.2)

  pub worth_rule : Minimax R (worth R)
  worth_rule = record { ended = worth_ended; attained = worth_some; greatest = worth_most; least = worth_least }

  -- Of two functions that follow the rule neither is ever above the other.
  only_under : (v w : P → ℕ) → Minimax R v → Minimax R w → (p : P) → v p ≤ w p
  only_under v w V W =
      by_height (λ p. v p ≤ w p)
      (λ p h. grind (arith, cases_Bool (R.counting p), V.attained p, W.attained p, W.greatest p, V.least p, h, V.ended p, W.ended p))

  pub worth_only : (w : P → ℕ) → Minimax R w → (p : P) → w p ≡ worth R p
  worth_only w W p = omega (arith, only_under w (worth R) W worth_rule p, only_under (worth R) w worth_rule W p)

  pub worth_top : (p : P) → worth R p ≤ R.top p
  worth_top =
      by_height (λ p. worth R p ≤ R.top p)
      (λ p h. grind (arith, worth_some p, h, L.gain_top p, worth_ended p, L.score_top p))

  pub has_move : (p : P) → Live R p → IsMove R p (move R p)
  unfolding move
  has_move p l =
      let some = worth_some p l in
      let r = found some.0 some.1 (sym some.2) in
      record {
        legal = omega (arith, r.1, some.1);
        reaches = eqb-true _ _ r.0;
        first = λ j h e. let q = (found j (omega (arith, r.1, some.1)) e).1 in omega arith;
      }
    where
      reaching : ℕ → Bool
      reaching i = comes_to R p i == worth R p

      found : (i : ℕ) → Legal R p i → comes_to R p i ≡ worth R p → (reaching (first_to reaching (R.moves p)) ≡ true) × (first_to reaching (R.moves p) ≤ i)
      found i h e = first_found reaching (R.moves p) i h (eq-eqb (comes_to R p i) (worth R p) e)

  pub one_move : (p : P) (m : ℕ) → IsMove R p m → m ≡ move R p
  one_move p m i =
      let o = has_move p (omega (arith, i.legal)) in
      grind arith

  pub low_gain : (p : P) (m : ℕ) → Legal R p m → R.gain p m ≤ most_points
  low_gain p m h = omega (arith, L.gain_top p m h, L.low_top p)

  pub low_score : (p : P) → R.score p ≤ most_points
  low_score p = grind (arith, L.no_score p, L.score_top p, L.low_top p)

  pub worth_right : WorthRight R
  worth_right = record { rule = worth_rule; only = worth_only; under_top = worth_top; has_move = has_move; one_move = one_move; low_gain = low_gain; low_score = low_score }
