-- Sets that are told by a key: each position has one, and a set holds the positions that have it.
use Rattle.std.specs.Prelude.{◌≡◌, ℕ, zero, suc, ◌≤◌, refl}
use Rattle.std.proofs.Common.{◌∙◌, sym, subst, arith}
use Rattle.search.specs.Games.{Ended, Legal, Rules, most_points}
use Rattle.search.specs.Sets.{In, SetLaws, Sets, cover_to}

-- The sets are those of the key, whatever a move or another set says; and positions with one key are alike in all that a
-- set law asks of a member.
pub record ByKey {P S : Type 0} (R : Rules P) (Z : Sets P S) (key : P → S) : Type 0 where
  pub own : (p : P) → In Z (key p) p
  pub is_key : (s : S) (p : P) → In Z s p → s ≡ key p
  pub broad : (p : P) → Z.broad p ≡ key p
  pub pull : (p : P) (m : ℕ) (t : S) → Z.pull p m t ≡ key p
  pub narrow : (p : P) (s t : S) → Z.narrow p s t ≡ key p
  pub low_weight : (s : S) → Z.weight s ≤ most_points
  pub side : (p q : P) → key p ≡ key q → R.counting q ≡ R.counting p
  pub top : (p q : P) → key p ≡ key q → R.top q ≡ R.top p
  pub score : (p q : P) → key p ≡ key q → Ended R p → Ended R q → R.score q ≡ R.score p
  -- each move of the one has a move of the other with its gain, after which they have one key again
  pub follow : (p q : P) → key p ≡ key q → (m : ℕ) → Legal R p m → (n : ℕ) × Legal R q n × (R.gain q n ≡ R.gain p m) × (key (R.after p m) ≡ key (R.after q n))

module _ {P S : Type 0} {R : Rules P} {Z : Sets P S} {key : P → S} (k : ByKey R Z key) where
  -- a member of p's set has p's key, and what holds a position holds all with its key
  pub alike : (p q : P) → In Z (key p) q → key p ≡ key q
  alike p q i = k.is_key (key p) q i

  pub shared : (s : S) (p q : P) → key p ≡ key q → In Z s p → In Z s q
  shared s p q e i = subst (λ t. In Z t q) (sym (k.is_key s p i ∙ e)) (k.own q)

  ended : (p q : P) → key p ≡ key q → Ended R p → Ended R q
  ended p q e h = go (R.moves q) refl
    where
      go : (n : ℕ) → R.moves q ≡ n → Ended R q
      go zero d = d
      go (suc n) d = let f = k.follow q p (sym e) 0 (omega arith) in absurd (omega (arith, f.1))

  cover_is : (p : P) (T : ℕ → S) (n : ℕ) → cover_to R Z p T n ≡ key p
  cover_is p T zero = k.broad p
  cover_is p T (suc zero) = k.pull p 0 (T 0)
  cover_is p T (suc (suc n)) = k.narrow p _ _

  pub laws_by_key : SetLaws R Z
  laws_by_key = record {
    broad_own = λ p. subst (λ s. In Z s p) (sym (k.broad p)) (k.own p);
    broad_top = λ p q i. k.top p q (alike p q (subst (λ s. In Z s q) (k.broad p) i));
    broad_end = λ p q i e. let a = alike p q (subst (λ s. In Z s q) (k.broad p) i) in let d = ended p q a e in (d, k.score p q a e d);
    pull_own = λ p m t h i. subst (λ s. In Z s p) (sym (k.pull p m t)) (k.own p);
    pull_all = λ p m t h i q j.
        let a = alike p q (subst (λ s. In Z s q) (k.pull p m t) j) in
        let f = k.follow p q a m h in
        (k.side p q a, (f.0, f.1, (f.2, shared t (R.after p m) (R.after q f.0) f.3 i)));
    narrow_own = λ p s t i j. subst (λ u. In Z u p) (sym (k.narrow p s t)) (k.own p);
    narrow_all = λ p s t i j q h.
        let a = alike p q (subst (λ u. In Z u q) (k.narrow p s t) h) in
        (shared s p q a i, shared t p q a j);
    cover_all = λ p T live own_all q h.
        let a = alike p q (subst (λ s. In Z s q) (cover_is p T (R.moves p)) h) in
        let z = k.follow p q a 0 live in (
          k.side p q a,
          omega (arith, z.1),
          λ j l.
              let f = k.follow q p (sym a) j l in
              (f.0, f.1, (sym f.2, shared (T f.0) (R.after p f.0) (R.after q j) (sym f.3) (own_all f.0 f.1))),
        );
    low_weight = k.low_weight;
  }
