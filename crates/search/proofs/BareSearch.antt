-- The bare search keeps the rules of a visit and answers by minimax.
use Rattle.std.proofs.Common.{◌≡◌, ℕ, zero, suc, ◌+◌, ◌<◌, ◌≤◌, Bool, not, ◌⊎◌, Some, None, Option, refl, ap, ap₂, sym, ◌∙◌, inl, inr, arith, below_none, below_more}
use Rattle.std.proofs.Math.Bool.{not-not}
use Rattle.search.specs.Bare.{Count, bare, bare_moves, bare_visits, bare_within, first_or_later, with_visit}
use Rattle.search.specs.Games.{GameLaws, Legal, Live, Rules}
use Rattle.search.specs.Minimax.{Says, worth}
use Rattle.search.specs.Sets.{SetLaws, Sets}
use Rattle.search.specs.Visits.{rest_of, settled}
use Rattle.search.proofs.Soundness.{move_says, moves_say, settled_says, unsettled}
use Rattle.search.proofs.Worth.{by_height}

-- Only one answer is right.
pub says_one : (a c : Bool) (b w : ℕ) → Says a b w → Says c b w → a ≡ c
says_one a c b w h k = grind arith

-- An answer is one that is wanted or the other.
pub same_or_not : (a c : Bool) → (a ≡ c) ⊎ (a ≡ not c)
same_or_not a c = grind arith

-- The first answer counts where it is as the side wants, and else the moves behind it are tried.
first_counts : (c : Bool) (r later : Count) → r.0 ≡ c → first_or_later c r later ≡ (c, r.1)
first_counts c r later e = grind arith

later_counts : (c : Bool) (r later : Count) → r.0 ≡ not c → first_or_later c r later ≡ (later.0, r.1 + later.1)
later_counts c r later e = grind arith

-- A visit counts itself.
visit_counts : (o : Option Bool) (moves : Count) → 1 ≤ (with_visit o moves).1
visit_counts o moves = grind arith

module _ {P : Type 0} (R : Rules P) (L : GameLaws R) where
  moves_ext : (f g : P → ℕ → Count) (p : P) (b l i : ℕ) → i + l ≡ R.moves p → ((j : ℕ) (c : ℕ) → Legal R p j → f (R.after p j) c ≡ g (R.after p j) c) → bare_moves R f p b l i ≡ bare_moves R g p b l i
  unfolding bare_moves
  moves_ext f g p b zero i e h = refl
  moves_ext f g p b (suc l) i e h = ap₂ (first_or_later (R.counting p)) (h i _ (omega arith)) (moves_ext f g p b l (suc i) (omega arith) h)

  -- More height than is needed changes nothing.
  abbrev Reached : P → Type 0
  Reached p = (b k : ℕ) → R.height p < k → bare_within R k p b ≡ with_visit (settled R p b) (bare_moves R (bare R) p b (R.moves p) 0)

  reached_after : (p : P) → ((i : ℕ) → Legal R p i → Reached (R.after p i)) → Reached p
  unfolding bare bare_within
  reached_after p h b zero e = absurd (omega arith)
  reached_after p h b (suc k) e =
      ap (with_visit (settled R p b))
      (moves_ext (bare_within R k) (bare R) p b (R.moves p) 0 (omega arith)
      (λ i c l. let r = L.falls p i l in h i l c k (omega arith) ∙ sym (h i l c (suc (R.height (R.after p i))) (omega arith))))

  bare_is : (p : P) (b : ℕ) → bare R p b ≡ with_visit (settled R p b) (bare_moves R (bare R) p b (R.moves p) 0)
  unfolding bare
  bare_is p b = by_height R L Reached reached_after p b (suc (R.height p)) (omega arith)

  -- The visits that the bare search makes from move i on, with l moves left.
  pub left : P → ℕ → ℕ → ℕ → ℕ
  left p b l i = (bare_moves R (bare R) p b l i).1

  pub left_none : (p : P) (b i : ℕ) → left p b 0 i ≡ 0
  unfolding left bare_moves
  left_none p b i = refl

  pub bare_settled : (p : P) (b : ℕ) (a : Bool) → settled R p b ≡ Some a → bare_visits R p b ≡ 1
  bare_settled p b a e = rw (bare_is p b, bare_visits, e)

  pub bare_open : (p : P) (b : ℕ) → settled R p b ≡ None → bare_visits R p b ≡ suc (left p b (R.moves p) 0)
  unfolding left
  bare_open p b e = rw (bare_is p b, bare_visits, e)

  pub bare_some : (p : P) (b : ℕ) → 1 ≤ bare_visits R p b
  bare_some p b = rw (bare_is p b, bare_visits) (visit_counts (settled R p b) _)

  module _ {S : Type 0} (Z : Sets P S) (K : SetLaws R Z) where
    bare_moves_say : (p : P) (b l i : ℕ) → 0 < b → Live R p → i + l ≡ R.moves p → ((j : ℕ) → Legal R p j → (c : ℕ) → Says (bare R (R.after p j) c).0 c (worth R (R.after p j))) → ((j : ℕ) → j < i → Says (not (R.counting p)) (rest_of R p b j) (worth R (R.after p j))) → Says (bare_moves R (bare R) p b l i).0 b (worth R p)
    unfolding bare_moves
    bare_moves_say p b zero i hb hl e h t = moves_say R Z L K (not (R.counting p)) p b hl (λ j k. t j (omega arith)) (sym (not-not (R.counting p)))
    bare_moves_say p b (suc l) i hb hl e h t =
        let r = bare R (R.after p i) (rest_of R p b i) in
        let later = bare_moves R (bare R) p b l (suc i) in
        let s = h i (omega arith) (rest_of R p b i) in
        elim (same_or_not r.0 (R.counting p)) [
          | inl d ↦ rw (first_counts (R.counting p) r later d) (move_says R Z L K (R.counting p) p i b refl (omega arith) hb (rw d at s))
          | inr d ↦ rw (later_counts (R.counting p) r later d) (bare_moves_say p b l (suc i) hb hl (omega arith) h
              (λ j k. below_more (λ j. Says (not (R.counting p)) (rest_of R p b j) (worth R (R.after p j))) i t (rw d at s) j (omega arith)))
        ]

    with_visit_says : (o : Option Bool) (r : Count) (p : P) (b : ℕ) → settled R p b ≡ o → (settled R p b ≡ None → Says r.0 b (worth R p)) → Says (with_visit o r).0 b (worth R p)
    with_visit_says (Some a) r p b e f = settled_says R Z L K p b a e p (K.broad_own p)
    with_visit_says None r p b e f = f e

    -- The bare search answers by minimax.
    pub bare_says : (p : P) (b : ℕ) → Says (bare R p b).0 b (worth R p)
    bare_says =
        by_height R L (λ p. (b : ℕ) → Says (bare R p b).0 b (worth R p))
        (λ p h b. rw (bare_is p b) (with_visit_says (settled R p b) (bare_moves R (bare R) p b (R.moves p) 0) p b refl
        (λ e. let u = unsettled R p b e in bare_moves_say p b (R.moves p) 0 u.asks u.live (omega arith) h (below_none _))))

    -- After a move that settles the visit, the moves behind it are left alone.
    pub left_stops : (p : P) (b l i : ℕ) → Says (R.counting p) (rest_of R p b i) (worth R (R.after p i)) → left p b (suc l) i ≡ bare_visits R (R.after p i) (rest_of R p b i)
    unfolding left bare_moves
    left_stops p b l i s = ap (λ k. k.1) (first_counts _ _ (bare_moves R (bare R) p b l (suc i)) (says_one _ _ _ _ (bare_says (R.after p i) (rest_of R p b i)) s))

    pub left_goes_on : (p : P) (b l i : ℕ) → Says (not (R.counting p)) (rest_of R p b i) (worth R (R.after p i)) → left p b (suc l) i ≡ bare_visits R (R.after p i) (rest_of R p b i) + left p b l (suc i)
    unfolding left bare_moves
    left_goes_on p b l i s = ap (λ k. k.1) (later_counts _ _ (bare_moves R (bare R) p b l (suc i)) (says_one _ _ _ _ (bare_says (R.after p i) (rest_of R p b i)) s))
