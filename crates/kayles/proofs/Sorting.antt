-- There is one list of given elements in a strict order: of the runs of a row, and of its moves.
use Rattle.std.proofs.Common.{◌≡◌, ℕ, zero, suc, ◌<◌, List, [], ◌∷◌, length, get_or, sym, refl, ◌∙◌, subst, ap₂, inl, inr, arith}
use Rattle.kayles.specs.declared.board.Pin.{Pin}
use Rattle.kayles.specs.declared.position.Knock.{Knock}
use Rattle.kayles.specs.declared.runs.Run.{Run}
use Rattle.kayles.specs.Lists.{ListOf}
use Rattle.kayles.specs.Play.{Earlier, IsKnock, KnocksOf, no_knock}
use Rattle.kayles.specs.Runs.{IsRun, RunsOf, no_run}

-- over elements of any kind, read as d past a list's end, and an order in which no two stand both ways round
module _ {A : Type 0} (d : A) (Before : A → A → Type 0) (one_way : (a b : A) → Before a b → Before b a → ⊥) where
  abbrev Sorted : List A → Type 0
  Sorted xs = (j k : ℕ) → j < k → k < length xs → Before (get_or xs j d) (get_or xs k d)

  abbrev Has : List A → A → Type 0
  Has xs a = (k : ℕ) × (k < length xs) × (get_or xs k d ≡ a)

  abbrev Within : List A → List A → Type 0
  Within xs ys = (k : ℕ) → k < length xs → Has ys (get_or xs k d)

  sorted_tail : (x : A) (xs : List A) → Sorted (x ∷ xs) → Sorted xs
  sorted_tail x xs s j k h l = s (suc j) (suc k) (omega arith) (omega arith)

  same_head : (x y : A) (xs ys : List A) → Sorted (x ∷ xs) → Sorted (y ∷ ys) → Has (y ∷ ys) x → Has (x ∷ xs) y → x ≡ y
  same_head x y xs ys s t (zero, l, e) h = sym e
  same_head x y xs ys s t (suc j, l, e) (zero, m, f) = f
  same_head x y xs ys s t (suc j, l, e) (suc i, m, f) =
      absurd (one_way x y (subst (Before x) f (s 0 (suc i) (omega arith) m)) (subst (Before y) e (t 0 (suc j) (omega arith) l)))

  within_tail : (x y : A) (xs ys : List A) → x ≡ y → Sorted (x ∷ xs) → Within (x ∷ xs) (y ∷ ys) → Within xs ys
  within_tail x y xs ys e s w k l = go (w (suc k) (omega arith))
    where
      go : Has (y ∷ ys) (get_or xs k d) → Has ys (get_or xs k d)
      go (zero, m, f) =
          let b : Before x (get_or xs k d) = s 0 (suc k) (omega arith) (omega arith) in
          absurd (one_way x x (subst (Before x) (sym (e ∙ f)) b) (subst (Before x) (sym (e ∙ f)) b))
      go (suc j, m, f) = (j, omega arith, f)

  pub same_sorted : (xs ys : List A) → Sorted xs → Sorted ys → Within xs ys → Within ys xs → xs ≡ ys
  same_sorted [] [] s t w v = refl
  same_sorted [] (y ∷ ys) s t w v = absurd (let h = v 0 (omega arith) in omega (arith, h.1))
  same_sorted (x ∷ xs) [] s t w v = absurd (let h = w 0 (omega arith) in omega (arith, h.1))
  same_sorted (x ∷ xs) (y ∷ ys) s t w v =
      let e = same_head x y xs ys s t (w 0 (omega arith)) (v 0 (omega arith)) in
      ap₂ ◌∷◌ e (same_sorted xs ys (sorted_tail x xs s) (sorted_tail y ys t) (within_tail x y xs ys e s w) (within_tail y x ys xs (sym e) t v))

  pub one_list : (Is : A → Type 0) (xs ys : List A) → ListOf Is Before d xs → ListOf Is Before d ys → xs ≡ ys
  one_list Is xs ys a b =
      same_sorted xs ys a.order b.order (λ k l. b.all (get_or xs k d) (a.each k l)) (λ k l. a.all (get_or ys k d) (b.each k l))

pub same_runs : (ps : List Pin) (rs qs : List Run) → RunsOf ps rs → RunsOf ps qs → rs ≡ qs
same_runs ps rs qs a b = one_list no_run (λ r q. r.first < q.first) (λ r q h k. omega arith) (IsRun ps) rs qs a b

one_way_round : (j k : Knock) → Earlier j k → Earlier k j → ⊥
one_way_round j k (inl a) (inl b) = omega arith
one_way_round j k (inl a) (inr b) = omega (arith, b.0)
one_way_round j k (inr a) (inl b) = omega (arith, a.0)
one_way_round j k (inr a) (inr b) = omega (arith, a.1, b.1)

pub same_knocks : (ps : List Pin) (js ks : List Knock) → KnocksOf ps js → KnocksOf ps ks → js ≡ ks
same_knocks ps js ks a b = one_list no_knock Earlier one_way_round (IsKnock ps) js ks a b
