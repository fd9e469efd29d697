-- The loop over pins, and over one and two, that finds the move of a number.
use Rattle.std.proofs.Common.{◌≡◌, ℕ, zero, suc, ◌+◌, ◌-◌, ◌<◌, ◌≤◌, Bool, true, false, cond, T, ◌⊎◌, List, [], ◌∷◌, length, get_or, drop, Some, None, Option, sym, refl, ap, ◌∙◌, subst, inl, inr, add-one, arith, drop_of_length-le, drop-cons, MatchOption}
use Rattle.std.specs.List.{slice_get}
use Rattle.std.proofs.lemmas.Option.{slice_get-get_or, slice_get_past}
use Rattle.std.proofs.lemmas.Bool.{cases_lt}
use Rattle.kayles.specs.declared.board.Pin.{Pin}
use Rattle.kayles.specs.declared.board.Pin.TheVariants.{Down}
use Rattle.kayles.specs.declared.position.Knock.{Knock}
use Rattle.kayles.specs.Play.{IsKnock, Numbered, Unnumbered, front, knocks, knocks_from, no_knock, offered, taking}
use Rattle.kayles.proofs.Numbering.{knock_up, listed, up_knock}
use Rattle.kayles.specs.Laws.Splitting.{up_after}

-- the moves from pin i on that take n pins or more there
unfoldable pub later : ℕ → ℕ → List Pin → List Knock
later i zero ps = knocks_from i (drop (i - 1) ps)
later i (suc zero) ps = knocks_from i (drop (i - 1) ps)
later i (suc (suc zero)) ps = offered i 2 (drop (i - 1) ps) (knocks_from (i + 1) (drop i ps))
later i (suc (suc (suc n))) ps = knocks_from (i + 1) (drop i ps)

up_drop : (i n : ℕ) (ps : List Pin) → 0 < n → up_after i n ps ≡ front n (drop i ps)
unfolding up_after front
up_drop zero n ps h = refl
up_drop (suc i) zero [] h = absurd (omega arith)
up_drop (suc i) (suc n) [] h = refl
up_drop (suc i) n (p ∷ ps) h = up_drop i n ps h

-- whether a move can be made is what the list of moves looks at
front_knock : (i n : ℕ) (ps : List Pin) → 1 ≤ i → 1 ≤ n → n ≤ 2 → T (front n (drop (i - 1) ps)) → IsKnock ps (taking i n)
front_knock i n ps h a b t =
    subst (λ k. IsKnock ps (taking k n)) (let e : suc (i - 1) ≡ i = omega arith in e) (up_knock ps (i - 1) n a b (subst T (sym (up_drop (i - 1) n ps (omega arith))) t))

knock_front : (i n : ℕ) (ps : List Pin) → 1 ≤ n → IsKnock ps (taking i n) → T (front n (drop (i - 1) ps))
knock_front i n ps a k = subst T (up_drop (i - 1) n ps (omega arith)) (knock_up ps (taking i n) k).1

-- the move here, if it is one, then the later ones
later_step : (i n : ℕ) (ps : List Pin) → 1 ≤ i → i ≤ length ps → 1 ≤ n → n ≤ 2 → later i n ps ≡ offered i n (drop (i - 1) ps) (later i (n + 1) ps)
unfolding later knocks_from
later_step i zero ps l h a b = absurd (omega arith)
later_step i (suc zero) ps l h a b =
    let c : drop (i - 1) ps ≡ get_or ps (i - 1) Down ∷ drop i ps = drop-cons ps (i - 1) Down (omega arith) ∙ ap (λ k. get_or ps (i - 1) Down ∷ drop k ps) (let e : suc (i - 1) ≡ i = omega arith in e) in
    ap (knocks_from i) c ∙ ap (λ k. offered i 1 (get_or ps (i - 1) Down ∷ drop i ps) (offered i 2 (get_or ps (i - 1) Down ∷ drop i ps) (knocks_from k (drop i ps)))) (sym (add-one i))
    ∙ ap (λ qs. offered i 1 qs (offered i 2 qs (knocks_from (i + 1) (drop i ps)))) (sym c)
later_step i (suc (suc zero)) ps l h a b = refl
later_step i (suc (suc (suc n))) ps l h a b = absurd (omega arith)

offered_true : (i n : ℕ) (ps : List Pin) (ks : List Knock) → T (front n ps) → offered i n ps ks ≡ taking i n ∷ ks
unfolding offered
offered_true i n ps ks t = go (front n ps) t
  where
    go : (c : Bool) → T c → cond c (taking i n ∷ ks) ks ≡ taking i n ∷ ks
    go true t = refl
    go false t = absurd t

offered_false : (i n : ℕ) (ps : List Pin) (ks : List Knock) → (T (front n ps) → ⊥) → offered i n ps ks ≡ ks
unfolding offered
offered_false i n ps ks t = go (front n ps) t
  where
    go : (c : Bool) → (T c → ⊥) → cond c (taking i n ∷ ks) ks ≡ ks
    go true t = absurd (t tt)
    go false t = refl

module _ (ps : List Pin) (i n : ℕ) (low : 1 ≤ i) (high : i ≤ length ps) (some : 1 ≤ n) (few : n ≤ 2) where
  later_hit : IsKnock ps (taking i n) → later i n ps ≡ taking i n ∷ later i (n + 1) ps
  later_hit k = later_step i n ps low high some few ∙ offered_true i n (drop (i - 1) ps) (later i (n + 1) ps) (knock_front i n ps some k)

  -- it is no move
  pub nth_miss : (m : ℕ) → (IsKnock ps (taking i n) → ⊥) → slice_get (later i (n + 1) ps) m ≡ slice_get (later i n ps) m
  nth_miss m d = ap (λ ks. slice_get ks m) (sym (later_step i n ps low high some few ∙ offered_false i n (drop (i - 1) ps) (later i (n + 1) ps) (λ t. d (front_knock i n ps low some few t))))

  -- it is the one sought
  pub nth_hit : IsKnock ps (taking i n) → Some (taking i n) ≡ slice_get (later i n ps) 0
  nth_hit k = ap (λ ks. slice_get ks 0) (sym (later_hit k))

  -- it is an earlier one
  pub nth_pass : (m : ℕ) → IsKnock ps (taking i n) → (m ≡ 0 → ⊥) → slice_get (later i (n + 1) ps) (m - 1) ≡ slice_get (later i n ps) m
  nth_pass zero k d = absurd (d refl)
  nth_pass (suc m) k d = ap (slice_get (later i (n + 1) ps)) (let e : suc m - 1 ≡ m = omega arith in e) ∙ ap (λ ks. slice_get ks (suc m)) (sym (later_hit k))

pub later_first : (ps : List Pin) → later 1 1 ps ≡ knocks ps
unfolding later knocks
later_first ps = refl

-- on to the next pin
pub later_next : (i n : ℕ) (ps : List Pin) → 2 < n → n ≤ 3 → later (i + 1) 1 ps ≡ later i n ps
unfolding later
later_next i n ps a b = ap (λ k. knocks_from (i + 1) (drop k ps)) (let e : i + 1 - 1 ≡ i = omega arith in e) ∙ ap (λ k. later i k ps) (let e : 3 ≡ n = omega arith in e)

pub nth_end : (i m : ℕ) (ps : List Pin) → length ps < i → slice_get (later i 1 ps) m ≡ None
unfolding later knocks_from
nth_end i m ps h = ap (λ qs. slice_get (knocks_from i qs) m) (drop_of_length-le ps (let l : length ps ≤ i - 1 = omega arith in l))

-- the move of a number in the list is the move of that number
pub numbered : (ps : List Pin) (m : ℕ) (o : Option Knock) → o ≡ slice_get (knocks ps) m → MatchOption o (Unnumbered ps m) (Numbered ps m)
numbered ps m o e = subst (λ o. MatchOption o (Unnumbered ps m) (Numbered ps m)) (sym e) (go (cases_lt m (length (knocks ps))))
  where
    go : (m < length (knocks ps)) ⊎ (length (knocks ps) ≤ m) → MatchOption (slice_get (knocks ps) m) (Unnumbered ps m) (Numbered ps m)
    go (inl h) = subst (λ o. MatchOption o (Unnumbered ps m) (Numbered ps m)) (sym (slice_get-get_or (knocks ps) m no_knock h)) (knocks ps, listed ps, h, refl)
    go (inr h) = subst (λ o. MatchOption o (Unnumbered ps m) (Numbered ps m)) (sym (slice_get_past (knocks ps) m h)) (knocks ps, listed ps, h)

-- what the list has at a place
pub nth_some : (ks : List Knock) (m : ℕ) (k : Knock) → slice_get ks m ≡ Some k → (m < length ks) × (k ≡ get_or ks m no_knock)
nth_some ks m k e = go (cases_lt m (length ks))
  where
    go : (m < length ks) ⊎ (length ks ≤ m) → (m < length ks) × (k ≡ get_or ks m no_knock)
    go (inl h) = (h, let f = slice_get-get_or ks m no_knock h in cc)
    go (inr h) = let z : ◌≡◌ {A = ℕ} 0 1 = cc (slice_get_past ks m h) in absurd (omega arith)

pub nth_none : (ks : List Knock) (m : ℕ) → slice_get ks m ≡ None → length ks ≤ m
nth_none ks m e = go (cases_lt m (length ks))
  where
    go : (m < length ks) ⊎ (length ks ≤ m) → length ks ≤ m
    go (inl h) = let z : ◌≡◌ {A = ℕ} 0 1 = cc (slice_get-get_or ks m no_knock h) in absurd (omega arith)
    go (inr h) = h
