-- The list of the moves on a row: only moves, in order, and all of them; and the row that a move leaves.
use Rattle.std.specs.Prelude.{◌≡◌, ℕ, zero, suc, ◌+◌, ◌-◌, ◌<◌, ◌≤◌, Bool, true, false, cond, T, List, [], ◌∷◌, length, slice_index_or, refl}
use Rattle.std.proofs.Common.{sym, ap, ◌∙◌, subst, inl, inr, arith}
use Rattle.std.proofs.lemmas.Bool.{cases_lt}
use Rattle.kayles.specs.declared.board.Pin.{Pin}
use Rattle.kayles.specs.declared.board.Pin.TheVariants.{Standing, Down}
use Rattle.kayles.specs.declared.position.Knock.{Knock}
use Rattle.kayles.specs.Play.{Earlier, Hits, IsKnock, KnocksOf, Leaves, fallen, fallen_after, front, knocks, knocks_from, left_by, length-left, no_knock, offered, taking}
use Rattle.kayles.specs.Rows.{Stands}
use Rattle.kayles.proofs.Masks.{down_up}
use Rattle.kayles.specs.Laws.Moves.{Has, offered_each, taken, takes}
use Rattle.kayles.specs.Laws.Splitting.{up_after}
use Rattle.kayles.proofs.Stretches.{no_pin_0}

-- ---- pins that stand one after the other

front_at : (n j : ℕ) (ps : List Pin) → T (front n ps) → j < n → slice_index_or ps j Down ≡ Standing
unfolding front
front_at zero j ps t h = absurd (omega arith)
front_at (suc n) j [] t h = absurd t
front_at (suc n) j (Down ∷ ps) t h = absurd t
front_at (suc n) zero (Standing ∷ ps) t h = refl
front_at (suc n) (suc j) (Standing ∷ ps) t h = front_at n j ps t (omega arith)

at_front : (n : ℕ) (ps : List Pin) → ((j : ℕ) → j < n → slice_index_or ps j Down ≡ Standing) → T (front n ps)
unfolding front
at_front zero ps h = tt
at_front (suc n) [] h = absurd (down_up (h 0 (omega arith)))
at_front (suc n) (Standing ∷ ps) h = at_front n ps (λ j l. h (suc j) (omega arith))
at_front (suc n) (Down ∷ ps) h = absurd (down_up (h 0 (omega arith)))

up_at : (i n j : ℕ) (ps : List Pin) → T (up_after i n ps) → i ≤ j → j < i + n → slice_index_or ps j Down ≡ Standing
unfolding up_after
up_at zero n j ps t a b = front_at n j ps t (omega arith)
up_at (suc i) n j [] t a b = absurd t
up_at (suc i) n zero (p ∷ ps) t a b = absurd (omega arith)
up_at (suc i) n (suc j) (p ∷ ps) t a b = up_at i n j ps t (omega arith) (omega arith)

at_up : (i n : ℕ) (ps : List Pin) → 0 < n → ((j : ℕ) → i ≤ j → j < i + n → slice_index_or ps j Down ≡ Standing) → T (up_after i n ps)
unfolding up_after
at_up zero n ps l h = at_front n ps (λ j k. h j (omega arith) (omega arith))
at_up (suc i) n [] l h = absurd (down_up (h (suc i) (omega arith) (omega arith)))
at_up (suc i) n (p ∷ ps) l h = at_up i n ps l (λ j a b. h (suc j) (omega arith) (omega arith))

-- the same with pins counted from 1
pub up_stands : (i n : ℕ) (ps : List Pin) → T (up_after i n ps) → (k : ℕ) → suc i ≤ k → k < suc i + n → Stands ps k
up_stands i n ps t zero a b = absurd (omega arith)
up_stands i n ps t (suc j) a b = up_at i n j ps t (omega arith) (omega arith)

-- a move takes pins that stand
pub knock_up : (ps : List Pin) (k : Knock) → IsKnock ps k → (0 < k.pin) × T (up_after (k.pin - 1) k.pins ps)
knock_up ps k i = go k.pin refl
  where
    go : (n : ℕ) → k.pin ≡ n → (0 < k.pin) × T (up_after (k.pin - 1) k.pins ps)
    go zero e = absurd (no_pin_0 ps (i.stand 0 (omega arith, omega (arith, i.some))))
    go (suc n) e = (omega arith, at_up (k.pin - 1) k.pins ps (omega (arith, i.some)) (λ j a b. i.stand (suc j) (omega arith, omega arith)))

-- and taking one or two of them is a move
pub up_knock : (ps : List Pin) (i n : ℕ) → 1 ≤ n → n ≤ 2 → T (up_after i n ps) → IsKnock ps (taking (suc i) n)
up_knock ps i n a b t = record { some = a; few = b; stand = λ k h. up_stands i n ps t k h.0 h.1 }

-- ---- the list

abbrev Sorted : List Knock → Type 0
Sorted ks = (j m : ℕ) → j < m → m < length ks → Earlier (slice_index_or ks j no_knock) (slice_index_or ks m no_knock)

offered_sorted : (i n : ℕ) (ps : List Pin) (ks : List Knock) → ((m : ℕ) → m < length ks → Earlier (taking i n) (slice_index_or ks m no_knock)) → Sorted ks → Sorted (offered i n ps ks)
unfolding offered
offered_sorted i n ps ks h s = go (front n ps)
  where
    go : (c : Bool) → Sorted (cond c (taking i n ∷ ks) ks)
    go true zero zero a b = absurd (omega arith)
    go true zero (suc m) a b = h m (omega arith)
    go true (suc j) zero a b = absurd (omega arith)
    go true (suc j) (suc m) a b = s j m (omega arith) (omega arith)
    go false j m a b = s j m a b

-- the moves behind pin i come later than those that begin with it
later : (i n : ℕ) (ps : List Pin) (m : ℕ) → m < length (knocks_from (suc i) ps) → Earlier (taking i n) (slice_index_or (knocks_from (suc i) ps) m no_knock)
later i n ps m h = let s = takes (suc i) ps m h in inl (omega (arith, ap (λ k. k.pin) s.3))

sorted : (i : ℕ) (ps : List Pin) → Sorted (knocks_from i ps)
unfolding knocks_from
sorted i [] = λ j m a b. absurd (omega arith)
sorted i (p ∷ ps) =
    offered_sorted i 1 (p ∷ ps) _
    (offered_each (Earlier (taking i 1)) i 2 (p ∷ ps) _ (λ t. inr (refl, omega arith)) (later i 1 ps))
    (offered_sorted i 2 (p ∷ ps) _ (later i 2 ps) (sorted (suc i) ps))

pub listed : (ps : List Pin) → KnocksOf ps (knocks ps)
unfolding knocks
listed ps = record {
  each = λ m h.
      let s = takes 1 ps m h in
      subst (IsKnock ps) (sym (s.3 ∙ ap (λ k. taking k (suc s.1)) (omega arith))) (up_knock ps s.0 (suc s.1) (omega arith) (omega (arith, s.2)) s.4);
  order = sorted 1 ps;
  all = λ k i.
      let u = knock_up ps k i in
      let n : suc (k.pins - 1) ≡ k.pins = omega (arith, i.some) in
      let up = subst (λ c. T (up_after (k.pin - 1) c ps)) (sym n) u.1 in
      subst (λ n. Has (knocks_from 1 ps) (taking k.pin n)) n (taken 1 (k.pin - 1) (k.pins - 1) k.pin ps (omega (arith, i.few)) (omega (arith, u.0)) up);
}

-- ---- the row that a move leaves

fallen_at : (n j : ℕ) (ps : List Pin) → j < n → slice_index_or (fallen n ps) j Down ≡ Down
unfolding fallen
fallen_at zero j ps h = absurd (omega arith)
fallen_at (suc n) j [] h = refl
fallen_at (suc n) zero (p ∷ ps) h = refl
fallen_at (suc n) (suc j) (p ∷ ps) h = fallen_at n j ps (omega arith)

fallen_past : (n j : ℕ) (ps : List Pin) → n ≤ j → slice_index_or (fallen n ps) j Down ≡ slice_index_or ps j Down
unfolding fallen
fallen_past zero j ps h = refl
fallen_past (suc n) j [] h = refl
fallen_past (suc n) zero (p ∷ ps) h = absurd (omega arith)
fallen_past (suc n) (suc j) (p ∷ ps) h = fallen_past n j ps (omega arith)

after_at : (i n j : ℕ) (ps : List Pin) → i ≤ j → j < i + n → slice_index_or (fallen_after i n ps) j Down ≡ Down
unfolding fallen_after
after_at zero n j ps a b = fallen_at n j ps (omega arith)
after_at (suc i) n j [] a b = refl
after_at (suc i) n zero (p ∷ ps) a b = absurd (omega arith)
after_at (suc i) n (suc j) (p ∷ ps) a b = after_at i n j ps (omega arith) (omega arith)

after_else : (i n j : ℕ) (ps : List Pin) → (i ≤ j → i + n ≤ j) → slice_index_or (fallen_after i n ps) j Down ≡ slice_index_or ps j Down
unfolding fallen_after
after_else zero n j ps d = fallen_past n j ps (omega (arith, d (omega arith)))
after_else (suc i) n j [] d = refl
after_else (suc i) n zero (p ∷ ps) d = refl
after_else (suc i) n (suc j) (p ∷ ps) d = after_else i n j ps (λ l. omega (arith, d (omega arith)))

pub leaves : (ps : List Pin) (k : Knock) → 0 < k.pin → Leaves ps k (left_by k ps)
unfolding left_by
leaves ps k h = record { pins = length-left k ps; hit = hit; others = others }
  where
    hit : (i : ℕ) → Hits k i → Stands (fallen_after (k.pin - 1) k.pins ps) i → ⊥
    hit zero a s = down_up s
    hit (suc j) a s = down_up (sym (after_at (k.pin - 1) k.pins j ps (omega (arith, a.0)) (omega (arith, a.1))) ∙ s)

    others : (i : ℕ) → (Hits k i → ⊥) → slice_index_or (Down ∷ fallen_after (k.pin - 1) k.pins ps) i Down ≡ slice_index_or (Down ∷ ps) i Down
    others zero a = refl
    others (suc j) a = after_else (k.pin - 1) k.pins j ps (λ l. elim (cases_lt j (k.pin - 1 + k.pins)) [ inl b ↦ absurd (a (omega arith, omega arith)) | inr b ↦ b ])
