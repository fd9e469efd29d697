-- The list of the moves on a row, by the pins that they take.
use Rattle.std.specs.Prelude.{◌≡◌, ℕ, zero, suc, ◌+◌, ◌<◌, Bool, true, false, if◌then◌else◌, T, List, [], ◌∷◌, length, slice_index_or}
use Rattle.std.proofs.Common.{ap, ◌∙◌, arith}
use Rattle.kayles.specs.declared.board.Pin.{Pin}
use Rattle.kayles.specs.declared.position.Knock.{Knock}
use Rattle.kayles.specs.Play.{front, knocks_from, no_knock, offered, taking}
use Rattle.kayles.specs.Laws.Splitting.{up_after}

-- k is the move that takes one or two pins after the first j of ps, which begins with pin i
abbrev pub Takes : ℕ → List Pin → Knock → Type 0
Takes i ps k = (j : ℕ) × (c : ℕ) × (c < 2) × (k ≡ taking (i + j) (suc c)) × T (up_after j (suc c) ps)

abbrev pub Has : List Knock → Knock → Type 0
Has ks k = (m : ℕ) × (m < length ks) × (slice_index_or ks m no_knock ≡ k)

-- what holds of an offered move, if it is one, and of all the others holds of each
pub offered_each : (P : Knock → Type 0) (i n : ℕ) (ps : List Pin) (ks : List Knock) → (T (front n ps) → P (taking i n)) → ((m : ℕ) → m < length ks → P (slice_index_or ks m no_knock)) → (m : ℕ) → m < length (offered i n ps ks) → P (slice_index_or (offered i n ps ks) m no_knock)
unfolding offered
offered_each P i n ps ks h g = go (front n ps) h
  where
    go : (c : Bool) → (T c → P (taking i n)) → (m : ℕ) → m < length (if c then taking i n ∷ ks else ks) → P (slice_index_or (if c then taking i n ∷ ks else ks) m no_knock)
    go true h zero l = h tt
    go true h (suc m) l = g m (omega arith)
    go false h m l = g m l

offered_here : (i n k : ℕ) (ps : List Pin) (ks : List Knock) → i ≡ k → T (front n ps) → Has (offered i n ps ks) (taking k n)
unfolding offered
offered_here i n k ps ks e t = go (front n ps) t
  where
    go : (c : Bool) → T c → Has (if c then taking i n ∷ ks else ks) (taking k n)
    go true t = (0, omega arith, ap (λ k. taking k n) e)
    go false t = absurd t

offered_keeps : (i n : ℕ) (ps : List Pin) (ks : List Knock) (k : Knock) → Has ks k → Has (offered i n ps ks) k
unfolding offered
offered_keeps i n ps ks k h = go (front n ps)
  where
    go : (c : Bool) → Has (if c then taking i n ∷ ks else ks) k
    go true = (suc h.0, omega (arith, h.1), h.2)
    go false = h

pub takes : (i : ℕ) (ps : List Pin) (m : ℕ) → m < length (knocks_from i ps) → Takes i ps (slice_index_or (knocks_from i ps) m no_knock)
unfolding knocks_from up_after
takes i [] m h = absurd (omega arith)
takes i (p ∷ ps) m h =
    offered_each (Takes i (p ∷ ps)) i 1 (p ∷ ps) _ (λ t. (0, 0, omega arith, ap (λ k. taking k 1) (omega arith), t))
    (offered_each (Takes i (p ∷ ps)) i 2 (p ∷ ps) _ (λ t. (0, 1, omega arith, ap (λ k. taking k 2) (omega arith), t))
    (λ m h. let s = takes (suc i) ps m h in (suc s.0, s.1, s.2, s.3 ∙ ap (λ k. taking k (suc s.1)) (omega arith), s.4)))
    m h

pub taken : (i j c k : ℕ) (ps : List Pin) → c < 2 → i + j ≡ k → T (up_after j (suc c) ps) → Has (knocks_from i ps) (taking k (suc c))
unfolding knocks_from up_after front
taken i zero c k [] h e t = absurd t
taken i (suc j) c k [] h e t = absurd t
taken i zero zero k (p ∷ ps) h e t = offered_here i 1 k (p ∷ ps) _ (omega arith) t
taken i zero (suc zero) k (p ∷ ps) h e t = offered_keeps i 1 (p ∷ ps) _ _ (offered_here i 2 k (p ∷ ps) _ (omega arith) t)
taken i zero (suc (suc c)) k (p ∷ ps) h e t = absurd (omega arith)
taken i (suc j) c k (p ∷ ps) h e t = offered_keeps i 1 (p ∷ ps) _ _ (offered_keeps i 2 (p ∷ ps) _ _ (taken (suc i) j c k ps h (omega arith) t))
