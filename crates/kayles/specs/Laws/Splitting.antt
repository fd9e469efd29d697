-- A move splits a run in two, and rows with as many runs of each length can be split alike.
use Rattle.std.specs.Prelude.{◌≡◌, ℕ, zero, suc, ◌+◌, ◌-◌, ◌*◌, ◌<◌, ◌≤◌, Bool, false, if◌then◌else◌, T, ◌≢◌, ◌⊎◌, List, [], ◌∷◌, length, ◌==◌}
use Rattle.std.proofs.Common.{inl, inr, add-mul, arith}
use Rattle.std.proofs.lemmas.Bool.{cases_eq}
use Rattle.std.proofs.lemmas.Bool.Decides.{nat_tests}
use Rattle.kayles.specs.declared.board.Pin.{Pin}
use Rattle.kayles.specs.declared.board.Pin.TheVariants.{Standing, Down}
use Rattle.kayles.specs.Play.{fallen, fallen_after, front}
use Rattle.kayles.specs.Rows.{upright}

-- 1 where x is y, else 0
unfoldable pub one : ℕ → ℕ → ℕ
one x y = if y == x then 1 else 0

-- how many runs of x pins there are, where r pins stand just before
unfoldable pub counted : ℕ → ℕ → List Pin → ℕ
counted x r [] = one x r
counted x r (Standing ∷ ps) = counted x (suc r) ps
counted x r (Down ∷ ps) = one x r + counted x 0 ps

-- how many stand before the first that is down
unfoldable pub lead : List Pin → ℕ
lead [] = 0
lead (Standing ∷ ps) = suc (lead ps)
lead (Down ∷ ps) = 0

-- the n pins after the first i stand
unfoldable pub up_after : ℕ → ℕ → List Pin → Bool
up_after zero n ps = front n ps
up_after (suc i) n [] = false
up_after (suc i) n (p ∷ ps) = up_after i n ps

-- as many runs of each length
abbrev pub Same : List Pin → List Pin → Type 0
Same ps qs = (x : ℕ) → 0 < x → counted x 0 ps ≡ counted x 0 qs

pub one_self : (x : ℕ) → one x x ≡ 1
unfolding one
one_self x = grind (arith, nat_tests)

pub one_off : (x y : ℕ) → x ≢ y → one x y ≡ 0
unfolding one
one_off x y h = grind (arith, nat_tests)

-- the first run is longer by r where r pins stand before it
lead_run : (x r : ℕ) (ps : List Pin) → counted x r ps + one x (lead ps) ≡ counted x 0 ps + one x (r + lead ps)
unfolding counted lead
lead_run x r [] = grind arith
lead_run x r (Standing ∷ ps) = grind (arith, lead_run x (suc r) ps, lead_run x 1 ps)
lead_run x r (Down ∷ ps) = grind arith

front_lead : (n : ℕ) (ps : List Pin) → T (front n ps) → n ≤ lead ps
unfolding front lead
front_lead zero ps t = omega arith
front_lead (suc n) [] t = absurd t
front_lead (suc n) (Standing ∷ ps) t = omega (arith, front_lead n ps t)
front_lead (suc n) (Down ∷ ps) t = absurd t

lead_front : (n : ℕ) (ps : List Pin) → n ≤ lead ps → T (front n ps)
unfolding front lead
lead_front zero ps h = tt
lead_front (suc n) [] h = absurd (omega arith)
lead_front (suc n) (Standing ∷ ps) h = lead_front n ps (omega arith)
lead_front (suc n) (Down ∷ ps) h = absurd (omega arith)

-- the first pins of a run are taken: r before and b behind are left of it
fallen_runs : (n x r b : ℕ) (ps : List Pin) → 0 < x → lead ps ≡ suc n + b → counted x r (fallen (suc n) ps) + one x (r + suc n + b) ≡ counted x r ps + one x r + one x b
unfolding counted lead fallen
fallen_runs n x r b [] h e = absurd (omega arith)
fallen_runs n x r b (Down ∷ ps) h e = absurd (omega arith)
fallen_runs zero x r b (Standing ∷ ps) h e = grind (arith, lead_run x (suc r) ps)
fallen_runs (suc n) x r b (Standing ∷ ps) h e = grind (arith, fallen_runs n x 0 b ps h, lead_run x (suc r) ps, one_off x 0)

-- ps becomes qs by taking n pins out of a run, which leaves a and b of it
abbrev Splits : ℕ → ℕ → ℕ → ℕ → List Pin → List Pin → Type 0
Splits r a n b ps qs = (x : ℕ) → 0 < x → counted x r qs + one x (a + n + b) ≡ counted x r ps + one x a + one x b

-- each move splits some run
split : (i n r : ℕ) (ps : List Pin) → T (up_after i (suc n) ps) → (a : ℕ) × (b : ℕ) × Splits r a (suc n) b ps (fallen_after i (suc n) ps)
unfolding counted up_after fallen_after
split zero n r ps t = (r, lead ps - suc n, λ x h. fallen_runs n x r (lead ps - suc n) ps h (omega (arith, front_lead (suc n) ps t)))
split (suc i) n r [] t = absurd t
split (suc i) n r (Standing ∷ ps) t = split i n (suc r) ps t
split (suc i) n r (Down ∷ ps) t = let s = split i n 0 ps t in (s.0, s.1, λ x h. omega (arith, s.2 x h))

here_or_on : (r a l n : ℕ) → (l ≡ r + suc n → r ≤ a) → ((r ≡ a) × (l ≡ r + suc n)) ⊎ (l ≡ suc r + n → suc r ≤ a)
here_or_on r a l n d =
    elim (cases_eq r a) [
      | inl e ↦ elim (cases_eq l (r + suc n)) [ inl f ↦ inl (e, f) | inr f ↦ inr (λ g. omega arith) ]
      | inr e ↦ inr (λ g. omega arith)
    ]

-- the other way round: where there is a run of that length, some move splits one so
find : (n r a b : ℕ) (ps : List Pin) → 0 < counted (a + suc n + b) r ps → (a + suc n + b ≡ r + lead ps → r ≤ a) → (i : ℕ) × T (up_after i (suc n) ps) × Splits r a (suc n) b ps (fallen_after i (suc n) ps)
unfolding counted lead up_after fallen_after
find n r a b [] h d = absurd (omega (arith, one_off (a + suc n + b) r (λ e. omega (arith, d (omega arith)))))
find n r a b (Down ∷ ps) h d =
    let f = find n 0 a b ps (omega (arith, one_off (a + suc n + b) r (λ e. omega (arith, d (omega arith))))) (λ e. omega arith) in
    (suc f.0, f.1, λ x g. omega (arith, f.2 x g))
find n r a b (Standing ∷ ps) h d =
    elim (here_or_on r a (a + suc n + b) (lead ps) d) [
      | inl e ↦ (
        0,
        lead_front (suc n) (Standing ∷ ps) (omega (arith, e.0, e.1)),
        λ x g. grind (arith, fallen_runs n x r b (Standing ∷ ps) g (omega (arith, e.0, e.1)), e.0),
      )
      | inr e ↦ let f = find n (suc r) a b ps h e in (suc f.0, f.1, f.2)
    ]

-- what a move does to one row, some move of as many pins does to any row with the same runs
pub matched : (i n : ℕ) (ps qs : List Pin) → Same ps qs → T (up_after i (suc n) ps) → (j : ℕ) × T (up_after j (suc n) qs) × Same (fallen_after i (suc n) ps) (fallen_after j (suc n) qs)
matched i n ps qs s t =
    let d = split i n 0 ps t in
    let l = d.0 + suc n + d.1 in
    let f = find n 0 d.0 d.1 qs (omega (arith, s l (omega arith), d.2 l (omega arith), one_self l, one_off l d.0 (omega arith), one_off l d.1 (omega arith))) (λ e. omega arith) in
    (f.0, f.1, λ x h. omega (arith, s x h, d.2 x h, f.2 x h))

-- ---- numbers

fallen_lower : (n : ℕ) (ps : List Pin) → T (front n ps) → upright (fallen n ps) + n ≡ upright ps
unfolding front fallen upright
fallen_lower zero ps t = omega arith
fallen_lower (suc n) [] t = absurd t
fallen_lower (suc n) (Standing ∷ ps) t = omega (arith, fallen_lower n ps t)
fallen_lower (suc n) (Down ∷ ps) t = absurd t

-- a move takes as many pins as it says
pub lower : (i n : ℕ) (ps : List Pin) → T (up_after i n ps) → upright (fallen_after i n ps) + n ≡ upright ps
unfolding up_after fallen_after upright
lower zero n ps t = fallen_lower n ps t
lower (suc i) n [] t = absurd t
lower (suc i) n (Standing ∷ ps) t = omega (arith, lower i n ps t)
lower (suc i) n (Down ∷ ps) t = lower i n ps t

pub upright_le : (ps : List Pin) → upright ps ≤ length ps
unfolding upright
upright_le [] = omega arith
upright_le (Standing ∷ ps) = omega (arith, upright_le ps)
upright_le (Down ∷ ps) = omega (arith, upright_le ps)

-- no run is longer than the row
pub counted_long : (x r : ℕ) (ps : List Pin) → r + length ps < x → counted x r ps ≡ 0
unfolding counted
counted_long x r [] h = one_off x r (omega arith)
counted_long x r (Standing ∷ ps) h = counted_long x (suc r) ps (omega arith)
counted_long x r (Down ∷ ps) h = omega (arith, one_off x r (omega arith), counted_long x 0 ps (omega arith))

-- runs of x pins take x + 1 pins each, but for the last
one_room : (x r : ℕ) → one x r * (x + 1) ≤ r + 1
unfolding one
one_room x r = grind (arith, nat_tests)

pub counted_room : (x r : ℕ) (ps : List Pin) → counted x r ps * (x + 1) ≤ r + length ps + 1
unfolding counted
counted_room x r [] = omega (arith, one_room x r)
counted_room x r (Standing ∷ ps) = omega (arith, counted_room x (suc r) ps)
counted_room x r (Down ∷ ps) = omega (arith, add-mul (one x r) (counted x 0 ps) (x + 1), one_room x r, counted_room x 0 ps)
