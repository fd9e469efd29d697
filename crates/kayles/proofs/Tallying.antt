-- The list of the runs of a row has all its runs, and what follows.
use Rattle.std.specs.Prelude.{◌≡◌, ℕ, zero, suc, ◌+◌, ◌-◌, ◌<◌, ◌≤◌, ◌⊎◌, Option, MatchOption, List, [], ◌∷◌, length, get_or, Some, None, slice_index_or}
use Rattle.std.specs.List.{AllWithin, HoldsAt}
use Rattle.std.proofs.Common.{sym, ap, ◌∙◌, subst, inl, inr, arith}
use Rattle.std.proofs.lemmas.Bool.{cases_lt}
use Rattle.kayles.specs.declared.board.Board.{Board}
use Rattle.kayles.specs.declared.board.Pin.{Pin}
use Rattle.kayles.specs.declared.board.Pin.TheVariants.{Standing, Down}
use Rattle.kayles.specs.declared.runs.Run.{Run}
use Rattle.kayles.specs.Boards.{row_few}
use Rattle.kayles.specs.Limits.{most_pins}
use Rattle.kayles.specs.Rows.{Stands, row}
use Rattle.kayles.specs.Runs.{FirstRun, IsRun, NoRun, RunsOf, no_run}
use Rattle.kayles.specs.Tallies.{all_runs, closed, runs_from}
use Rattle.kayles.proofs.Masks.{down_up}
use Rattle.kayles.proofs.Stretches.{no_pin_0, none_past, run_begins, run_fits, same_run}

-- rs lists the runs that begin at pin `from` or later
pub record Lists (ps : List Pin) (from : ℕ) (rs : List Run) : Type 0 where
  pub each : (k : ℕ) → k < length rs → IsRun ps (slice_index_or rs k no_run)
  pub late : (k : ℕ) → k < length rs → from ≤ (get_or rs k no_run).first
  pub order : (j k : ℕ) → j < k → k < length rs → (get_or rs j no_run).first < (get_or rs k no_run).first
  pub all : (r : Run) → IsRun ps r → from ≤ r.first → (k : ℕ) × (k < length rs) × (slice_index_or rs k no_run ≡ r)

lists_none : (ps : List Pin) (from : ℕ) → length ps < from → Lists ps from []
lists_none ps from h = record {
  each = λ k l. absurd (omega arith);
  late = λ k l. absurd (omega arith);
  order = λ j k a l. absurd (omega arith);
  all = λ r t a. absurd (omega (arith, run_fits ps r t, t.some));
}

-- no run begins at a pin that is down
lists_down : (ps : List Pin) (i : ℕ) (rs : List Run) → (Stands ps i → ⊥) → Lists ps (suc i) rs → Lists ps i rs
lists_down ps i rs d l = record { each = l.each; late = λ k a. omega (arith, l.late k a); order = l.order; all = λ r t a. at r t a (cases_lt i r.first) }
  where
    at : (r : Run) → IsRun ps r → i ≤ r.first → (i < r.first) ⊎ (r.first ≤ i) → (k : ℕ) × (k < length rs) × (slice_index_or rs k no_run ≡ r)
    at r t a (inl b) = l.all r t b
    at r t a (inr b) = absurd (d (t.stand i b (omega (arith, t.some))))

-- a run, before the runs behind it
lists_run : (ps : List Pin) (q : Run) (rs : List Run) → IsRun ps q → Lists ps (q.first + q.len) rs → Lists ps q.first (q ∷ rs)
lists_run ps q rs is l = record { each = each; late = late; order = order; all = λ r t a. all r t a (cases_lt r.first (q.first + q.len)) }
  where
    each : (k : ℕ) → k < length (q ∷ rs) → IsRun ps (slice_index_or (q ∷ rs) k no_run)
    each zero a = is
    each (suc k) a = l.each k (omega arith)

    late : (k : ℕ) → k < length (q ∷ rs) → q.first ≤ (get_or (q ∷ rs) k no_run).first
    late zero a = omega arith
    late (suc k) a = omega (arith, l.late k (omega arith))

    order : (j k : ℕ) → j < k → k < length (q ∷ rs) → (get_or (q ∷ rs) j no_run).first < (get_or (q ∷ rs) k no_run).first
    order j zero a b = absurd (omega arith)
    order zero (suc k) a b = omega (arith, l.late k (omega arith), is.some)
    order (suc j) (suc k) a b = l.order j k (omega arith) (omega arith)

    all : (r : Run) → IsRun ps r → q.first ≤ r.first → (r.first < q.first + q.len) ⊎ (q.first + q.len ≤ r.first) → (k : ℕ) × (k < length (q ∷ rs)) × (slice_index_or (q ∷ rs) k no_run ≡ r)
    all r t a (inl b) = (0, omega arith, same_run ps q r is t (omega (arith, t.some)) b)
    all r t a (inr b) = let p = l.all r t b in (suc p.0, omega (arith, p.1), p.2)

-- The pins `rest` follow the first i pins of ps. Of those, the last n stand, which are the pins from `from` on, and the one
-- before them doesn't.
pub record Walked (ps rest : List Pin) (i n from : ℕ) : Type 0 where
  pub long : length ps ≡ i + length rest
  pub at : (j : ℕ) → slice_index_or ps (i + j) Down ≡ slice_index_or rest j Down
  pub start : from + n ≡ suc i
  pub stand : (k : ℕ) → from ≤ k → k ≤ i → Stands ps k
  pub before : Stands ps (from - 1) → ⊥

-- the next pin
next_is : (ps : List Pin) (p : Pin) (rest : List Pin) (i n from : ℕ) → Walked ps (p ∷ rest) i n from → slice_index_or (Down ∷ ps) (suc i) Down ≡ p
next_is ps p rest i n from w = ap (λ k. get_or ps k Down) (let e : i ≡ i + 0 = omega arith in e) ∙ w.at 0

walked_at : (ps : List Pin) (p : Pin) (rest : List Pin) (i n from : ℕ) → Walked ps (p ∷ rest) i n from → (j : ℕ) → slice_index_or ps (suc i + j) Down ≡ slice_index_or rest j Down
walked_at ps p rest i n from w j = ap (λ k. get_or ps k Down) (let e : suc i + j ≡ i + suc j = omega arith in e) ∙ w.at (suc j)

-- it stands
pub walked_up : (ps rest : List Pin) (i n from : ℕ) → Walked ps (Standing ∷ rest) i n from → Walked ps rest (suc i) (suc n) from
walked_up ps rest i n from w = record {
  long = omega (arith, w.long);
  at = walked_at ps Standing rest i n from w;
  start = omega (arith, w.start);
  stand = λ k a b. stand k a b (cases_lt i k);
  before = w.before;
}
  where
    stand : (k : ℕ) → from ≤ k → k ≤ suc i → (i < k) ⊎ (k ≤ i) → Stands ps k
    stand k a b (inl h) = subst (Stands ps) (let e : suc i ≡ k = omega arith in e) (next_is ps Standing rest i n from w)
    stand k a b (inr h) = w.stand k a h

-- it is down
pub walked_down : (ps rest : List Pin) (i n from : ℕ) → Walked ps (Down ∷ rest) i n from → (Stands ps (suc i) → ⊥) → Walked ps rest (suc i) 0 (suc (suc i))
walked_down ps rest i n from w d = record {
  long = omega (arith, w.long);
  at = walked_at ps Down rest i n from w;
  start = omega arith;
  stand = λ k a b. absurd (omega arith);
  before = λ s. d (subst (Stands ps) (let e : suc (suc i) - 1 ≡ suc i = omega arith in e) s);
}

-- the run that ends before a pin that is down
lists_closed : (ps rest : List Pin) (i n from : ℕ) (rs : List Run) → Walked ps rest i n from → (Stands ps (suc i) → ⊥) → Lists ps (suc i) rs → Lists ps from (closed (suc i) n rs)
unfolding closed
lists_closed ps rest i zero from rs w d l = subst (λ k. Lists ps k rs) (let e : suc i ≡ from = omega (arith, w.start) in e) l
lists_closed ps rest i (suc n) from rs w d l =
    let q : Run = record { first = suc i - suc n; len = suc n } in
    let begins : q.first ≡ from = omega (arith, w.start) in
    let ends : suc i ≡ q.first + q.len = omega (arith, w.start) in
    let is : IsRun ps q = record {
      some = omega arith;
      stand = λ k a b. w.stand k (omega (arith, begins)) (omega (arith, ends));
      before = λ s. w.before (subst (λ k. Stands ps (k - 1)) begins s);
      after = λ s. d (subst (Stands ps) (sym ends) s);
    } in
    subst (λ k. Lists ps k (q ∷ rs)) begins (lists_run ps q rs is (subst (λ k. Lists ps k rs) ends l))

pub listing : (ps rest : List Pin) (i n from : ℕ) → Walked ps rest i n from → Lists ps from (runs_from (suc i) n rest)
unfolding runs_from
listing ps [] i n from w =
    let past : length ps < suc i = omega (arith, w.long) in
    lists_closed ps [] i n from [] w (none_past ps (suc i) past) (lists_none ps (suc i) past)
listing ps (Standing ∷ rest) i n from w = listing ps rest (suc i) (suc n) from (walked_up ps rest i n from w)
listing ps (Down ∷ rest) i n from w =
    let d : Stands ps (suc i) → ⊥ = λ s. down_up (sym (next_is ps Down rest i n from w) ∙ s) in
    lists_closed ps (Down ∷ rest) i n from (runs_from (suc (suc i)) 0 rest) w d (lists_down ps (suc i) (runs_from (suc (suc i)) 0 rest) d (listing ps rest (suc i) 0 (suc (suc i)) (walked_down ps rest i n from w d)))

pub runs_listed : (ps : List Pin) → RunsOf ps (all_runs ps)
unfolding all_runs
runs_listed ps = record { each = l.each; order = l.order; all = λ r t. l.all r t (run_begins ps r t) }
  where
    l : Lists ps 1 (runs_from 1 0 ps)
    l = listing ps ps 0 0 1 (record {
      long = omega arith;
      at = λ j. ap (λ k. get_or ps k Down) (let e : 0 + j ≡ j = omega arith in e);
      start = omega arith;
      stand = λ k a b. absurd (omega arith);
      before = no_pin_0 ps;
    })

-- the first of the listed runs that begins at pin `from` or later
pub next_listed : (ps : List Pin) (rs : List Run) (from : ℕ) → RunsOf ps rs → (o : Option Run)
    → MatchOption o (AllWithin (λ r. r.first < from) rs 0 (length rs)) (λ q. (from ≤ q.first) × (i : ℕ) × (i < length rs) × HoldsAt (λ r. r ≡ q) rs i × AllWithin (λ r. r.first < from) rs 0 i)
    → MatchOption o (NoRun ps from) (FirstRun ps from)
next_listed ps rs from l None h = λ r t. let p = l.all r t in subst (λ x. x.first < from) p.2 (h p.0 no_run (omega arith) p.1)
next_listed ps rs from l (Some q) (late, i, low, here, before) = record {
  is_run = subst (IsRun ps) (here no_run) (l.each i low);
  late = late;
  earliest = λ r t a. let p = l.all r t in earliest r a p.0 p.1 p.2 (cases_lt p.0 i) (cases_lt i p.0);
}
  where
    earliest : (r : Run) → from ≤ r.first → (k : ℕ) → k < length rs → slice_index_or rs k no_run ≡ r → (k < i) ⊎ (i ≤ k) → (i < k) ⊎ (k ≤ i) → q.first ≤ r.first
    earliest r a k b e (inl c) d = absurd (omega (arith, before k no_run (omega arith) c, ap (λ x. x.first) e))
    earliest r a k b e (inr c) (inl d) = omega (arith, l.order i k d b, ap (λ x. x.first) e, ap (λ x. x.first) (here no_run))
    earliest r a k b e (inr c) (inr d) = omega (arith, ap (λ x. x.first) e, ap (λ x. x.first) (here no_run), ap (λ j. (get_or rs j no_run).first) (let f : i ≡ k = omega arith in f))

-- a run of a board is no longer than the board
pub first_fits : (b : Board) (q : Run) (rs : List Run) → all_runs (row b) ≡ q ∷ rs → q.len ≤ most_pins
first_fits b q rs e =
    let run : IsRun (row b) q = (subst (RunsOf (row b)) e (runs_listed (row b))).each 0 (omega arith) in
    omega (arith, run_begins (row b) q run, run_fits (row b) q run, row_few b)
