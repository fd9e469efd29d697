-- What is promised of minimax, of every visit and of every list of calls.
use Rattle.std.specs.Prelude.{◌≡◌, ℕ, ◌<◌, ◌≤◌, Bool, ◌⊎◌, ◌↔◌, List, ◌∷◌, Some, Ok, Err}
use Rattle.search.specs.declared.call.Call.{Call}
use Rattle.search.specs.declared.call.Call.TheVariants.{Query, Solve, Best, Wipe}
use Rattle.search.specs.declared.call.CallError.{CallError}
use Rattle.search.specs.declared.call.Reply.TheVariants.{Answered, Solved, Chosen, Wiped}
use Rattle.search.specs.declared.call.Answer.{Answer}
use Rattle.search.specs.declared.call.Solution.{Solution}
use Rattle.search.specs.declared.call.BestMove.{BestMove}
use Rattle.search.specs.Bare.{Bare, bare, bare_best, bare_solve, bare_visits}
use Rattle.search.specs.Calls.{Calls, Does, Outcome, UnaidedChoosing, UnaidedSolving, chosen, done, next, number, queried, refused, solved, wiped}
use Rattle.search.specs.Games.{Ended, Legal, Live, Rules, most_points}
use Rattle.search.specs.Minimax.{IsMove, Minimax, Says, move, worth}
use Rattle.search.specs.Sets.{Sets, In}
use Rattle.search.specs.Tables.{AllTrue, Blank, Decided, Memory}
use Rattle.search.specs.Visits.{Unaided, Visit, capped, settled}

-- The worth follows the rule of minimax, it alone does, and it is at most the top; and what follows from the limit of tops.
pub record WorthRight {P : Type 0} (R : Rules P) : Type 0 where
  pub rule : Minimax R (worth R)
  pub only : (w : P → ℕ) → Minimax R w → (p : P) → w p ≡ worth R p
  pub under_top : (p : P) → worth R p ≤ R.top p
  -- of a position that is not ended, one move is the first to reach its worth
  pub has_move : (p : P) → Live R p → IsMove R p (move R p)
  pub one_move : (p : P) (m : ℕ) → IsMove R p m → m ≡ move R p
  -- gains and end scores have the limit of tops
  pub low_gain : (p : P) (m : ℕ) → Legal R p m → R.gain p m ≤ most_points
  pub low_score : (p : P) → R.score p ≤ most_points

-- The bare search answers by minimax, and it is the visit over the table that never holds any entry.
pub record BareRight {P S : Type 0} (R : Rules P) (Z : Sets P S) : Type 0 where
  pub answer : (p : P) (b : ℕ) → Says (bare R p b).0 b (worth R p)
  pub visit : (p : P) (b : ℕ) → Bare R Z p b (bare R p b).0 (bare_visits R p b)
  pub only : (p : P) (b : ℕ) (a : Bool) (n : ℕ) → Bare R Z p b a n → (a ≡ (bare R p b).0) × (n ≡ bare_visits R p b)

-- A count is at most that of the bare search, and equal to it where the table is of no help.
pub record Thrifty (bare count : ℕ) (Unhelped : Type 0) : Type 0 where
  pub most : count ≤ bare
  pub equal : Unhelped → count ≡ bare

-- The visits that an outcome tells.
abbrev pub told : Outcome → ℕ
told (Err e) = 0
told (Ok (Answered r)) = r.visits
told (Ok (Solved r)) = r.visits
told (Ok (Chosen r)) = r.visits
told (Ok Wiped) = 0

-- InTurn cs rs c r c' r': somewhere among the calls cs, which come to rs, c comes to r and c', straight after it, to r'.
pub data InTurn {P : Type 0} : List (Call P) → List Outcome → Call P → Outcome → Call P → Outcome → Type 0 where
  first_two : {cs : List (Call P)} {rs : List Outcome} {c : Call P} {r : Outcome} {c' : Call P} {r' : Outcome} → InTurn (c ∷ c' ∷ cs) (r ∷ r' ∷ rs) c r c' r'
  later_two : {cs : List (Call P)} {rs : List Outcome} {c : Call P} {r : Outcome} {c' : Call P} {r' : Outcome} {d : Call P} {u : Outcome} → InTurn cs rs c r c' r' → InTurn (d ∷ cs) (u ∷ rs) c r c' r'

module _ {P S X : Type 0} (R : Rules P) (Z : Sets P S) (D : Memory P S X) where
  -- What a visit of p at b that answers a with the set s and leaves the table y tells.
  pub record Sound (p : P) (b : ℕ) (a : Bool) (s : S) (y : X) : Type 0 where
    -- the answer is minimax's
    pub answer : Says a b (worth R p)
    -- p is in the set
    pub own : In Z s p
    -- every member of the set has the same answer at b
    pub alike : (q : P) → In Z s q → Says a b (worth R q)
    -- every bound in the table is true
    pub kept : AllTrue R Z D y

  -- Every visit over a table of true bounds is sound.
  abbrev pub VisitsSound : Type 0
  VisitsSound = (p : P) (b : ℕ) (x : X) (a : Bool) (s : S) (y : X) (n : ℕ) → AllTrue R Z D x → Visit R Z D p b x a s y n → Sound p b a s y

  -- The visit is settled without a move, or the table as found decides it.
  abbrev pub Immediate : P → ℕ → X → Type 0
  Immediate p b x = ((a : Bool) × (settled R p b ≡ Some a)) ⊎ Decided Z D x p b

  -- Every visit over a table of true bounds makes at most the visits of the bare search, as many where the table holds no entry
  -- at any visit, and one exactly if it is settled without a move or the table as found decides it.
  abbrev pub VisitsThrifty : Type 0
  VisitsThrifty = (p : P) (b : ℕ) (x : X) (a : Bool) (s : S) (y : X) (n : ℕ) → AllTrue R Z D x → (v : Visit R Z D p b x a s y n) → Thrifty (bare_visits R p b) n (Unaided R Z D v) × ((n ≡ 1) ↔ Immediate p b x)

  -- Over a table that holds what it was offered last, the same visit made again straight after is one visit.
  abbrev pub VisitsRepeat : Type 0
  VisitsRepeat = (p : P) (b : ℕ) (x : X) (a : Bool) (s : S) (y : X) (n : ℕ) (c : Bool) (t : S) (z : X) (m : ℕ) → D.retains x → AllTrue R Z D x → Visit R Z D p b x a s y n → Visit R Z D p b y c t z m → m ≡ 1

  -- Every position can be visited at every bound, whatever the table: the visit ends, with an answer.
  abbrev pub VisitsEnd : Type 0
  VisitsEnd = (p : P) (b : ℕ) (x : X) → (a : Bool) × (s : S) × (y : X) × (n : ℕ) × Visit R Z D p b x a s y n

  -- The outcome is the right one for the call.
  pub data Right : Call P → Outcome → Type 0 where
    -- with fewer trail cells than the height of the position it is refused with 1
    query_short : {p : P} {b cells : ℕ} {e : CallError} → cells < R.height p → number e ≡ 1 → Right (Query p b cells) (Err e)
    solve_short : {p : P} {cells : ℕ} {e : CallError} → cells < R.height p → number e ≡ 1 → Right (Solve p cells) (Err e)
    best_short : {p : P} {cells : ℕ} {e : CallError} → cells < R.height p → number e ≡ 1 → Right (Best p cells) (Err e)
    -- with enough of them the best of an ended position is refused with 10
    best_over : {p : P} {cells : ℕ} {e : CallError} → R.height p ≤ cells → Ended R p → number e ≡ 10 → Right (Best p cells) (Err e)
    -- a query answers yes exactly if minimax makes the position worth at least the bound
    answers : {p : P} {b cells : ℕ} {r : Answer} → R.height p ≤ cells → Says r.yes b (worth R p) → Right (Query p b cells) (Ok (Answered r))
    -- a solve tells minimax's worth
    solves : {p : P} {cells : ℕ} {r : Solution} → R.height p ≤ cells → r.worth ≡ worth R p → Right (Solve p cells) (Ok (Solved r))
    -- a best tells minimax's worth, and the first move to reach it
    chooses : {p : P} {cells : ℕ} {r : BestMove} → R.height p ≤ cells → r.worth ≡ worth R p → IsMove R p r.number → Right (Best p cells) (Ok (Chosen r))
    -- a wipe is never refused
    wipes : Right Wipe (Ok Wiped)

  -- What is promised of the visits that an outcome tells, held at the limit as those of the bare search are.
  abbrev pub CountsKept : ℕ → {c : Call P} {x : X} {r : Outcome} {y : X} → Does R Z D c x r y → Type 0
  CountsKept count (refused e) = Unit {0}
  CountsKept count (queried {p = p} {b = b} {x = x} e v) = Thrifty (capped (bare_visits R p b)) count (Unaided R Z D v) × ((count ≡ 1) ↔ Immediate p b x)
  CountsKept count (solved {p = p} e k) = Thrifty (capped (bare_solve R p)) count (UnaidedSolving R Z D k)
  CountsKept count (chosen {p = p} e k l) = Thrifty (capped (bare_best R p)) count (UnaidedSolving R Z D k × UnaidedChoosing R Z D l)
  CountsKept count (wiped w) = Unit {0}

  -- What is promised of one call.
  pub record CallKept (c : Call P) (x : X) (r : Outcome) (y : X) (d : Does R Z D c x r y) : Type 0 where
    -- the outcome is the right one
    pub right : Right c r
    -- every bound in the table is true after it
    pub true_after : AllTrue R Z D y
    -- a wipe leaves nothing held
    pub blank_after : c ≡ Wipe → Blank D y
    -- the visits that the outcome tells
    pub counts : CountsKept (told r) d

  -- What is promised of each call of a list.
  abbrev pub EachKept : {x y : X} {cs : List (Call P)} {rs : List Outcome} → Calls R Z D x cs rs y → Type 0
  EachKept done = Unit {0}
  EachKept (next {c = c} {x = x} {y = y} {r = r} d k) = CallKept c x r y d × EachKept k

  -- What is promised of a solver opened over the table x, which is wiped to y, and then given the calls cs.
  pub record SessionKept (x y z : X) (cs : List (Call P)) (rs : List Outcome) (k : Calls R Z D y cs rs z) : Type 0 where
    -- opening leaves nothing held
    pub opened : Blank D y
    -- each call keeps what is promised of it
    pub each : EachKept k
    -- over a table that holds what it was offered last, an accepted query that is accepted again straight after takes one visit
    pub repeats : D.retains x → (p : P) (b cells cells' : ℕ) (a a' : Answer) → InTurn cs rs (Query p b cells) (Ok (Answered a)) (Query p b cells') (Ok (Answered a')) → a'.visits ≡ 1

  -- Every list of calls keeps what is promised.
  abbrev pub SessionsKept : Type 0
  SessionsKept = (x y z : X) (cs : List (Call P)) (rs : List Outcome) → D.wipes x y → (k : Calls R Z D y cs rs z) → SessionKept x y z cs rs k

  -- Every list of calls can be made, whatever the table: each call ends, with an outcome.
  abbrev pub SessionsEnd : Type 0
  SessionsEnd = (x : X) (cs : List (Call P)) → (y : X) × (rs : List Outcome) × (z : X) × D.wipes x y × Calls R Z D y cs rs z

  -- What every visit over a table of true bounds tells, how many visits it makes, and that it can be made.
  pub record VisitsRight : Type 0 where
    pub sound : VisitsSound
    pub thrifty : VisitsThrifty
    pub repeat : VisitsRepeat
    pub end : VisitsEnd

  -- What every list of calls keeps from opening on, and that it can be made.
  pub record SessionsRight : Type 0 where
    pub kept : SessionsKept
    pub end : SessionsEnd
