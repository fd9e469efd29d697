-- The calls of a solver, by the queries that they make.
use Rattle.std.specs.Prelude.{◌≡◌, ℕ, suc, ◌+◌, ◌-◌, ◌<◌, ◌≤◌, Bool, true, false, if◌then◌else◌, not, List, [], ◌∷◌, Some, None, Option, Ok, Err, Result, ◌==◌, nat_lt}
use Rattle.search.specs.declared.call.Call.{Call}
use Rattle.search.specs.declared.call.Call.TheVariants.{Query, Solve, Best, Wipe}
use Rattle.search.specs.declared.call.CallError.{CallError}
use Rattle.search.specs.declared.call.CallError.TheVariants.{ShortTrail, GameOver}
use Rattle.search.specs.declared.call.Reply.{Reply}
use Rattle.search.specs.declared.call.Reply.TheVariants.{Answered, Solved, Chosen, Wiped}
use Rattle.search.specs.Games.{Rules, Legal}
use Rattle.search.specs.Sets.{Sets}
use Rattle.search.specs.Tables.{Memory}
use Rattle.search.specs.Visits.{Unaided, Visit, aim, capped}

-- The number that a refusal tells.
abbrev pub number : CallError → ℕ
number ShortTrail = 1
number GameOver = 10

-- What a call comes to: a reply, or why it is refused.
abbrev pub Outcome : Type 0
Outcome = Result Reply CallError

module _ {P : Type 0} (R : Rules P) where
  -- The trail has fewer cells than the position is high, or what else there is to refuse.
  abbrev pub short_trail_or : Option CallError → P → ℕ → Option CallError
  short_trail_or other p cells = if nat_lt cells (R.height p) then Some ShortTrail else other

  -- Why a call is refused, or none. A query, a solve and a best want as many trail cells as the position is high; a best then
  -- also wants a position that is not ended.
  abbrev pub refusal : Call P → Option CallError
  refusal (Query p b cells) = short_trail_or None p cells
  refusal (Solve p cells) = short_trail_or None p cells
  refusal (Best p cells) = short_trail_or (if R.moves p == 0 then Some GameOver else None) p cells
  refusal Wipe = None

  -- The call is not refused.
  abbrev pub Accepted : Call P → Type 0
  Accepted c = refusal c ≡ None

  module _ {S X : Type 0} (Z : Sets P S) (D : Memory P S X) where
    -- Solving p b x w y n: queries of p at b, b + 1 and so on up to the top, the last one the first that answers no, find
    -- the worth w; the table was x and is y, and n visits were made in all.
    pub data Solving : P → ℕ → X → ℕ → X → ℕ → Type 0 where
      past_top : {p : P} {b : ℕ} {x : X} → R.top p < b → Solving p b x (b - 1) x 0
      first_no : {p : P} {b : ℕ} {x y : X} {s : S} {n : ℕ} → b ≤ R.top p → Visit R Z D p b x false s y n → Solving p b x (b - 1) y n
      go_on : {p : P} {b : ℕ} {x y z : X} {s : S} {w n m : ℕ} → b ≤ R.top p → Visit R Z D p b x true s y n → Solving p (suc b) y w z m → Solving p b x w z (n + m)

    -- Choosing p w i x m y n: queries of the positions after move i of p, after move i + 1 and so on, each at its aim, the
    -- last one the first that answers as the side to move wants, find the move m.
    pub data Choosing : P → ℕ → ℕ → X → ℕ → X → ℕ → Type 0 where
      this_one : {p : P} {w i : ℕ} {x y : X} {s : S} {n : ℕ} → Legal R p i → Visit R Z D (R.after p i) (aim R p w i) x (R.counting p) s y n → Choosing p w i x i y n
      later_one : {p : P} {w i : ℕ} {x y z : X} {s : S} {m n k : ℕ} → Legal R p i → Visit R Z D (R.after p i) (aim R p w i) x (not (R.counting p)) s y n → Choosing p w (suc i) y m z k → Choosing p w i x m z (n + k)

    -- Does c x r y: the call c finds the table x, comes to r and leaves the table y.
    pub data Does : Call P → X → Outcome → X → Type 0 where
      -- a refusal leaves the table
      refused : {c : Call P} {x : X} {e : CallError} → refusal c ≡ Some e → Does c x (Err e) x
      -- a query visits its position at its bound
      queried : {p : P} {b cells : ℕ} {x y : X} {a : Bool} {s : S} {n : ℕ} → Accepted (Query p b cells) → Visit R Z D p b x a s y n → Does (Query p b cells) x (Ok (Answered (record { yes = a; visits = capped n }))) y
      -- a solve queries from bound 1 on
      solved : {p : P} {cells : ℕ} {x y : X} {w n : ℕ} → Accepted (Solve p cells) → Solving p 1 x w y n → Does (Solve p cells) x (Ok (Solved (record { worth = w; visits = capped n }))) y
      -- a best solves, and then queries the positions after the moves from move 0 on
      chosen : {p : P} {cells : ℕ} {x y z : X} {w m n k : ℕ} → Accepted (Best p cells) → Solving p 1 x w y n → Choosing p w 0 y m z k → Does (Best p cells) x (Ok (Chosen (record { number = m; worth = w; visits = capped (n + k) }))) z
      -- a wipe wipes the table
      wiped : {x y : X} → D.wipes x y → Does Wipe x (Ok Wiped) y

    -- Calls x cs rs y: the calls cs, made one after the other from the table x on, come to rs and leave the table y.
    pub data Calls : X → List (Call P) → List Outcome → X → Type 0 where
      done : {x : X} → Calls x [] [] x
      next : {c : Call P} {cs : List (Call P)} {x y z : X} {r : Outcome} {rs : List Outcome} → Does c x r y → Calls y cs rs z → Calls x (c ∷ cs) (r ∷ rs) z

    -- At each visit that was made for a solve, or for finding the move of a best, the table held no entry.
    abbrev pub UnaidedSolving : {p : P} {b : ℕ} {x : X} {w : ℕ} {y : X} {n : ℕ} → Solving p b x w y n → Type 0
    UnaidedSolving (past_top h) = Unit {0}
    UnaidedSolving (first_no h v) = Unaided R Z D v
    UnaidedSolving (go_on h v k) = Unaided R Z D v × UnaidedSolving k

    abbrev pub UnaidedChoosing : {p : P} {w i : ℕ} {x : X} {m : ℕ} {y : X} {n : ℕ} → Choosing p w i x m y n → Type 0
    UnaidedChoosing (this_one h v) = Unaided R Z D v
    UnaidedChoosing (later_one h v k) = Unaided R Z D v × UnaidedChoosing k
