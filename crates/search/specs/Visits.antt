-- A visit by its seven rules.
use Rattle.std.specs.Prelude.{◌≡◌, ℕ, suc, ◌+◌, ◌-◌, ◌^◌, min, Bool, true, false, if◌then◌else◌, not, Some, None, Option, ◌==◌, nat_le, nat_lt}
use Rattle.search.specs.declared.entry.Entry.{Entry}
use Rattle.search.specs.Entries.{offer, verdict}
use Rattle.search.specs.Games.{Rules, Legal}
use Rattle.search.specs.Sets.{Sets, joined}
use Rattle.search.specs.Tables.{Memory, Blank}

-- Counts of visits are held at the greatest number of 64 bits.
abbrev pub capped : ℕ → ℕ
capped n = min n (2 ^ 64 - 1)

-- The answer of a visit that is settled without a move.
-- Rule 1: yes at bound 0. Rule 2: no above the top. Rule 3: at the end, yes exactly if the end score reaches the bound.
abbrev pub settled : {P : Type 0} → Rules P → P → ℕ → Option Bool
settled R p b =
    if b == 0 then Some true else
    if nat_lt (R.top p) b then Some false else
    if R.moves p == 0 then Some (nat_le b (R.score p)) else None

-- The bound at which the position after move i is visited: b less the gain, or 0 if that is negative.
abbrev pub rest_of : {P : Type 0} → Rules P → P → ℕ → ℕ → ℕ
rest_of R p b i = b - R.gain p i

-- The bound at which best asks about move i of p, which is worth w: on the counting side's turn w less the gain, on the
-- other's w + 1 less the gain, or 0 if that is negative.
abbrev pub aim : {P : Type 0} → Rules P → P → ℕ → ℕ → ℕ
aim R p w i = (if R.counting p then w else w + 1) - R.gain p i

module _ {P S X : Type 0} (R : Rules P) (Z : Sets P S) (D : Memory P S X) where
  mutual
    -- Visit p b x a s y n: a visit of p at b finds the table x, answers a (true is yes) with the set s, leaves the table y
    -- and makes n visits, itself counted.
    pub data Visit : P → ℕ → X → Bool → S → X → ℕ → Type 0 where
      -- rules 1 to 3: an answer without a move has the broad set
      at_once : {p : P} {b : ℕ} {x : X} {a : Bool} → settled R p b ≡ Some a → Visit p b x a (Z.broad p) x 1
      -- rule 4: what look finds answers, a floor yes and a ceiling no, with its set
      remembered : {p : P} {b : ℕ} {x : X} {e : Entry S} → settled R p b ≡ None → D.looks x p b (Some e) → Visit p b x (verdict e.bound) e.set x 1
      -- rule 5: the first move whose visit answers yes on the counting side's turn, no on the other's, gives that answer with
      -- its pull; rule 7: this is offered to the table
      by_move : {p : P} {b i : ℕ} {x y z w : X} {acc s : S} {n m : ℕ} → settled R p b ≡ None → D.looks x p b None → Tried p b i x acc y n → Legal R p i → Visit (R.after p i) (rest_of R p b i) y (R.counting p) s z m → D.keeps z (offer (Z.pull p i s) (R.counting p) b) w → Visit p b x (R.counting p) (Z.pull p i s) w (suc (n + m))
      -- rule 6: if no move settles it, the answer is no on the counting side's turn and yes on the other's, with the cover;
      -- rule 7: this is offered to the table
      by_cover : {p : P} {b : ℕ} {x y z : X} {acc : S} {n : ℕ} → settled R p b ≡ None → D.looks x p b None → Tried p b (R.moves p) x acc y n → D.keeps y (offer acc (not (R.counting p)) b) z → Visit p b x (not (R.counting p)) acc z (suc n)

    -- Tried p b i x acc y n: the moves of p before number i were visited in order, none settles b, and acc is their cover;
    -- the table was x and is y, and n visits were made.
    pub data Tried : P → ℕ → ℕ → X → S → X → ℕ → Type 0 where
      none_yet : {p : P} {b : ℕ} {x : X} → Tried p b 0 x (Z.broad p) x 0
      one_more : {p : P} {b i : ℕ} {x y z : X} {acc s : S} {n m : ℕ} → Tried p b i x acc y n → Legal R p i → Visit (R.after p i) (rest_of R p b i) y (not (R.counting p)) s z m → Tried p b (suc i) x (joined R Z p i acc (Z.pull p i s)) z (n + m)

  abbrev mutual
    -- At each visit that was made the table held no entry.
    pub Unaided : {p : P} {b : ℕ} {x : X} {a : Bool} {s : S} {y : X} {n : ℕ} → Visit p b x a s y n → Type 0
    Unaided (at_once {x = x} e) = Blank D x
    Unaided (remembered {x = x} e l) = Blank D x
    Unaided (by_move {x = x} e l t i v k) = Blank D x × UnaidedMoves t × Unaided v
    Unaided (by_cover {x = x} e l t k) = Blank D x × UnaidedMoves t

    -- The same for the moves that were tried.
    pub UnaidedMoves : {p : P} {b i : ℕ} {x : X} {s : S} {y : X} {n : ℕ} → Tried p b i x s y n → Type 0
    UnaidedMoves none_yet = Unit {0}
    UnaidedMoves (one_more t i v) = UnaidedMoves t × Unaided v
