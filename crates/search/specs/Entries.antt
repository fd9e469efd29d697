-- Entries: a set with a floor or a ceiling on the worth of each member.
use Rattle.std.specs.Prelude.{ℕ, ◌-◌, ◌<◌, ◌≤◌, Bool, true, false}
use Rattle.search.specs.declared.entry.Bound.{Bound}
use Rattle.search.specs.declared.entry.Bound.TheVariants.{Floor, Ceiling}
use Rattle.search.specs.declared.entry.Entry.{Entry}
use Rattle.search.specs.Games.{Rules}
use Rattle.search.specs.Minimax.{worth}
use Rattle.search.specs.Sets.{Sets, In}

-- The bound holds of a worth: a floor is at most that, a ceiling at least.
abbrev pub HoldsOf : Bound → ℕ → Type 0
HoldsOf (Floor f) w = f ≤ w
HoldsOf (Ceiling f) w = w ≤ f

-- The bound decides whether a worth is at least b: a floor that reaches b does, and a ceiling below b.
abbrev pub Decisive : Bound → ℕ → Type 0
Decisive (Floor f) b = b ≤ f
Decisive (Ceiling f) b = f < b

-- What a bound answers where it decides: a floor yes, a ceiling no.
abbrev pub verdict : Bound → Bool
verdict (Floor f) = true
verdict (Ceiling f) = false

-- The bound that an answer to 'worth at least b' gives: yes the floor b, no the ceiling b - 1.
abbrev pub bound_of : Bool → ℕ → Bound
bound_of true b = Floor b
bound_of false b = Ceiling (b - 1)

-- What a visit offers to the table.
abbrev pub offer : {S : Type 0} → S → Bool → ℕ → Entry S
offer s a b = record { set = s; bound = bound_of a b }

-- The entry's bound is true of every member of its set, visited or not.
abbrev pub True : {P S : Type 0} → Rules P → Sets P S → Entry S → Type 0
True {P} R Z e = (q : P) → In Z e.set q → HoldsOf e.bound (worth R q)
