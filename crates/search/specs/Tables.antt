-- Tables by what they hold, and the laws that every table keeps.
use Rattle.std.specs.Prelude.{◌≡◌, ℕ, ◌⊎◌, Some, None, Option}
use Rattle.search.specs.declared.entry.Entry.{Entry}
use Rattle.search.specs.Entries.{Decisive, True}
use Rattle.search.specs.Games.{Rules}
use Rattle.search.specs.Sets.{Sets, In}

-- A table over states X. Its calls are relations: the rules leave open which of several entries look gives and which
-- entries keep drops, so each table says for itself what may come of a call.
pub record Memory (P S X : Type 0) : Type 1 where
  -- the entry is held now
  pub held : X → Entry S → Type 0
  -- look, for a position and a bound, may answer so
  pub looks : X → P → ℕ → Option (Entry S) → Type 0
  -- keep, offered the entry, may leave the table so
  pub keeps : X → Entry S → X → Type 0
  -- wipe may leave the table so
  pub wipes : X → X → Type 0
  -- from this state on the table always holds the entry that it was offered last
  pub retains : X → Type 0

module _ {P S X : Type 0} (Z : Sets P S) (D : Memory P S X) where
  -- The entry is held, its set has p, and it decides b.
  pub record Serves (x : X) (p : P) (b : ℕ) (e : Entry S) : Type 0 where
    pub is_held : D.held x e
    pub has : In Z e.set p
    pub decides : Decisive e.bound b

  -- The table decides p at b.
  abbrev pub Decided : X → P → ℕ → Type 0
  Decided x p b = (e : Entry S) × Serves x p b e

-- The table holds no entry.
abbrev pub Blank : {P S X : Type 0} → Memory P S X → X → Type 0
Blank D x = (e : Entry _) → D.held x e → ⊥

-- Every bound in the table is true of each member of its set.
abbrev pub AllTrue : {P S X : Type 0} → Rules P → Sets P S → Memory P S X → X → Type 0
AllTrue R Z D x = (e : Entry _) → D.held x e → True R Z e

-- The laws of tables. Look leaves the table as it is, so that it changes nothing held.
pub record MemoryLaws {P S X : Type 0} (Z : Sets P S) (D : Memory P S X) : Type 0 where
  -- a table refuses nothing: look, keep and wipe always come to something
  pub looked : (x : X) (p : P) (b : ℕ) → (o : Option (Entry S)) × D.looks x p b o
  pub kept : (x : X) (e : Entry S) → (y : X) × D.keeps x e y
  pub wiped : (x : X) → (y : X) × D.wipes x y
  -- look answers an entry that serves, and none only if no entry does
  pub look_some : (x : X) (p : P) (b : ℕ) (e : Entry S) → D.looks x p b (Some e) → Serves Z D x p b e
  pub look_none : (x : X) (p : P) (b : ℕ) → D.looks x p b None → Decided Z D x p b → ⊥
  -- every entry held after keep was held before or is the one offered
  pub keep_adds : (x : X) (e : Entry S) (y : X) (f : Entry S) → D.keeps x e y → D.held y f → D.held x f ⊎ (f ≡ e)
  -- wipe leaves nothing held
  pub wipe_clears : (x y : X) → D.wipes x y → Blank D y
  -- what it means to retain, and that it lasts
  pub retain_holds : (x : X) (e : Entry S) (y : X) → D.retains x → D.keeps x e y → D.held y e
  pub retain_keeps : (x : X) (e : Entry S) (y : X) → D.retains x → D.keeps x e y → D.retains y
  pub retain_wipes : (x y : X) → D.retains x → D.wipes x y → D.retains y
