-- Every visit over a table of true bounds is sound.
use Rattle.std.proofs.Common.{◌≡◌, ℕ, zero, suc, ◌<◌, ◌≤◌, Bool, not, Some, None, sym, refl, ◌∙◌, ap₂, inl, inr, arith, below_none, below_more}
use Rattle.std.specs.Prelude.{◌==◌, if◌then◌else◌}
use Rattle.std.proofs.lemmas.Bool.{cond-true, cond-false, eq-eqb, ne_eqb}
use Rattle.std.proofs.lemmas.Bool.Decides.{nat_tests}
use Rattle.std.proofs.Math.Bool.{not-not}
use Rattle.search.specs.declared.entry.Bound.{Bound}
use Rattle.search.specs.Entries.{HoldsOf, Decisive, bound_of, offer, verdict}
use Rattle.search.specs.Games.{GameLaws, Legal, Live, Rules}
use Rattle.search.specs.Minimax.{Says, worth}
use Rattle.search.specs.Promises.{Sound}
use Rattle.search.specs.Sets.{In, SetLaws, Sets, cover_to, joined}
use Rattle.search.specs.Tables.{AllTrue, Memory, MemoryLaws}
use Rattle.search.specs.Visits.{Tried, Visit, at_once, by_cover, by_move, none_yet, one_more, remembered, rest_of, settled}
use Rattle.search.proofs.Worth.{worth_ended, worth_least, worth_most, worth_some, worth_top}

-- A true bound that decides b answers right.
verdict_says : (d : Bound) (b w : ℕ) → HoldsOf d w → Decisive d b → Says (verdict d) b w
verdict_says d b w t h = grind arith

-- A right answer gives a true bound.
says_bounds : (a : Bool) (b w : ℕ) → 0 < b → Says a b w → HoldsOf (bound_of a b) w
says_bounds a b w h s = grind arith

-- A visit that is not settled without a move.
pub record Unsettled {P : Type 0} (R : Rules P) (p : P) (b : ℕ) : Type 0 where
  pub asks : 0 < b
  pub within : b ≤ R.top p
  pub live : Live R p

pub unsettled : {P : Type 0} (R : Rules P) (p : P) (b : ℕ) → settled R p b ≡ None → Unsettled R p b
unsettled R p b e = grind (arith, nat_tests)

-- The sets of the moves tried so far, and one more.
module _ {S : Type 0} where
  put : (ℕ → S) → ℕ → S → ℕ → S
  put U i s k = if k == i then s else U k

  put_here : (U : ℕ → S) (i : ℕ) (s : S) → put U i s i ≡ s
  unfolding put
  put_here U i s = cond-true (i == i) s (U i) (eq-eqb i i refl)

  put_below : (U : ℕ → S) (i : ℕ) (s : S) (k : ℕ) → k < i → put U i s k ≡ U k
  unfolding put
  put_below U i s k h = cond-false (k == i) s (U k) (ne_eqb k i (λ e. omega arith))

  put_all : (U : ℕ → S) (i : ℕ) (s : S) (Q : ℕ → S → Type 0) → ((k : ℕ) → k < i → Q k (U k)) → Q i s → (k : ℕ) → k < suc i → Q k (put U i s k)
  put_all U i s Q below here k l =
      below_more (λ n. Q n (put U i s n)) i (λ k l. rw (put_below U i s k l) (below k l)) (rw (put_here U i s) here) k (omega arith)

module _ {P S : Type 0} (R : Rules P) (Z : Sets P S) (L : GameLaws R) (K : SetLaws R Z) where
  -- Members of the broad set have the same answer where no move is needed.
  pub settled_says : (p : P) (b : ℕ) (a : Bool) → settled R p b ≡ Some a → (q : P) → In Z (Z.broad p) q → Says a b (worth R q)
  settled_says p b a e q i = grind (arith, nat_tests, worth_top R L q, worth_ended R L q, K.broad_top p q i, K.broad_end p q i)

  -- A move that answers as the side to move wants answers for the position.
  pub move_says : (c : Bool) (q : P) (j b : ℕ) → R.counting q ≡ c → Legal R q j → 0 < b → Says c (rest_of R q b j) (worth R (R.after q j)) → Says c b (worth R q)
  move_says c q j b e l h s = grind (arith, worth_most R L q j, worth_least R L q j)

  -- If every move answers as the side to move does not want, so does the position.
  pub moves_say : (c : Bool) (q : P) (b : ℕ) → Live R q → ((j : ℕ) → Legal R q j → Says c (rest_of R q b j) (worth R (R.after q j))) → (R.counting q ≡ not c) → Says c b (worth R q)
  moves_say c q b l h e = let r = worth_some R L q l in grind (arith, h r.0 r.1, r.2)

  cover_ext : (p : P) (n : ℕ) (U V : ℕ → S) → ((k : ℕ) → k < n → U k ≡ V k) → cover_to R Z p U n ≡ cover_to R Z p V n
  cover_ext p zero U V h = refl
  cover_ext p (suc n) U V h =
      ap₂ (λ a t. joined R Z p n a (Z.pull p n t)) (cover_ext p n U V (λ k l. h k (omega arith))) (h n (omega arith))

  joined_own : (p : P) (n : ℕ) (a s : S) → In Z a p → In Z s p → In Z (joined R Z p n a s) p
  joined_own p zero a s ha hs = hs
  joined_own p (suc n) a s ha hs = K.narrow_own p a s ha hs

  -- p belongs to the cover of its moves.
  cover_own : (p : P) (n : ℕ) (U : ℕ → S) → n ≤ R.moves p → ((k : ℕ) → k < n → In Z (U k) (R.after p k)) → In Z (cover_to R Z p U n) p
  cover_own p zero U le h = K.broad_own p
  cover_own p (suc n) U le h =
      joined_own p n (cover_to R Z p U n) (Z.pull p n (U n)) (cover_own p n U (omega arith) (λ k l. h k (omega arith)))
      (K.pull_own p n (U n) (omega arith) (h n (omega arith)))

  -- Members of the pull of a move that answers as the side to move wants have that answer.
  pull_says : (p : P) (b i : ℕ) (s : S) → Legal R p i → 0 < b → In Z s (R.after p i) → ((q : P) → In Z s q → Says (R.counting p) (rest_of R p b i) (worth R q)) → (q : P) → In Z (Z.pull p i s) q → Says (R.counting p) b (worth R q)
  pull_says p b i s l h o f q m =
      let w = K.pull_all p i s l o q m in
      let d = w.1 in
      move_says (R.counting p) q d.0 b w.0 d.1 h
      (rw d.2.0 (f (R.after q d.0) d.2.1))

  -- The moves before number i were tried and none settles: through which sets they were pulled.
  pub record Failed (p : P) (b i : ℕ) (acc : S) : Type 0 where
    pub through : ℕ → S
    pub is : acc ≡ cover_to R Z p through i
    pub own : (k : ℕ) → k < i → In Z (through k) (R.after p k)
    pub alike : (k : ℕ) → k < i → (q : P) → In Z (through k) q → Says (not (R.counting p)) (rest_of R p b k) (worth R q)

  failed_none : (p : P) (b : ℕ) → Failed p b 0 (Z.broad p)
  failed_none p b = record { through = λ _. Z.broad p; is = refl; own = below_none _; alike = below_none _ }

  failed_more : (p : P) (b i : ℕ) (acc s : S) → Failed p b i acc → In Z s (R.after p i) → ((q : P) → In Z s q → Says (not (R.counting p)) (rest_of R p b i) (worth R q)) → Failed p b (suc i) (joined R Z p i acc (Z.pull p i s))
  failed_more p b i acc s t h f =
      let U = put t.through i s in
      record {
        through = U;
        is = ap₂ (λ a v. joined R Z p i a (Z.pull p i v)) (t.is ∙ cover_ext p i t.through U (λ k l. sym (put_below t.through i s k l))) (sym (put_here t.through i s));
        own = put_all t.through i s (λ n v. In Z v (R.after p n)) t.own h;
        alike = put_all t.through i s (λ n v. (q : P) → In Z v q → Says (not (R.counting p)) (rest_of R p b n) (worth R q)) t.alike f;
      }

  -- Members of the cover of moves that all fail have the other answer.
  cover_says : (p : P) (b : ℕ) (acc : S) → Live R p → Failed p b (R.moves p) acc → (q : P) → In Z acc q → Says (not (R.counting p)) b (worth R q)
  cover_says p b acc l t q m =
      let w = K.cover_all p t.through l t.own q (rw t.is at m) in
      moves_say (not (R.counting p)) q b w.1
      (λ j h. let d = w.2 j h in rw d.2.0 (t.alike d.0 d.1 (R.after q j) d.2.1))
      (w.0 ∙ sym (not-not (R.counting p)))

  module _ {X : Type 0} (D : Memory P S X) (E : MemoryLaws Z D) where
    -- A sound answer may be offered to the table.
    offered : (p : P) (b : ℕ) (a : Bool) (s : S) (y z : X) → 0 < b → In Z s p → ((q : P) → In Z s q → Says a b (worth R q)) → AllTrue R Z D y → D.keeps y (offer s a b) z → Sound R Z D p b a s z
    offered p b a s y z h i f t w = record {
      answer = f p i;
      own = i;
      alike = f;
      kept = λ d k. elim (E.keep_adds y (offer s a b) z d w k) [
        | inl o ↦ t d o
        | inr o ↦ rw o (λ q j. says_bounds a b (worth R q) h (f q j))
      ];
    }

    mutual
      pub visit_sound : {p : P} {b : ℕ} {x : X} {a : Bool} {s : S} {y : X} {n : ℕ} → Visit R Z D p b x a s y n → AllTrue R Z D x → Sound R Z D p b a s y
      visit_sound (at_once {p = p} {b = b} {a = a} e) t =
          record { answer = settled_says p b a e p (K.broad_own p); own = K.broad_own p; alike = settled_says p b a e; kept = t }
      visit_sound (remembered {p = p} {b = b} {x = x} {e = e} u l) t =
          let r = E.look_some x p b e l in
          let f : (q : P) → In Z e.set q → Says (verdict e.bound) b (worth R q) = λ q i. verdict_says e.bound b (worth R q) (t e r.is_held q i) r.decides in
          record { answer = f p r.has; own = r.has; alike = f; kept = t }
      visit_sound (by_move {p = p} {b = b} {i = i} {z = z} {w = w} {s = s} e l r h v k) t =
          let u = unsettled R p b e in
          let o = visit_sound v (moves_sound r t).1 in
          offered p b (R.counting p) (Z.pull p i s) z w u.asks (K.pull_own p i s h o.own) (pull_says p b i s h u.asks o.own o.alike) o.kept k
      visit_sound (by_cover {p = p} {b = b} {y = y} {z = z} {acc = acc} e l r k) t =
          let u = unsettled R p b e in
          let o = moves_sound r t in
          offered p b (not (R.counting p)) acc y z u.asks
          (rw o.0.is (cover_own p (R.moves p) o.0.through (omega arith) o.0.own))
          (cover_says p b acc u.live o.0) o.1 k

      pub moves_sound : {p : P} {b i : ℕ} {x : X} {acc : S} {y : X} {n : ℕ} → Tried R Z D p b i x acc y n → AllTrue R Z D x → Failed p b i acc × AllTrue R Z D y
      moves_sound (none_yet {p = p} {b = b}) t = (failed_none p b, t)
      moves_sound (one_more {p = p} {b = b} {i = i} {acc = acc} {s = s} r h v) t =
          let f = moves_sound r t in
          let o = visit_sound v f.1 in
          (failed_more p b i acc s f.0 o.own o.alike, o.kept)
