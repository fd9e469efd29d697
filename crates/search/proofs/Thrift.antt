-- The visits made, held to those of the bare search.
use Rattle.std.proofs.Common.{◌≡◌, ℕ, suc, ◌+◌, ◌-◌, ◌<◌, ◌≤◌, Bool, not, ◌↔◌, None, refl, inl, inr, arith}
use Rattle.search.specs.Bare.{bare_visits}
use Rattle.search.specs.Entries.{Decisive, bound_of, offer}
use Rattle.search.specs.Games.{GameLaws, Rules}
use Rattle.search.specs.Promises.{Immediate, Thrifty}
use Rattle.search.specs.Sets.{In, SetLaws, Sets}
use Rattle.search.specs.Tables.{AllTrue, Memory, MemoryLaws}
use Rattle.search.specs.Visits.{Tried, Unaided, UnaidedMoves, Visit, at_once, by_cover, by_move, none_yet, one_more, remembered, settled}
use Rattle.search.proofs.BareSearch.{bare_open, bare_settled, bare_some, left, left_goes_on, left_none, left_stops}
use Rattle.search.proofs.Soundness.{moves_sound, unsettled, visit_sound}

-- What a visit offers decides the same question.
offer_decides : (a : Bool) (b : ℕ) → 0 < b → Decisive (bound_of a b) b
offer_decides a b h = grind arith

module _ {P S : Type 0} (R : Rules P) (Z : Sets P S) (L : GameLaws R) (K : SetLaws R Z) {X : Type 0} (D : Memory P S X) (E : MemoryLaws Z D) where
  mutual
    -- A visit makes no more visits than the bare search, and trying moves no more than the bare search of these moves; as many,
    -- where the table holds no entry at any visit.
    pub visit_thrifty : {p : P} {b : ℕ} {x : X} {a : Bool} {s : S} {y : X} {n : ℕ} (v : Visit R Z D p b x a s y n) → AllTrue R Z D x → Thrifty (bare_visits R p b) n (Unaided R Z D v)
    visit_thrifty (at_once {p = p} {b = b} {a = a} e) t =
        let c = bare_settled R L p b a e in
        record { most = omega arith; equal = λ _. omega arith }
    visit_thrifty (remembered {p = p} {b = b} {x = x} {e = f} u l) t = record { most = bare_some R L p b; equal = λ h. absurd (h f (E.look_some x p b f l).is_held) }
    visit_thrifty (by_move {p = p} {b = b} {i = i} e l r h v k) t =
        let t' = (moves_sound R Z L K D E r t).1 in
        let o = visit_sound R Z L K D E v t' in
        let w = visit_thrifty v t' in
        let z = moves_thrifty r t (suc (R.moves p - suc i)) (omega arith) in
        let c = bare_open R L p b e in
        let d = left_stops R L Z K p b (R.moves p - suc i) i o.answer in
        record { most = omega (arith, w.most, z.most); equal = λ u. omega (arith, w.equal u.2, z.equal u.1) }
    visit_thrifty (by_cover {p = p} {b = b} e l r k) t =
        let z = moves_thrifty r t 0 (omega arith) in
        let c = bare_open R L p b e in
        let d = left_none R L p b (R.moves p) in
        record { most = omega (arith, z.most); equal = λ u. omega (arith, z.equal u.1) }

    moves_thrifty : {p : P} {b i : ℕ} {x : X} {acc : S} {y : X} {n : ℕ} (r : Tried R Z D p b i x acc y n) → AllTrue R Z D x → (l : ℕ) → i + l ≡ R.moves p → Thrifty (left R L p b (R.moves p) 0) (n + left R L p b l i) (UnaidedMoves R Z D r)
    moves_thrifty (none_yet {p = p} {b = b}) t l e =
        let d : R.moves p ≡ l = omega arith in
        rw d (record { most = omega arith; equal = λ _. omega arith })
    moves_thrifty (one_more {p = p} {b = b} {i = i} r h v) t l e =
        let t' = (moves_sound R Z L K D E r t).1 in
        let o = visit_sound R Z L K D E v t' in
        let w = visit_thrifty v t' in
        let z = moves_thrifty r t (suc l) (omega arith) in
        let d = left_goes_on R L Z K p b l i o.answer in
        record { most = omega (arith, w.most, z.most); equal = λ u. omega (arith, w.equal u.1, z.equal u.0) }

  -- A visit counts itself, and each move tried has a visit.
  visit_some : {p : P} {b : ℕ} {x : X} {a : Bool} {s : S} {y : X} {n : ℕ} → Visit R Z D p b x a s y n → 1 ≤ n
  visit_some (at_once e) = omega arith
  visit_some (remembered u l) = omega arith
  visit_some (by_move e l r h v k) = omega arith
  visit_some (by_cover e l r k) = omega arith

  moves_some : {p : P} {b i : ℕ} {x : X} {acc : S} {y : X} {n : ℕ} → Tried R Z D p b i x acc y n → i ≤ n
  moves_some none_yet = omega arith
  moves_some (one_more r h v) = omega (arith, moves_some r, visit_some v)

  not_immediate : (p : P) (b : ℕ) (x : X) → settled R p b ≡ None → D.looks x p b None → Immediate R Z D p b x → ⊥
  not_immediate p b x e l (inl a) = absurd (cc a.1)
  not_immediate p b x e l (inr d) = E.look_none x p b l d

  pub visit_one : {p : P} {b : ℕ} {x : X} {a : Bool} {s : S} {y : X} {n : ℕ} → Visit R Z D p b x a s y n → (n ≡ 1) ↔ Immediate R Z D p b x
  visit_one (at_once {a = a} e) = (λ _. inl (a, e), λ _. refl)
  visit_one (remembered {p = p} {b = b} {x = x} {e = f} u l) = (λ _. inr (f, E.look_some x p b f l), λ _. refl)
  visit_one (by_move {p = p} {b = b} {x = x} e l r j v k) = (λ h. absurd (omega (arith, visit_some v)), λ h. absurd (not_immediate p b x e l h))
  visit_one (by_cover {p = p} {b = b} {x = x} e l r k) = (λ h. absurd (omega (arith, moves_some r, (unsettled R p b e).live)), λ h. absurd (not_immediate p b x e l h))

  -- Keeping one entry after another, the table goes on to retain.
  mutual
    pub visit_retains : {p : P} {b : ℕ} {x : X} {a : Bool} {s : S} {y : X} {n : ℕ} → Visit R Z D p b x a s y n → D.retains x → D.retains y
    visit_retains (at_once e) h = h
    visit_retains (remembered u l) h = h
    visit_retains (by_move {z = z} {w = w} e l r j v k) h = E.retain_keeps z _ w (visit_retains v (moves_retain r h)) k
    visit_retains (by_cover {y = y} {z = z} e l r k) h = E.retain_keeps y _ z (moves_retain r h) k

    moves_retain : {p : P} {b i : ℕ} {x : X} {acc : S} {y : X} {n : ℕ} → Tried R Z D p b i x acc y n → D.retains x → D.retains y
    moves_retain none_yet h = h
    moves_retain (one_more r j v) h = visit_retains v (moves_retain r h)

  -- What was offered last and is retained decides the same visit.
  offered_immediate : (p : P) (b : ℕ) (a : Bool) (s : S) (y z : X) → settled R p b ≡ None → In Z s p → D.retains y → D.keeps y (offer s a b) z → Immediate R Z D p b z
  offered_immediate p b a s y z e i h k =
      inr (offer s a b, record { is_held = E.retain_holds y (offer s a b) z h k; has = i; decides = offer_decides a b (unsettled R p b e).asks })

  -- After a visit over a table that retains, the same visit is immediate.
  visited_immediate : {p : P} {b : ℕ} {x : X} {a : Bool} {s : S} {y : X} {n : ℕ} → Visit R Z D p b x a s y n → D.retains x → AllTrue R Z D x → Immediate R Z D p b y
  visited_immediate (at_once {a = a} e) h t = inl (a, e)
  visited_immediate (remembered {p = p} {b = b} {x = x} {e = f} u l) h t = inr (f, E.look_some x p b f l)
  visited_immediate (by_move {p = p} {b = b} {i = i} {z = z} {w = w} {s = s} e l r j v k) h t =
      offered_immediate p b (R.counting p) (Z.pull p i s) z w e (visit_sound R Z L K D E (by_move e l r j v k) t).own (visit_retains v (moves_retain r h)) k
  visited_immediate (by_cover {p = p} {b = b} {y = y} {z = z} {acc = acc} e l r k) h t =
      offered_immediate p b (not (R.counting p)) acc y z e (visit_sound R Z L K D E (by_cover e l r k) t).own (moves_retain r h) k

  pub visit_again : {p : P} {b : ℕ} {x : X} {a c : Bool} {s u : S} {y z : X} {n m : ℕ} → Visit R Z D p b x a s y n → Visit R Z D p b y c u z m → D.retains x → AllTrue R Z D x → m ≡ 1
  visit_again v w h t = (visit_one w).1 (visited_immediate v h t)
