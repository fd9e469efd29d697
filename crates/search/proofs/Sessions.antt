-- Every list of calls keeps what is promised.
use Rattle.std.proofs.Common.{◌≡◌, ℕ, suc, ◌+◌, ◌-◌, ◌<◌, ◌≤◌, min, Bool, not, ◌⊎◌, List, Some, None, Option, Ok, Err, inl, inr, refl, ap, ◌∙◌, subst, subst₂, arith, below_none, below_more}
use Rattle.std.proofs.lemmas.Bool.Decides.{nat_tests}
use Rattle.search.specs.declared.call.Answer.{Answer}
use Rattle.search.specs.declared.call.Call.{Call}
use Rattle.search.specs.declared.call.Call.TheVariants.{Query, Solve, Best}
use Rattle.search.specs.declared.call.CallError.{CallError}
use Rattle.search.specs.declared.call.Reply.TheVariants.{Answered}
use Rattle.search.specs.Bare.{bare_after, bare_from, bare_solve, bare_visits}
use Rattle.search.specs.Calls.{Accepted, Calls, Choosing, Does, Outcome, Solving, UnaidedChoosing, UnaidedSolving, chosen, done, first_no, go_on, later_one, next, past_top, queried, refusal, refused, solved, this_one, wiped}
use Rattle.search.specs.Games.{GameLaws, Legal, Live, Rules}
use Rattle.search.specs.Minimax.{IsMove, Says, comes_to, move, worth}
use Rattle.search.specs.Promises.{CallKept, EachKept, InTurn, Right, SessionKept, Thrifty, answers, best_over, best_short, chooses, first_two, later_two, query_short, solve_short, solves, wipes}
use Rattle.search.specs.Sets.{SetLaws, Sets}
use Rattle.search.specs.Tables.{AllTrue, Memory, MemoryLaws}
use Rattle.search.specs.Visits.{Unaided, Visit, aim, capped}
use Rattle.search.proofs.Soundness.{visit_sound}
use Rattle.search.proofs.Thrift.{visit_again, visit_one, visit_retains, visit_thrifty}
use Rattle.search.proofs.Worth.{one_move, worth_least, worth_most, worth_top}

-- Counts that are told, and sums.

capped_thrifty : {bare n : ℕ} {U : Type 0} → Thrifty bare n U → Thrifty (capped bare) (capped n) U
capped_thrifty t = record { most = omega (arith, t.most); equal = λ u. ap capped (t.equal u) }

sum_thrifty : {bare bare' n k : ℕ} {U V : Type 0} → Thrifty bare n U → Thrifty bare' k V → Thrifty (bare + bare') (n + k) (U × V)
sum_thrifty t u = record { most = omega (arith, t.most, u.most); equal = λ h. omega (arith, t.equal h.0, u.equal h.1) }

module _ {P : Type 0} (R : Rules P) where
  -- A call is accepted, or there is a reason to refuse it.
  pub refused_or_not : (c : Call P) → Accepted R c ⊎ ((e : CallError) × (refusal R c ≡ Some e))
  refused_or_not c = go (refusal R c)
    where
      go : (o : Option CallError) → (o ≡ None) ⊎ ((e : CallError) × (o ≡ Some e))
      go None = inl refl
      go (Some e) = inr (e, refl)

  -- An accepted call has the cells that its position wants.
  query_fits : (p : P) (b cells : ℕ) → Accepted R (Query p b cells) → R.height p ≤ cells
  query_fits p b cells e = grind (arith, nat_tests)

  solve_fits : (p : P) (cells : ℕ) → Accepted R (Solve p cells) → R.height p ≤ cells
  solve_fits p cells e = grind (arith, nat_tests)

  best_fits : (p : P) (cells : ℕ) → Accepted R (Best p cells) → R.height p ≤ cells
  best_fits p cells e = grind (arith, nat_tests)

  -- An accepted best has a position that is not ended.
  pub best_live : (p : P) (cells : ℕ) → Accepted R (Best p cells) → Live R p
  best_live p cells e = grind (arith, nat_tests)

module _ {P S : Type 0} (R : Rules P) (Z : Sets P S) (L : GameLaws R) (K : SetLaws R Z) where
  -- A move reaches the worth exactly if the query at its aim answers as the side to move wants.
  aim_reaches : (p : P) (i : ℕ) → Legal R p i → Says (R.counting p) (aim R p (worth R p) i) (worth R (R.after p i)) → comes_to R p i ≡ worth R p
  aim_reaches p i h s = grind (arith, worth_most R L p i, worth_least R L p i)

  aim_misses : (p : P) (i : ℕ) → Says (not (R.counting p)) (aim R p (worth R p) i) (worth R (R.after p i)) → comes_to R p i ≡ worth R p → ⊥
  aim_misses p i s e = grind arith

  -- No move before number i reaches the worth.
  abbrev pub Missed : P → ℕ → Type 0
  Missed p i = (j : ℕ) → j < i → comes_to R p j ≡ worth R p → ⊥

  pub missed_more : (p : P) (w i : ℕ) → w ≡ worth R p → Missed p i → Says (not (R.counting p)) (aim R p w i) (worth R (R.after p i)) → Missed p (suc i)
  missed_more p w i e f s j l =
      below_more (λ j. comes_to R p j ≡ worth R p → ⊥) i f (aim_misses p i (rw e at s)) j (omega arith)

  module _ {X : Type 0} (D : Memory P S X) (E : MemoryLaws Z D) where
    refusal_right : (c : Call P) (e : CallError) → refusal R c ≡ Some e → Right R Z D c (Err e)
    refusal_right c e h = grind (arith, nat_tests, query_short, solve_short, best_short, best_over)

    -- Queries from b on, where the worth is b - 1 at least, find it; of the bare searches at these bounds there are l.
    pub solving : {p : P} {b : ℕ} {x : X} {w : ℕ} {y : X} {n : ℕ} (k : Solving R Z D p b x w y n) → 0 < b → b - 1 ≤ worth R p → AllTrue R Z D x → (l : ℕ) → l ≡ min (R.top p) (worth R p + 1) + 1 - b → (w ≡ worth R p) × AllTrue R Z D y × Thrifty (bare_from (bare_visits R p) l b) n (UnaidedSolving R Z D k)
    unfolding bare_from
    solving (past_top {p = p} h) hb hw t l e =
        let d : l ≡ 0 = omega arith in
        rw d (omega (arith, worth_top R L p), t, record { most = omega arith; equal = λ _. refl })
    solving (first_no {p = p} h v) hb hw t l e =
        let o = visit_sound R Z L K D E v t in
        let c = visit_thrifty R Z L K D E v t in
        let d : l ≡ suc 0 = omega (arith, o.answer) in
        rw d (omega (arith, o.answer), o.kept, record { most = omega (arith, c.most); equal = λ u. omega (arith, c.equal u) })
    solving (go_on {p = p} h v k) hb hw t l e =
        let o = visit_sound R Z L K D E v t in
        let r = solving k (omega arith) (omega (arith, o.answer)) o.kept (l - 1) (omega (arith, o.answer)) in
        let d : l ≡ suc (l - 1) = omega (arith, o.answer) in
        rw d (r.0, r.1, sum_thrifty (visit_thrifty R Z L K D E v t) r.2)

    pub solve_kept : {p : P} {x : X} {w : ℕ} {y : X} {n : ℕ} (k : Solving R Z D p 1 x w y n) → AllTrue R Z D x → (w ≡ worth R p) × AllTrue R Z D y × Thrifty (bare_solve R p) n (UnaidedSolving R Z D k)
    solve_kept {p = p} k t = solving k (omega arith) (omega arith) t (min (R.top p) (worth R p + 1)) (omega arith)

    -- Queries after move i and so on, where no move before reaches the worth, find the move.
    choosing : {p : P} {w i : ℕ} {x : X} {m : ℕ} {y : X} {n : ℕ} (k : Choosing R Z D p w i x m y n) → w ≡ worth R p → Missed p i → AllTrue R Z D x → IsMove R p m × AllTrue R Z D y × (i ≤ m) × Thrifty (bare_from (bare_after R p) (suc m - i) i) n (UnaidedChoosing R Z D k)
    unfolding bare_from bare_after
    choosing (this_one {p = p} {w = w} {i = i} {n = n} h v) e f t =
        let o = visit_sound R Z L K D E v t in
        let c = subst (λ w. Thrifty (bare_visits R (R.after p i) (aim R p w i)) n (Unaided R Z D v)) e (visit_thrifty R Z L K D E v t) in
        let d : suc i - i ≡ suc 0 = omega arith in (
          record { legal = h; reaches = aim_reaches p i h (rw e at o.answer); first = f },
          o.kept,
          omega arith,
          rw d (record { most = omega (arith, c.most); equal = λ u. omega (arith, c.equal u) }),
        )
    choosing (later_one {p = p} {w = w} {i = i} {m = m} {n = n} h v k) e f t =
        let o = visit_sound R Z L K D E v t in
        let c = subst (λ w. Thrifty (bare_visits R (R.after p i) (aim R p w i)) n (Unaided R Z D v)) e (visit_thrifty R Z L K D E v t) in
        let r = choosing k e (missed_more p w i e f o.answer) o.kept in
        let d : suc m - i ≡ suc (suc m - suc i) = omega (arith, r.2) in
        (r.0, r.1, omega (arith, r.2), rw d (sum_thrifty c r.3))

    pub call_kept : {c : Call P} {x : X} {r : Outcome} {y : X} → (d : Does R Z D c x r y) → AllTrue R Z D x → CallKept R Z D c x r y d
    call_kept (refused {c = c} {x = x} {e = e} h) t = record {
      right = refusal_right c e h;
      true_after = t;
      blank_after = λ q. absurd (cc (rw q at h));
      counts = tt;
    }
    call_kept (queried {p = p} {b = b} {cells = cells} h v) t =
        let o = visit_sound R Z L K D E v t in
        let f = visit_one R Z L K D E v in
        record {
          right = answers (query_fits R p b cells h) o.answer;
          true_after = o.kept;
          blank_after = λ q. absurd (cc);
          counts = (capped_thrifty (visit_thrifty R Z L K D E v t), (λ e. f.0 (omega arith), λ i. omega (arith, f.1 i)));
        }
    call_kept (solved {p = p} {cells = cells} h k) t =
        let o = solve_kept k t in
        record { right = solves (solve_fits R p cells h) o.0; true_after = o.1; blank_after = λ q. absurd (cc); counts = capped_thrifty o.2 }
    call_kept (chosen {p = p} {cells = cells} {m = m} h k l) t =
        let o = solve_kept k t in
        let w = choosing l o.0 (below_none _) o.1 in
        let d : suc m - 0 ≡ move R p + 1 = omega (arith, one_move R L p m w.0) in
        record {
          right = chooses (best_fits R p cells h) o.0 w.0;
          true_after = w.1;
          blank_after = λ q. absurd (cc);
          counts = capped_thrifty (sum_thrifty o.2 (rw d at w.3));
        }
    call_kept (wiped {x = x} {y = y} w) t = record { right = wipes; true_after = λ e h. absurd (E.wipe_clears x y w e h); blank_after = λ _. E.wipe_clears x y w; counts = tt }

    -- The visit that an accepted query made.
    abbrev Made : P → ℕ → X → ℕ → X → Type 0
    Made p b x told y = (a : Bool) × (s : S) × (n : ℕ) × Visit R Z D p b x a s y n × (told ≡ capped n)

    query_made : {c : Call P} {x : X} {r : Outcome} {y : X} → Does R Z D c x r y → (p : P) (b k : ℕ) (a : Answer) → c ≡ Query p b k → r ≡ Ok (Answered a) → Made p b x a.visits y
    query_made (refused e) p b k a ec er = absurd (cc)
    query_made (queried {p = p'} {b = b'} {x = x} {y = y} {a = a'} {s = s} {n = n} e v) p b k a ec er =
        let ep : p' ≡ p = cc in
        let eb : b' ≡ b = cc in
        let told : a.visits ≡ capped n = cc in
        (a', s, n, subst₂ (λ p b. Visit R Z D p b x a' s y n) ep eb v, told)
    query_made (solved e k) p b l a ec er = absurd (cc)
    query_made (chosen e k l) p b j a ec er = absurd (cc)
    query_made (wiped w) p b k a ec er = absurd (cc)

    -- Of two queries alike, one straight after the other, the second takes one visit.
    abbrev Repeat : Call P → Outcome → Call P → Outcome → Type 0
    Repeat c r c' r' = (p : P) (b k k' : ℕ) (a a' : Answer) → c ≡ Query p b k → r ≡ Ok (Answered a) → c' ≡ Query p b k' → r' ≡ Ok (Answered a') → a'.visits ≡ 1

    repeat_kept : {c : Call P} {x : X} {r : Outcome} {y : X} {c' : Call P} {r' : Outcome} {z : X} → Does R Z D c x r y → Does R Z D c' y r' z → D.retains x → AllTrue R Z D x → Repeat c r c' r'
    repeat_kept d d' h t = λ p b k k' a a' ec er ec' er'.
        let v = query_made d p b k a ec er in
        let w = query_made d' p b k' a' ec' er' in
        w.4 ∙ ap capped (visit_again R Z L K D E v.3 w.3 h t)

    solving_retains : {p : P} {b : ℕ} {x : X} {w : ℕ} {y : X} {n : ℕ} → Solving R Z D p b x w y n → D.retains x → D.retains y
    solving_retains (past_top h) r = r
    solving_retains (first_no h v) r = visit_retains R Z L K D E v r
    solving_retains (go_on h v k) r = solving_retains k (visit_retains R Z L K D E v r)

    choosing_retains : {p : P} {w i : ℕ} {x : X} {m : ℕ} {y : X} {n : ℕ} → Choosing R Z D p w i x m y n → D.retains x → D.retains y
    choosing_retains (this_one h v) r = visit_retains R Z L K D E v r
    choosing_retains (later_one h v k) r = choosing_retains k (visit_retains R Z L K D E v r)

    call_retains : {c : Call P} {x : X} {r : Outcome} {y : X} → Does R Z D c x r y → D.retains x → D.retains y
    call_retains (refused e) h = h
    call_retains (queried e v) h = visit_retains R Z L K D E v h
    call_retains (solved e k) h = solving_retains k h
    call_retains (chosen e k l) h = choosing_retains l (solving_retains k h)
    call_retains (wiped {x = x} {y = y} w) h = E.retain_wipes x y h w

    each_kept : {x : X} {cs : List (Call P)} {rs : List Outcome} {y : X} → (k : Calls R Z D x cs rs y) → AllTrue R Z D x → EachKept R Z D k
    each_kept done t = tt
    each_kept (next d k) t = let o = call_kept d t in (o, each_kept k o.true_after)

    repeats_kept : {cs : List (Call P)} {rs : List Outcome} {c : Call P} {r : Outcome} {c' : Call P} {r' : Outcome} → InTurn cs rs c r c' r' → {x y : X} → Calls R Z D x cs rs y → D.retains x → AllTrue R Z D x → Repeat c r c' r'
    repeats_kept first_two (next d (next d' k)) h t = repeat_kept d d' h t
    repeats_kept (later_two i) (next d k) h t = repeats_kept i k (call_retains d h) (call_kept d t).true_after

    pub session_kept : (x y z : X) (cs : List (Call P)) (rs : List Outcome) → D.wipes x y → (k : Calls R Z D y cs rs z) → SessionKept R Z D x y z cs rs k
    session_kept x y z cs rs w k =
        let blank = E.wipe_clears x y w in
        let t : AllTrue R Z D y = λ e h. absurd (blank e h) in
        record { opened = blank; each = each_kept k t; repeats = λ h p b c c' a a' i. repeats_kept i k (E.retain_wipes x y h w) t p b c c' a a' refl refl refl refl }
