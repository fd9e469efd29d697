-- Every visit and every list of calls can be made and ends. Over the table that holds nothing a visit is the bare search.
use Rattle.std.proofs.Common.{◌≡◌, ℕ, zero, suc, ◌+◌, Bool, not, List, [], ◌∷◌, Some, None, Option, sym, refl, subst₂, inl, inr, arith, below_none}
use Rattle.std.proofs.lemmas.Bool.{cases_Bool}
use Rattle.search.specs.declared.call.Call.{Call}
use Rattle.search.specs.declared.call.Call.TheVariants.{Query, Solve, Best, Wipe}
use Rattle.search.specs.declared.call.CallError.{CallError}
use Rattle.search.specs.declared.entry.Entry.{Entry}
use Rattle.search.specs.Bare.{Bare, bare, bare_visits, nothing_held}
use Rattle.search.specs.Calls.{Calls, Choosing, Does, Outcome, Solving, chosen, done, first_no, go_on, later_one, next, past_top, queried, refusal, refused, solved, this_one, wiped}
use Rattle.search.specs.Entries.{offer}
use Rattle.search.specs.Games.{GameLaws, Legal, Live, Rules}
use Rattle.search.specs.Minimax.{worth}
use Rattle.search.specs.Promises.{BareRight, SessionsRight, VisitsRight}
use Rattle.search.specs.Sets.{SetLaws, Sets}
use Rattle.search.specs.Tables.{AllTrue, Memory, MemoryLaws}
use Rattle.search.specs.Visits.{Tried, Unaided, UnaidedMoves, Visit, at_once, by_cover, by_move, none_yet, one_more, remembered, rest_of, settled, aim}
use Rattle.search.proofs.BareSearch.{bare_says, same_or_not, says_one}
use Rattle.search.proofs.Sessions.{Missed, best_live, call_kept, missed_more, session_kept, solve_kept}
use Rattle.search.proofs.Soundness.{visit_sound}
use Rattle.search.proofs.Thrift.{visit_again, visit_one, visit_thrifty}
use Rattle.search.proofs.Worth.{by_height, worth_some}

module _ {P S : Type 0} (R : Rules P) (Z : Sets P S) (L : GameLaws R) {X : Type 0} (D : Memory P S X) (E : MemoryLaws Z D) where
  -- A visit of p at b that finds the table x.
  abbrev Made : P → ℕ → X → Type 0
  Made p b x = (a : Bool) × (s : S) × (y : X) × (n : ℕ) × Visit R Z D p b x a s y n

  moves_end : (l : ℕ) (p : P) (b i : ℕ) (x : X) (acc : S) (y : X) (n : ℕ) → settled R p b ≡ None → D.looks x p b None → ((j : ℕ) → Legal R p j → (c : ℕ) (z : X) → Made (R.after p j) c z) → i + l ≡ R.moves p → Tried R Z D p b i x acc y n → Made p b x
  moves_end zero p b i x acc y n e u f h t =
      let d : i ≡ R.moves p = omega arith in
      let k = E.kept y (offer acc (not (R.counting p)) b) in
      (_, _, _, _, by_cover e u (rw d at t) k.1)
  moves_end (suc l) p b i x acc y n e u f h t =
      let legal : Legal R p i = omega arith in
      let v = f i legal (rest_of R p b i) y in
      elim (same_or_not v.0 (R.counting p)) [
        | inl d ↦ (let k = E.kept v.2 (offer (Z.pull p i v.1) (R.counting p) b) in (_, _, _, _, by_move e u t legal (rw d at v.4) k.1))
        | inr d ↦ moves_end l p b (suc i) x _ _ _ e u f (omega arith) (one_more t legal (rw d at v.4))
      ]

  made : (p : P) (b : ℕ) (x : X) (o : Option Bool) → settled R p b ≡ o → (u : Option (Entry S)) → D.looks x p b u → ((j : ℕ) → Legal R p j → (c : ℕ) (z : X) → Made (R.after p j) c z) → Made p b x
  made p b x (Some a) e u l f = (_, _, _, _, at_once e)
  made p b x None e (Some d) l f = (_, _, _, _, remembered e l)
  made p b x None e None l f = moves_end (R.moves p) p b 0 x (Z.broad p) x 0 e l f (omega arith) none_yet

  pub visit_ends : (p : P) (b : ℕ) (x : X) → (a : Bool) × (s : S) × (y : X) × (n : ℕ) × Visit R Z D p b x a s y n
  visit_ends =
      by_height R L (λ p. (b : ℕ) (x : X) → Made p b x)
      (λ p f b x. let u = E.looked x p b in made p b x (settled R p b) refl u.0 u.1 f)

  solving_ends : (l : ℕ) (p : P) (b : ℕ) (x : X) → b + l ≡ suc (R.top p) → (w : ℕ) × (y : X) × (n : ℕ) × Solving R Z D p b x w y n
  solving_ends zero p b x h = (_, _, _, past_top (omega arith))
  solving_ends (suc l) p b x h =
      let v = visit_ends p b x in
      elim (cases_Bool v.0) [
        | inl d ↦ (let r = solving_ends l p (suc b) v.2 (omega arith) in (_, _, _, go_on (omega arith) (rw d at v.4) r.3))
        | inr d ↦ (_, _, _, first_no (omega arith) (rw d at v.4))
      ]

  module _ (K : SetLaws R Z) where
    -- Some move reaches the worth, so the search for it ends.
    choosing_ends : (l : ℕ) (p : P) (w i : ℕ) (x : X) → i + l ≡ R.moves p → Live R p → w ≡ worth R p → Missed R Z L K p i → AllTrue R Z D x → (m : ℕ) × (y : X) × (n : ℕ) × Choosing R Z D p w i x m y n
    choosing_ends zero p w i x h live e f t = let r = worth_some R L p live in absurd (f r.0 (omega (arith, r.1)) (sym r.2))
    choosing_ends (suc l) p w i x h live e f t =
        let legal : Legal R p i = omega arith in
        let v = visit_ends (R.after p i) (aim R p w i) x in
        elim (same_or_not v.0 (R.counting p)) [
          | inl d ↦ (_, _, _, this_one legal (rw d at v.4))
          | inr d ↦ (
              let u = rw d at v.4 in
              let o = visit_sound R Z L K D E u t in
              let r = choosing_ends l p w (suc i) v.2 (omega arith) live e (missed_more R Z L K p w i e f o.answer) o.kept in
              (_, _, _, later_one legal u r.3))
        ]

    call_ends : (c : Call P) (o : Option CallError) → refusal R c ≡ o → (x : X) → AllTrue R Z D x → (r : Outcome) × (y : X) × Does R Z D c x r y
    call_ends c (Some e) q x t = (_, _, refused q)
    call_ends (Query p b cells) None q x t = let v = visit_ends p b x in (_, _, queried q v.4)
    call_ends (Solve p cells) None q x t = let k = solving_ends (R.top p) p 1 x (omega arith) in (_, _, solved q k.3)
    call_ends (Best p cells) None q x t =
        let k = solving_ends (R.top p) p 1 x (omega arith) in
        let o = solve_kept R Z L K D E k.3 t in
        let m = choosing_ends (R.moves p) p k.0 0 k.1 (omega arith) (best_live R p cells q) o.0 (below_none _) o.1 in
        (_, _, chosen q k.3 m.3)
    call_ends Wipe None q x t = let w = E.wiped x in (_, _, wiped w.1)

    calls_end : (cs : List (Call P)) (x : X) → AllTrue R Z D x → (rs : List Outcome) × (z : X) × Calls R Z D x cs rs z
    calls_end [] x t = (_, _, done)
    calls_end (c ∷ cs) x t =
        let d = call_ends c (refusal R c) refl x t in
        let k = calls_end cs d.1 (call_kept R Z L K D E d.2 t).true_after in
        (_, _, next d.2 k.2)

    pub session_ends : (x : X) (cs : List (Call P)) → (y : X) × (rs : List Outcome) × (z : X) × D.wipes x y × Calls R Z D y cs rs z
    session_ends x cs =
        let w = E.wiped x in
        let k = calls_end cs w.0 (λ e h. absurd (E.wipe_clears x w.0 w.1 e h)) in
        (w.0, k.0, k.1, w.1, k.2)

    pub visits_right : VisitsRight R Z D
    visits_right = record {
      sound = λ p b x a s y n t v. visit_sound R Z L K D E v t;
      thrifty = λ p b x a s y n t v. (visit_thrifty R Z L K D E v t, visit_one R Z L K D E v);
      repeat = λ p b x a s y n c u z m h t v w. visit_again R Z L K D E v w h t;
      end = visit_ends;
    }

    pub sessions_right : SessionsRight R Z D
    sessions_right = record { kept = session_kept R Z L K D E; end = session_ends }

nothing_laws : {P S : Type 0} (Z : Sets P S) → MemoryLaws Z nothing_held
nothing_laws Z = record {
  looked = λ x p b. (None, refl);
  kept = λ x e. (tt, tt);
  wiped = λ x. (tt, tt);
  look_some = λ x p b e h. absurd (cc);
  look_none = λ x p b h d. d.1.is_held;
  keep_adds = λ x e y f k h. absurd h;
  wipe_clears = λ x y w e h. h;
  retain_holds = λ x e y r k. r;
  retain_keeps = λ x e y r k. r;
  retain_wipes = λ x y r w. r;
}

module _ {P S : Type 0} (R : Rules P) (Z : Sets P S) (L : GameLaws R) (K : SetLaws R Z) where
  nothing_true : AllTrue R Z nothing_held tt
  nothing_true = λ e h. absurd h

  mutual
    nothing_aids : {p : P} {b : ℕ} {x : Unit {0}} {a : Bool} {s : S} {y : Unit {0}} {n : ℕ} → (v : Visit R Z nothing_held p b x a s y n) → Unaided R Z nothing_held v
    nothing_aids (at_once e) = λ e h. h
    nothing_aids (remembered u l) = λ e h. h
    nothing_aids (by_move e l r h v k) = (λ e h. h, nothing_aids_moves r, nothing_aids v)
    nothing_aids (by_cover e l r k) = (λ e h. h, nothing_aids_moves r)

    nothing_aids_moves : {p : P} {b i : ℕ} {x : Unit {0}} {acc : S} {y : Unit {0}} {n : ℕ} → (r : Tried R Z nothing_held p b i x acc y n) → UnaidedMoves R Z nothing_held r
    nothing_aids_moves none_yet = tt
    nothing_aids_moves (one_more r h v) = (nothing_aids_moves r, nothing_aids v)

  bare_only : (p : P) (b : ℕ) (a : Bool) (n : ℕ) → Bare R Z p b a n → (a ≡ (bare R p b).0) × (n ≡ bare_visits R p b)
  bare_only p b a n v = (
    says_one _ _ _ _ (visit_sound R Z L K nothing_held (nothing_laws Z) v.1 nothing_true).answer (bare_says R L Z K p b),
    (visit_thrifty R Z L K nothing_held (nothing_laws Z) v.1 nothing_true).equal (nothing_aids v.1),
  )

  bare_visit : (p : P) (b : ℕ) → Bare R Z p b (bare R p b).0 (bare_visits R p b)
  bare_visit p b =
      let v = visit_ends R Z L nothing_held (nothing_laws Z) p b tt in
      let o = bare_only p b v.0 v.3 (v.1, v.4) in
      subst₂ (Bare R Z p b) o.0 o.1 (v.1, v.4)

  pub bare_right : BareRight R Z
  bare_right = record { answer = bare_says R L Z K; visit = bare_visit; only = bare_only }
