-- The text for a refusal, and for the runs of a board.
use Rattle.std.proofs.Common.{◌≡◌, ℕ, List, [], ◌∷◌, codes, decimal, refl, arith, append_assoc, ◌∙◌, Global, IfOk, Result, String, string_bytes, subst, sym}
use Rattle.std.specs.List.{concat}
use Rattle.std.specs.declared.alloc.AllocError.{AllocError}
use Rattle.std.proofs.lemmas.Result.{IfOk-weaker}
use Rattle.kayles.specs.declared.board.Pin.{Pin}
use Rattle.kayles.specs.declared.runs.Run.{Run}
use Rattle.kayles.specs.Rows.{upright}
use Rattle.kayles.specs.Runs.{RunsOf}
use Rattle.kayles.specs.Tallies.{all_runs}
use Rattle.kayles.specs.Laws.Counting.{together, together_runs}
use Rattle.kayles.proofs.Tallying.{runs_listed}
use Rattle.book.specs.declared.fault.Refusal.{Refusal}
use Rattle.book.specs.Faults.{number, refusal_text}
use Rattle.book.specs.Reports.{lengths_text, runs_text, fault_text}

-- what holds of a text holds of a string that has it
pub if_shown : (P : List ℕ → Type 0) (out : List ℕ) (r : Result (String Global) AllocError) → P out → IfOk r (λ s. string_bytes s ≡ out) → IfOk r (λ s. P (string_bytes s))
if_shown P out r p = IfOk-weaker r (λ s. string_bytes s ≡ out) (λ s. P (string_bytes s)) (λ s e. subst P (sym e) p)

-- a line with a fault, by its refusal
pub refused_text : (n : ℕ) (e : Refusal) → concat (codes "line " ∷ decimal n ∷ codes " " ∷ refusal_text e ∷ codes "\n" ∷ []) ≡ fault_text n (number e.fault) e.column
refused_text n e = simp append_assoc

none_shown : (ps : List Pin) (rs : List Run) → RunsOf ps rs → together rs ≡ 0 → codes " none" ≡ runs_text rs
unfolding together
none_shown ps [] l e = refl
none_shown ps (r ∷ rs) l e = absurd (omega (arith, (l.each 0 (omega arith)).some))

some_shown : (rs : List Run) → (together rs ≡ 0 → ⊥) → lengths_text rs ≡ runs_text rs
unfolding together
some_shown [] n = absurd (n refl)
some_shown (r ∷ rs) n = refl

-- runs are shown by a word where no pin stands, and else by their lengths
pub shown_none : (ps : List Pin) → upright ps ≡ 0 → codes " none" ≡ runs_text (all_runs ps)
shown_none ps e = none_shown ps (all_runs ps) (runs_listed ps) (together_runs ps ∙ e)

pub shown_some : (ps : List Pin) → (upright ps ≡ 0 → ⊥) → lengths_text (all_runs ps) ≡ runs_text (all_runs ps)
shown_some ps n = some_shown (all_runs ps) (λ e. n (omega (arith, together_runs ps)))
