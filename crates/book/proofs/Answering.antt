-- One line more in the report; and a book has one report.
use Rattle.std.proofs.Common.{◌≡◌, ℕ, suc, ◌+◌, ◌<◌, List, [], ◌∷◌, ◌++◌, map, length, get_or, take, sym, refl, ap, ◌∙◌, subst, ap₂, append_assoc, append-nil, arith}
use Rattle.std.proofs.lemmas.List.{length-take-le, take_more}
use Rattle.book.specs.declared.line.Line.{Line}
use Rattle.kayles.specs.Runs.{RunsOf}
use Rattle.kayles.proofs.Sorting.{same_runs}
use Rattle.book.specs.Faults.{number}
use Rattle.book.specs.Lines.{plain}
use Rattle.book.specs.Reports.{Answered, passed, board, fault, AllAnswered, none, next, Report, too_long, answered, board_text, fault_text}
use Rattle.book.proofs.OneCut.{same_lines}
use Rattle.book.proofs.Verdicts.{board_opened, fault_opened, no_fault, same_board, same_fault}

pub answered_more : (n : ℕ) (ls : List Line) (out : List ℕ) (l : Line) (a : List ℕ) → AllAnswered n ls out → Answered (n + length ls) l.text.now a → AllAnswered n (ls ++ l ∷ []) (out ++ a)
answered_more n [] out l a none h =
    subst (AllAnswered n (l ∷ [])) (append-nil a) (next (subst (λ k. Answered k l.text.now a) (let e : n + 0 ≡ n = omega arith in e) h) none)
answered_more n (x ∷ ls) out l a (next {out = o} {rest = r} p q) h =
    subst (AllAnswered n (x ∷ (ls ++ l ∷ []))) (sym (append_assoc o r a))
    (next p (answered_more (suc n) ls r l a q (subst (λ k. Answered k l.text.now a) (let e : n + suc (length ls) ≡ suc n + length ls = omega arith in e) h)))

-- the turn of a loop over the lines
pub answered_turn : (ls : List Line) (i : ℕ) (d : Line) (out a : List ℕ) → i < length ls → AllAnswered 1 (take i ls) out → Answered (i + 1) (get_or ls i d).text.now a → AllAnswered 1 (take (i + 1) ls) (out ++ a)
answered_turn ls i d out a h q p =
    subst (λ x. AllAnswered 1 x (out ++ a)) (sym (take_more ls i d h))
    (answered_more 1 (take i ls) out (get_or ls i d) a q
    (subst (λ k. Answered k (get_or ls i d).text.now a) (let e : i + 1 ≡ 1 + length (take i ls) = omega (arith, length-take-le i ls (omega arith)) in e) p))

-- a line has one answer
same_answer : (n : ℕ) (line a b : List ℕ) → Answered n line a → Answered n line b → a ≡ b
same_answer n line a b (passed p) (passed q) = refl
same_answer n line a b (passed p) (board ps rs l r) = absurd (p (board_opened line ps l))
same_answer n line a b (passed p) (fault k c (f, e, l)) = absurd (p (fault_opened line f c l))
same_answer n line a b (board ps rs l r) (passed q) = absurd (q (board_opened line ps l))
same_answer n line a b (board ps rs l r) (board qs ss m s) =
    let e = same_board line ps qs l m in
    ap₂ (board_text n) e (same_runs qs rs ss (subst (λ x. RunsOf x rs) e r) s)
same_answer n line a b (board ps rs l r) (fault k c (f, e, m)) = absurd (no_fault line ps f c l m)
same_answer n line a b (fault k c (f, e, l)) (passed q) = absurd (q (fault_opened line f c l))
same_answer n line a b (fault k c (f, e, l)) (board ps rs m r) = absurd (no_fault line ps f c m l)
same_answer n line a b (fault k c (f, e, l)) (fault j d (g, h, m)) =
    let s = same_fault line f g c d l m in
    ap₂ (fault_text n) (sym e ∙ ap number s.0 ∙ h) s.1

same_answers : (n : ℕ) (ls ms : List Line) (a b : List ℕ) → map plain ls ≡ map plain ms → AllAnswered n ls a → AllAnswered n ms b → a ≡ b
same_answers n [] [] a b e none none = refl
same_answers n [] (m ∷ ms) a b e p q = absurd (omega (arith, ap length e))
same_answers n (l ∷ ls) [] a b e p q = absurd (omega (arith, ap length e))
same_answers n (l ∷ ls) (m ∷ ms) a b e (next {out = o} {rest = r} p q) (next {out = u} {rest = v} s t) =
    let first : plain l ≡ plain m = cc in
    let others : map plain ls ≡ map plain ms = cc in
    ap₂ ◌++◌
    (same_answer n m.text.now o u (subst (λ x. Answered n x o) (ap (λ x. x.0) first) p) s)
    (same_answers (suc n) ls ms r v others q t)

pub same_report : (book a b : List ℕ) → Report book a → Report book b → a ≡ b
same_report book a b (too_long h) (too_long k) = refl
same_report book a b (too_long h) (answered k ls l p) = absurd (omega arith)
same_report book a b (answered h ls l p) (too_long k) = absurd (omega arith)
same_report book a b (answered h ls l p) (answered k ms m q) = same_answers 1 ls ms a b (same_lines book ls ms l m) p q
