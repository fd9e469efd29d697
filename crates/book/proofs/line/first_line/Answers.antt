use Rattle.std.proofs.Common.{ℕ, List, [], ◌∷◌, get_or, Some, None, sym, refl, inl, inr, append-nil, ap, ◌∙◌, add-zero, arith, subst, false-eqb, Bor}
use Rattle.std.proofs.lemmas.List.{nil_from_length}
use Rattle.std.proofs.lemmas.Slice.Eq.{strip_suffix_is}
use Rattle.book.specs.declared.line.Ending.{Ending}
use Rattle.book.specs.declared.line.Line.{Line}
use Rattle.book.specs.Lines.{CR, FirstLine, TheFirstLine}
use Rattle.book.proofs.OneCut.{same_first_line}
use Rattle.book.proofs.Splits.{Cut, fed, first_cut}
use Rattle.book.proofs.line.first_line.Goals as goal
use Rattle.book.proofs.line.first_line.Goals.{After-split_at, in-Some-Some, in-Some-None, in-None-Some, in-None-None}
use Rattle.std.proofs.lemmas.Bool.Decides.{Decides-eqb}

-- what was found and split off
cut : (c : After-split_at) → Cut c.args.book.now c.split_at.result.0.now c.split_at.result.1.now
cut c =
    let parts = c.split_at.ensures in
    record {
      whole = parts.by_index.0;
      clean = λ k l e. c.feed_at.ensures.before k (omega (arith, parts.front_len)) (sym (parts.by_index.1 k 0 (omega (arith, parts.front_len))) ∙ e);
      feed = λ l. parts.by_index.2 0 0 ∙ ap (λ i. get_or c.args.book.now i 0) (add-zero c.feed_at.result) ∙ c.feed_at.ensures.here (omega (arith, parts.back_len));
      some = omega (arith, false-eqb _ 0 c.if-is_empty.ensures);
    }

the_only : {book rest : List ℕ} {l : Line} → FirstLine book l rest → TheFirstLine book l rest
the_only {book} {rest} {l} f = (f, λ m others g. same_first_line book m l others rest g f)

pub returns : goal.returns
returns c =
    let parts = cut (goal.at.returns c).After-split_at in
    let First = λ (t : Bor (List ℕ) × Ending × Bor (List ℕ)). FirstLine c.args.book.now (record { text = t.0; ending = t.1 }) t.2.now in
    let suffix = strip_suffix_is Decides-eqb c.split_at.result.0.now (CR ∷ []) in
    the_only (elim c.match-strip_suffix.branch [
      | in-Some-Some w ↦
          let v = w.in-Some-Some in
          subst First (sym w.ending-is) (first_cut parts _ _ (suffix (Some v.text) v.ensures.cases) (fed parts v.ensures'.cases.0) (inl tt) (λ f e. tt))
      | in-Some-None w ↦
          let v = w.in-Some-None in
          subst First (sym w.ending-is) (first_cut parts _ _ (suffix (Some v.text) v.ensures.cases) refl (inr (nil_from_length _ v.ensures'.cases)) (λ f e. tt))
      | in-None-Some w ↦
          let v = w.in-None-Some in
          subst First (sym w.ending-is) (first_cut parts _ _ (sym (append-nil _)) (fed parts v.ensures'.cases.0) (inl tt) (suffix None v.ensures.cases))
      | in-None-None w ↦
          let v = w.in-None-None in
          subst First (sym w.ending-is) (first_cut parts _ _ (sym (append-nil _)) refl (inr (nil_from_length _ v.ensures'.cases)) (suffix None v.ensures.cases))
    ])
