use Rattle.std.proofs.Common.{◌++◌, Some, None, sym, refl, ap, ◌∙◌, inl, inr}
use Rattle.std.proofs.lemmas.Slice.Eq.{strip_prefix_is, strip_suffix_is}
use Rattle.std.proofs.lemmas.List.{append_cancel_left}
use Rattle.std.proofs.lemmas.Result.{err_from_is_err_and}
use Rattle.kayles.specs.Boards.{row_few}
use Rattle.book.specs.BoardLines.{kayles_opening}
use Rattle.book.specs.Tags.{Tagged, closing}
use Rattle.book.proofs.Verdicts.{reads}
use Rattle.book.proofs.reader.read_line.Goals as goal
use Rattle.book.proofs.reader.read_line.Goals.{In-Some-strip_suffix}
use Rattle.std.proofs.lemmas.Bool.Decides.{Decides-eqb}

-- the line is its kayles_opening, the text and the closing
tagged : (c : In-Some-strip_suffix) → Tagged kayles_opening c.args.line.now c.in-Some-strip_suffix.text.now
tagged c =
    strip_prefix_is Decides-eqb c.args.line.now kayles_opening (Some c.in-Some.rest) c.in-Some.ensures.cases
    ∙ ap (λ l. kayles_opening ++ l) (strip_suffix_is Decides-eqb c.in-Some.rest.now closing (Some c.in-Some-strip_suffix.text) c.in-Some-strip_suffix.ensures.cases)

pub returns-in_default-strip_suffix : goal.returns-in_default-strip_suffix
returns-in_default-strip_suffix c =
    let head = strip_prefix_is Decides-eqb c.args.line.now kayles_opening (Some c.in-Some.rest) c.in-Some.ensures.cases in
    reads _ _ (inl (record {
      opened = (c.in-Some.rest.now, head);
      unclosed = λ text t. strip_suffix_is Decides-eqb c.in-Some.rest.now closing None c.in_default-strip_suffix.ensures.cases text (append_cancel_left kayles_opening _ _ (sym head ∙ t));
      fault = refl;
      place = refl;
    }))

pub returns-in_err-read_board : goal.returns-in_err-read_board
returns-in_err-read_board c =
    let p = err_from_is_err_and c.from_residual.result c.from_residual.ensures.1 in
    rw (p.1, p.2) (reads _ _ (inr (record {
      text = c.in-Some-strip_suffix.text.now;
      tagged = tagged (goal.at.returns-in_err-read_board c).In-Some-strip_suffix;
      first = c.in_err-read_board.ensures;
    })))

pub returns : goal.returns
returns c =
    reads _ _ (c.in-Some-strip_suffix.text.now, tagged (goal.at.returns c).In-Some-strip_suffix, c.in_ok-read_board.ensures, row_few c.in_ok-read_board.field-0)
