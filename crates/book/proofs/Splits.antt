-- A book, cut at its first line feed.
use Rattle.std.proofs.Common.{◌≡◌, ℕ, ◌<◌, ◌⊎◌, List, [], ◌∷◌, ◌++◌, length, get_or, sym, ap, ◌∙◌, ap₂, inl, inr, ⊎_elim, append_assoc, append-nil, arith, length-append}
use Rattle.std.specs.List.{All, flat_map}
use Rattle.std.proofs.lemmas.List.{get_or_append_left, flat_map_more}
use Rattle.std.proofs.lemmas.List.Elements.{All-head, All-push, All-tail}
use Rattle.book.specs.declared.line.Line.{Line}
use Rattle.book.specs.Lines.{LF, CR, IsLine, Fed, Returned, WellEnded, LinesOf, FirstLine, whole}
use Rattle.book.proofs.OneCut.{feeds, fed_some, front, returns, whole_is}

-- the body up to the first line feed or the book's end, and the tail from there on
pub record Cut (book body tail : List ℕ) : Type 0 where
  pub whole : book ≡ body ++ tail
  pub clean : (k : ℕ) → k < length body → get_or body k 0 ≡ LF → ⊥
  pub feed : 0 < length tail → get_or tail 0 0 ≡ LF
  pub some : 0 < length book

module _ {book body tail : List ℕ} (c : Cut book body tail) where
  pub fed : {x : ℕ} {rest : List ℕ} → tail ≡ x ∷ rest → tail ≡ LF ∷ rest
  fed {x} {rest} e = e ∙ ap (λ y. y ∷ rest) (sym (ap (λ l. get_or l 0 0) e) ∙ c.feed (omega (arith, ap length e)))

  -- a line whose text and ending were cut off, with its carriage return before the cut and its line feed after it
  pub first_cut : (l : Line) (rest : List ℕ) → body ≡ front l → tail ≡ feeds l.ending ++ rest → Fed l.ending ⊎ (rest ≡ []) → ((f : List ℕ) → l.text.now ≡ f ++ CR ∷ [] → Returned l.ending) → FirstLine book l rest
  first_cut l rest b t ends stripped = record {
    together = together;
    is_line = record { unbroken = unbroken; stripped = stripped };
    some = some ends;
    ends = ends;
  }
    where
      together : whole l ++ rest ≡ book
      together = whole_is l rest ∙ sym (ap₂ ◌++◌ b t) ∙ sym c.whole

      unbroken : (k : ℕ) → k < length l.text.now → get_or l.text.now k 0 ≡ LF → ⊥
      unbroken k h f =
          c.clean k (omega (arith, ap length b, length-append l.text.now (returns l.ending))) (ap (λ x. get_or x k 0) b ∙ get_or_append_left l.text.now (returns l.ending) 0 k h ∙ f)

      some : Fed l.ending ⊎ (rest ≡ []) → 0 < length (whole l)
      some (inl f) = fed_some l f
      some (inr e) = omega (arith, ap length together, length-append (whole l) rest, ap length e, c.some)

-- a line that ends in a line feed
abbrev pub FedLine : Line → Type 0
FedLine l = IsLine l × Fed l.ending

well_ended_more : (ls : List Line) (l : Line) → All FedLine ls → IsLine l → 0 < length (whole l) → WellEnded (ls ++ l ∷ [])
well_ended_more [] l a i s = (i, inr s)
well_ended_more (x ∷ ls) l a i s = go ls (All-head FedLine x ls a) (well_ended_more ls l (All-tail FedLine x ls a) i s)
  where
    go : (ls : List Line) → FedLine x → WellEnded (ls ++ l ∷ []) → WellEnded (x ∷ (ls ++ l ∷ []))
    go [] f w = (f.0, f.1, w)
    go (y ∷ ls) f w = (f.0, f.1, w)

-- ls are the lines of the front of the book, and rest is what is left
pub record Sofar (book : List ℕ) (ls : List Line) (rest : List ℕ) : Type 0 where
  pub together : flat_map whole ls ++ rest ≡ book
  pub well_ended : WellEnded ls
  pub fed : 0 < length rest → All FedLine ls

pub shorter : (rest : List ℕ) (l : Line) (after : List ℕ) → FirstLine rest l after → length after < length rest
shorter rest l after f = omega (arith, ap length f.together, length-append (whole l) after, f.some)

pub sofar_more : (book : List ℕ) (ls : List Line) (rest : List ℕ) (l : Line) (after : List ℕ) → Sofar book ls rest → FirstLine rest l after → Sofar book (ls ++ l ∷ []) after
sofar_more book ls rest l after s f =
    let a = s.fed (omega (arith, shorter rest l after f)) in
    record {
      together = ap (λ x. x ++ after) (sym (flat_map_more whole [] ls l)) ∙ append_assoc (flat_map whole ls) (whole l) after ∙ ap (λ x. flat_map whole ls ++ x) f.together ∙ s.together;
      well_ended = well_ended_more ls l a f.is_line f.some;
      fed = λ h. All-push FedLine ls l a (f.is_line, ⊎_elim (λ x. x) (λ e. absurd (omega (arith, ap length e))) f.ends);
    }

pub sofar_all : (book : List ℕ) (ls : List Line) (rest : List ℕ) → rest ≡ [] → Sofar book ls rest → LinesOf book ls
sofar_all book ls rest e s = record { together = sym (append-nil (flat_map whole ls)) ∙ ap (λ x. flat_map whole ls ++ x) (sym e) ∙ s.together; well_ended = s.well_ended }
