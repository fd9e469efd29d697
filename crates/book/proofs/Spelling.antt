-- A board's text, read from the left.
use Rattle.std.proofs.Common.{◌≡◌, ℕ, ◌+◌, ◌<◌, ◌≤◌, List, [], ◌∷◌, map, length, get_or, take, sym, refl, ap, ◌∙◌, subst, ap₂, arith}
use Rattle.std.proofs.lemmas.List.{length-take-le, get_or-take, get_or-map, length-map}
use Rattle.kayles.specs.declared.board.Pin.{Pin}
use Rattle.kayles.specs.declared.board.Pin.TheVariants.{Standing, Down}
use Rattle.book.specs.declared.fault.Fault.{Fault}
use Rattle.book.specs.declared.fault.Fault.TheVariants.{Unclosed, NotAPin, TooManyPins, BookTooLong}
use Rattle.book.specs.BoardLines.{Wrong, FirstWrong}
use Rattle.book.specs.Letters.{letter}

pub letter_inj : (p q : Pin) → letter p ≡ letter q → p ≡ q
letter_inj Standing Standing e = refl
letter_inj Standing Down e = absurd (omega arith)
letter_inj Down Standing e = absurd (omega arith)
letter_inj Down Down e = refl

-- a text shows one row only
pub same_row : (ps qs : List Pin) → map letter ps ≡ map letter qs → ps ≡ qs
same_row [] [] e = refl
same_row [] (q ∷ qs) e = absurd (omega (arith, ap length e))
same_row (p ∷ ps) [] e = absurd (omega (arith, ap length e))
same_row (p ∷ ps) (q ∷ qs) e =
    let a : letter p ≡ letter q = cc in
    let b : map letter ps ≡ map letter qs = cc in
    ap₂ ◌∷◌ (letter_inj p q a) (same_row ps qs b)

-- a row of at most 32 pins has nothing wrong with it
pub nothing_wrong : (ps : List Pin) (k : ℕ) (f : Fault) → length ps ≤ 32 → k < length ps → Wrong k (get_or (map letter ps) k 0) f → ⊥
nothing_wrong ps k Unclosed few h w = w
nothing_wrong ps k BookTooLong few h w = w
nothing_wrong ps k TooManyPins few h w = omega arith
nothing_wrong ps k NotAPin few h w = w.1 (get_or ps k Down) (get_or-map letter ps k Down 0 h)

module _ (text : List ℕ) (i : ℕ) (ps : List Pin) (shown : take i text ≡ map letter ps) where
  pub shown_long : i ≤ length text → length ps ≡ i
  shown_long h = sym (length-map ps letter) ∙ ap length (sym shown) ∙ length-take-le i text h

  -- the first byte with which something is wrong
  pub first_wrong : (f : Fault) (skipped column : ℕ) → i < length text → length ps ≤ 32 → Wrong (length ps) (get_or text i 0) f → column ≡ skipped + i + 1 → FirstWrong text skipped f column
  first_wrong f skipped column h few w e = record {
    at = i;
    within = h;
    here = subst (λ n. Wrong n (get_or text i 0) f) long w;
    before = none;
    place = e;
  }
    where
      long : length ps ≡ i
      long = shown_long (omega arith)

      none : (k : ℕ) (g : Fault) → k < i → Wrong k (get_or text k 0) g → ⊥
      none k g l v =
          let same : get_or text k 0 ≡ get_or (map letter ps) k 0 = sym (get_or-take i text k 0 l) ∙ ap (λ t. get_or t k 0) shown in
          nothing_wrong ps k g few (omega (arith, long)) (subst (λ x. Wrong k x g) same v)
