-- A line has one verdict: passed over, accepted with one row, or refused with one fault.
use Rattle.std.proofs.Common.{◌≡◌, ℕ, ◌<◌, ◌≤◌, ◌⊎◌, List, ◌++◌, map, length, get_or, Ok, Err, Some, None, sym, refl, ap, ◌∙◌, subst, inl, inr, arith}
use Rattle.std.proofs.lemmas.List.{append_cancel_left, append_cancel_right, length-map}
use Rattle.std.proofs.str.Laws.{order}
use Rattle.kayles.specs.declared.board.Pin.{Pin}
use Rattle.kayles.specs.Rows.{row}
use Rattle.book.specs.declared.fault.Fault.{Fault}
use Rattle.book.specs.declared.fault.Fault.TheVariants.{Unclosed, NotAPin, TooManyPins, BookTooLong}
use Rattle.book.specs.BoardLines.{Wrong, FirstWrong, FirstFault, BoardLine, kayles_opening}
use Rattle.book.specs.Faults.{number}
use Rattle.book.specs.Readings.{Reading, Reads}
use Rattle.book.specs.Tags.{Opened, Tagged, closing}
use Rattle.book.specs.Letters.{letter}
use Rattle.book.proofs.Spelling.{nothing_wrong, same_row}

-- what the reader finds out about a line
abbrev pub Found : List ℕ → Reading → Type 0
Found line (Ok None) = Opened kayles_opening line → ⊥
Found line (Ok (Some b)) = BoardLine line (row b)
Found line (Err e) = FirstFault line e.fault e.column

same_text : (line t u : List ℕ) → Tagged kayles_opening line t → Tagged kayles_opening line u → t ≡ u
same_text line t u a b = append_cancel_right t u closing (append_cancel_left kayles_opening (t ++ closing) (u ++ closing) (sym a ∙ b))

pub board_opened : (line : List ℕ) (ps : List Pin) → BoardLine line ps → Opened kayles_opening line
board_opened line ps (text, tagged, shows, few) = (text ++ closing, tagged)

pub fault_opened : (line : List ℕ) (f : Fault) (c : ℕ) → FirstFault line f c → Opened kayles_opening line
fault_opened line f c (inl n) = n.opened
fault_opened line f c (inr m) = (m.text ++ closing, m.tagged)

pub no_fault : (line : List ℕ) (ps : List Pin) (f : Fault) (c : ℕ) → BoardLine line ps → FirstFault line f c → ⊥
no_fault line ps f c (text, tagged, shows, few) (inl n) = n.unclosed text tagged
no_fault line ps f c (text, tagged, shows, few) (inr m) =
    let same : m.text ≡ map letter ps = same_text line m.text text m.tagged tagged ∙ shows in
    let k = m.first.at in
    nothing_wrong ps k f few (omega (arith, m.first.within, ap length same, length-map ps letter)) (subst (λ t. Wrong k (get_or t k 0) f) same m.first.here)

-- a byte has one fault only
one_wrong : (i c : ℕ) (f g : Fault) → Wrong i c f → Wrong i c g → f ≡ g
one_wrong i c TooManyPins TooManyPins w v = refl
one_wrong i c TooManyPins NotAPin w v = absurd (omega (arith, v.0))
one_wrong i c TooManyPins Unclosed w v = absurd v
one_wrong i c TooManyPins BookTooLong w v = absurd v
one_wrong i c NotAPin TooManyPins w v = absurd (omega (arith, w.0))
one_wrong i c NotAPin NotAPin w v = refl
one_wrong i c NotAPin Unclosed w v = absurd v
one_wrong i c NotAPin BookTooLong w v = absurd v
one_wrong i c Unclosed g w v = absurd w
one_wrong i c BookTooLong g w v = absurd w

-- and a text one first fault
same_first : (text : List ℕ) (n : ℕ) (f g : Fault) (c d : ℕ) → FirstWrong text n f c → FirstWrong text n g d → (f ≡ g) × (c ≡ d)
same_first text n f g c d a b = go (order a.at b.at) (order b.at a.at)
  where
    go : (a.at < b.at) ⊎ (b.at ≤ a.at) → (b.at < a.at) ⊎ (a.at ≤ b.at) → (f ≡ g) × (c ≡ d)
    go (inl h) k = absurd (b.before a.at f h a.here)
    go (inr h) (inl k) = absurd (a.before b.at g k b.here)
    go (inr h) (inr k) =
        let e : a.at ≡ b.at = omega arith in
        (one_wrong b.at (get_or text b.at 0) f g (subst (λ i. Wrong i (get_or text i 0) f) e a.here) b.here, omega (arith, a.place, b.place))

pub same_fault : (line : List ℕ) (f g : Fault) (c d : ℕ) → FirstFault line f c → FirstFault line g d → (f ≡ g) × (c ≡ d)
same_fault line f g c d (inl a) (inl b) = (a.fault ∙ sym b.fault, a.place ∙ sym b.place)
same_fault line f g c d (inl a) (inr b) = absurd (a.unclosed b.text b.tagged)
same_fault line f g c d (inr a) (inl b) = absurd (b.unclosed a.text a.tagged)
same_fault line f g c d (inr a) (inr b) =
    same_first b.text (length kayles_opening) f g c d (subst (λ t. FirstWrong t (length kayles_opening) f c) (same_text line a.text b.text a.tagged b.tagged) a.first) b.first

pub same_board : (line : List ℕ) (ps qs : List Pin) → BoardLine line ps → BoardLine line qs → ps ≡ qs
same_board line ps qs (t, a, s, few) (u, b, v, small) = same_row ps qs (sym s ∙ same_text line t u a b ∙ v)

pub reads : (line : List ℕ) (r : Reading) → Found line r → Reads line r
reads line (Ok None) n = record {
  passed = (λ e. n, λ m. refl);
  accepted = λ ps. (λ (b, e, q). absurd (cc), λ l. absurd (n (board_opened line ps l)));
  refused = λ k c. (λ (x, e, q, p). absurd (cc), λ (f, q, l). absurd (n (fault_opened line f c l)));
  tied = λ o. absurd (n o);
}
reads line (Ok (Some b)) l = record {
  passed = (λ e. absurd (cc), λ n. absurd (n (board_opened line (row b) l)));
  accepted = λ ps. (λ (d, e, q). subst (BoardLine line) (let same : b ≡ d = cc in ap row same ∙ q) l, λ m. (b, refl, same_board line (row b) ps l m));
  refused = λ k c. (λ (x, e, q, p). absurd (cc), λ (f, q, m). absurd (no_fault line (row b) f c l m));
  tied = λ o. (λ h k c (f, q, m). no_fault line (row b) f c l m, λ h. (row b, l));
}
reads line (Err e) l = record {
  passed = (λ q. absurd (cc), λ n. absurd (n (fault_opened line e.fault e.column l)));
  accepted = λ ps. (λ (b, q, p). absurd (cc), λ m. absurd (no_fault line ps e.fault e.column m l));
  refused = λ k c. (
    λ (x, q, n, p). let same : e ≡ x = cc in (e.fault, ap (λ y. number y.fault) same ∙ n, subst (FirstFault line e.fault) (ap (λ y. y.column) same ∙ p) l),
    λ (f, n, m). let s = same_fault line e.fault f e.column c l m in (e, refl, ap number s.0 ∙ n, s.1),
  );
  tied = λ o. (
    λ (ps, m). absurd (no_fault line ps e.fault e.column m l),
    λ h. absurd (h (number e.fault) e.column (e.fault, refl, l)),
  );
}
