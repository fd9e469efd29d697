-- A book has one first line, and one list of lines.
use Rattle.std.proofs.Common.{◌≡◌, ◌≢◌, ℕ, ◌<◌, ◌⊎◌, List, [], ◌∷◌, ◌++◌, map, length, get_or, sym, refl, ap, ◌∙◌, subst, ap₂, inl, inr, ⊎_elim, append_assoc, append-nil, arith, length-append}
use Rattle.std.specs.List.{All, flat_map}
use Rattle.std.proofs.Math.Seq.{get_or-append_seam}
use Rattle.std.proofs.lemmas.List.{same_from_push}
use Rattle.std.proofs.lemmas.List.Elements.{All-append, All-cons, All-from_get_or, All-head, All-nil, All-tail}
use Rattle.book.specs.declared.line.Ending.{Ending}
use Rattle.book.specs.declared.line.Ending.TheVariants.{Feed, ReturnFeed, End, ReturnEnd}
use Rattle.book.specs.declared.line.Line.{Line}
use Rattle.book.specs.Lines.{LF, CR, mark, whole, plain, Fed, Returned, IsLine, WellEnded, LinesOf, FirstLine}

-- any byte but a line feed
abbrev pub NoFeed : ℕ → Type 0
NoFeed x = x ≢ LF

-- the first line feed stands at one place
same_feed : (a b r s : List ℕ) → All NoFeed a → All NoFeed b → a ++ LF ∷ r ≡ b ++ LF ∷ s → (a ≡ b) × (r ≡ s)
same_feed [] [] r s u v e = (refl, cc)
same_feed [] (y ∷ b) r s u v e = absurd (All-head NoFeed y b v (cc))
same_feed (x ∷ a) [] r s u v e = absurd (All-head NoFeed x a u (cc))
same_feed (x ∷ a) (y ∷ b) r s u v e =
    let t : (a ≡ b) × (r ≡ s) = same_feed a b r s (All-tail NoFeed x a u) (All-tail NoFeed y b v) (cc) in
    let h : x ≡ y = cc in
    (ap₂ ◌∷◌ h t.0, t.1)

no_feed : (a b r : List ℕ) → All NoFeed b → a ++ LF ∷ r ≡ b → ⊥
no_feed a b r u e =
    u (length a) LF (omega (arith, ap length e, length-append a (LF ∷ r))) (ap (λ l. get_or l (length a) LF) (sym e) ∙ get_or-append_seam a LF r LF)

-- an ending is a carriage return or nothing, and then a line feed or nothing
abbrev pub returns : Ending → List ℕ
returns Feed = []
returns ReturnFeed = CR ∷ []
returns End = []
returns ReturnEnd = CR ∷ []

abbrev pub feeds : Ending → List ℕ
feeds Feed = LF ∷ []
feeds ReturnFeed = LF ∷ []
feeds End = []
feeds ReturnEnd = []

-- a line up to its line feed or the book's end
abbrev pub front : Line → List ℕ
front l = l.text.now ++ returns l.ending

-- a line and what follows it, cut before the line's feed
pub whole_is : (l : Line) (rest : List ℕ) → whole l ++ rest ≡ front l ++ (feeds l.ending ++ rest)
whole_is l rest = ap (λ m. (l.text.now ++ m) ++ rest) (mark_is l.ending) ∙ simp append_assoc
  where
    mark_is : (e : Ending) → mark e ≡ returns e ++ feeds e
    mark_is Feed = refl
    mark_is ReturnFeed = refl
    mark_is End = refl
    mark_is ReturnEnd = refl

front_unbroken : (l : Line) → IsLine l → All NoFeed (front l)
front_unbroken l i = All-append NoFeed l.text.now (returns l.ending) (All-from_get_or NoFeed l.text.now 0 i.unbroken) (go l.ending)
  where
    one : All NoFeed (CR ∷ [])
    one = All-cons NoFeed CR [] (omega arith) (All-nil NoFeed)

    go : (e : Ending) → All NoFeed (returns e)
    go Feed = All-nil NoFeed
    go ReturnFeed = one
    go End = All-nil NoFeed
    go ReturnEnd = one

-- a line feed ends a line, or the book does
abbrev Ends : Line → Type 0
Ends l = (Fed l.ending × (feeds l.ending ≡ LF ∷ [])) ⊎ ((Fed l.ending → ⊥) × (feeds l.ending ≡ []))

ends : (l : Line) → Ends l
ends l = go l.ending
  where
    go : (e : Ending) → (Fed e × (feeds e ≡ LF ∷ [])) ⊎ ((Fed e → ⊥) × (feeds e ≡ []))
    go Feed = inl (tt, refl)
    go ReturnFeed = inl (tt, refl)
    go End = inr ((λ f. f), refl)
    go ReturnEnd = inr ((λ f. f), refl)

-- such a line has a byte
pub fed_some : (l : Line) → Fed l.ending → 0 < length (whole l)
fed_some l f = go (ends l)
  where
    go : Ends l → 0 < length (whole l)
    go (inl e) = omega (arith, ap length (whole_is l []), length-append (whole l) [], length-append (front l) (feeds l.ending ++ []), length-append (feeds l.ending) [], ap length e.1)
    go (inr e) = absurd (e.0 f)

-- what is left of a text where its carriage return is dropped or not there
same_line : (t u : List ℕ) (d e : Ending) → t ++ returns d ≡ u ++ returns e → (Fed d → Fed e) → (Fed e → Fed d) → ((f : List ℕ) → t ≡ f ++ CR ∷ [] → Returned d) → ((f : List ℕ) → u ≡ f ++ CR ∷ [] → Returned e) → ◌≡◌ {A = List ℕ × Ending} (t, d) (u, e)
same_line t u Feed Feed q a b v w = ap (λ x. (x, Feed)) (sym (append-nil t) ∙ q ∙ append-nil u)
same_line t u Feed ReturnFeed q a b v w = absurd (v u (sym (append-nil t) ∙ q))
same_line t u Feed End q a b v w = absurd (a tt)
same_line t u Feed ReturnEnd q a b v w = absurd (a tt)
same_line t u ReturnFeed Feed q a b v w = absurd (w t (sym (append-nil u) ∙ sym q))
same_line t u ReturnFeed ReturnFeed q a b v w = ap (λ x. (x, ReturnFeed)) (same_from_push t u CR CR q).0
same_line t u ReturnFeed End q a b v w = absurd (a tt)
same_line t u ReturnFeed ReturnEnd q a b v w = absurd (a tt)
same_line t u End Feed q a b v w = absurd (b tt)
same_line t u End ReturnFeed q a b v w = absurd (b tt)
same_line t u End End q a b v w = ap (λ x. (x, End)) (sym (append-nil t) ∙ q ∙ append-nil u)
same_line t u End ReturnEnd q a b v w = absurd (v u (sym (append-nil t) ∙ q))
same_line t u ReturnEnd Feed q a b v w = absurd (b tt)
same_line t u ReturnEnd ReturnFeed q a b v w = absurd (b tt)
same_line t u ReturnEnd End q a b v w = absurd (w t (sym (append-nil u) ∙ sym q))
same_line t u ReturnEnd ReturnEnd q a b v w = ap (λ x. (x, ReturnEnd)) (same_from_push t u CR CR q).0

-- a line that ends in a line feed, and one that ends with the book
fed_front : (l : Line) (rest : List ℕ) → feeds l.ending ≡ LF ∷ [] → whole l ++ rest ≡ front l ++ LF ∷ rest
fed_front l rest w = whole_is l rest ∙ ap (λ y. front l ++ (y ++ rest)) w

no_rest : {book rest : List ℕ} (l : Line) → FirstLine book l rest → (Fed l.ending → ⊥) → rest ≡ []
no_rest l f n = ⊎_elim (λ x. absurd (n x)) (λ e. e) f.ends

last_front : {book rest : List ℕ} (l : Line) → FirstLine book l rest → (Fed l.ending → ⊥) → feeds l.ending ≡ [] → whole l ++ rest ≡ front l
last_front {book} {rest} l f n w = whole_is l rest ∙ ap₂ (λ y r. front l ++ (y ++ r)) w (no_rest l f n) ∙ append-nil (front l)

-- a book has one first line, and one rest
pub same_first_line : (book : List ℕ) (l m : Line) (r s : List ℕ) → FirstLine book l r → FirstLine book m s → (plain l ≡ plain m) × (r ≡ s)
same_first_line book l m r s f g = go (ends l) (ends m)
  where
    i : IsLine l
    i = f.is_line

    j : IsLine m
    j = g.is_line

    e : whole l ++ r ≡ whole m ++ s
    e = f.together ∙ sym g.together

    alike : front l ≡ front m → (Fed l.ending → Fed m.ending) → (Fed m.ending → Fed l.ending) → plain l ≡ plain m
    alike b x y = same_line l.text.now m.text.now l.ending m.ending b x y i.stripped j.stripped

    go : Ends l → Ends m → (plain l ≡ plain m) × (r ≡ s)
    go (inl v) (inl w) =
        let c = same_feed (front l) (front m) r s (front_unbroken l i) (front_unbroken m j) (sym (fed_front l r v.1) ∙ e ∙ fed_front m s w.1) in
        (alike c.0 (λ x. w.0) (λ x. v.0), c.1)
    go (inl v) (inr w) = absurd (no_feed (front l) (front m) r (front_unbroken m j) (sym (fed_front l r v.1) ∙ e ∙ last_front m g w.0 w.1))
    go (inr v) (inl w) = absurd (no_feed (front m) (front l) s (front_unbroken l i) (sym (fed_front m s w.1) ∙ sym e ∙ last_front l f v.0 v.1))
    go (inr v) (inr w) =
        let b : front l ≡ front m = sym (last_front l f v.0 v.1) ∙ e ∙ last_front m g w.0 w.1 in
        (alike b (λ x. absurd (v.0 x)) (λ x. absurd (w.0 x)), no_rest l f v.0 ∙ sym (no_rest m g w.0))

-- what WellEnded says of the first line, and of the others
some_bytes : (l : Line) (ls : List Line) → WellEnded (l ∷ ls) → 0 < length (whole l)
some_bytes l [] (i, inl f) = fed_some l f
some_bytes l [] (i, inr h) = h
some_bytes l (m ∷ ls) o = fed_some l o.1

first_of : (l : Line) (ls : List Line) → WellEnded (l ∷ ls) → FirstLine (whole l ++ flat_map whole ls) l (flat_map whole ls)
first_of l [] o = record { together = refl; is_line = o.0; some = some_bytes l [] o; ends = inr refl }
first_of l (m ∷ ls) o = record { together = refl; is_line = o.0; some = some_bytes l (m ∷ ls) o; ends = inl o.1 }

others : (l : Line) (ls : List Line) → WellEnded (l ∷ ls) → WellEnded ls
others l [] o = tt
others l (m ∷ ls) o = o.2

same_order : (ls ms : List Line) → WellEnded ls → WellEnded ms → flat_map whole ls ≡ flat_map whole ms → map plain ls ≡ map plain ms
same_order [] [] o p e = refl
same_order [] (m ∷ ms) o p e = absurd (omega (arith, some_bytes m ms p, ap length e, length-append (whole m) (flat_map whole ms)))
same_order (l ∷ ls) [] o p e = absurd (omega (arith, some_bytes l ls o, ap length e, length-append (whole l) (flat_map whole ls)))
same_order (l ∷ ls) (m ∷ ms) o p e =
    let s = same_first_line (whole m ++ flat_map whole ms) l m (flat_map whole ls) (flat_map whole ms) (subst (λ b. FirstLine b l (flat_map whole ls)) e (first_of l ls o)) (first_of m ms p) in
    ap₂ ◌∷◌ s.0 (same_order ls ms (others l ls o) (others m ms p) s.1)

pub same_lines : (book : List ℕ) (ls ms : List Line) → LinesOf book ls → LinesOf book ms → map plain ls ≡ map plain ms
same_lines book ls ms a b = same_order ls ms a.well_ended b.well_ended (a.together ∙ sym b.together)
