-- A tag line: an opening, a text and a closing.
use Rattle.std.specs.Prelude.{◌≡◌, ℕ, List, ◌++◌, codes}

-- a quote and a bracket end the line
abbrev pub closing : List ℕ
closing = codes "\"]"

-- the line begins with the opening
abbrev pub Opened : List ℕ → List ℕ → Type 0
Opened opening line = (rest : List ℕ) × (line ≡ opening ++ rest)

-- the text stands between the opening and the closing, and nothing else
abbrev pub Tagged : List ℕ → List ℕ → List ℕ → Type 0
Tagged opening line text = line ≡ opening ++ (text ++ closing)
