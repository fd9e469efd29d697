-- What the private steps of reading promise to the calls above them.
use Rattle.std.specs.Prelude.{◌≡◌, ℕ, ◌<◌, [], ◌∷◌, ◌++◌, length, Ok, Err, Result, ◌≢◌}
use Rattle.kayles.specs.declared.board.Board.{Board}
use Rattle.kayles.specs.declared.board.Pin.{Pin as KaylesPin}
use Rattle.kayles.specs.Limits.{most_pins}
use Rattle.kayles.specs.Rows.{row}
use Rattle.book.specs.declared.fault.Refusal.{Refusal}
use Rattle.book.specs.declared.token.Token.{Token}
use Rattle.book.specs.declared.token.Token.TheVariants.{Pin, Stray}
use Rattle.book.specs.BoardLines.{Wrong}
use Rattle.book.specs.Letters.{letter}

-- the byte that a token borrows
abbrev pub borrowed : Token → ℕ
borrowed (Pin p x) = x.now
borrowed (Stray x) = x.now

-- a token is a pin exactly where its byte is that pin's letter
abbrev pub Told : Token → Type 0
Told (Pin p x) = x.now ≡ letter p
Told (Stray x) = (p : KaylesPin) → x.now ≢ letter p

-- one byte c more of a board's text: a pin more, or what is wrong with the byte
abbrev pub Grown : Board → ℕ → ℕ → Result Board Refusal → Type 0
Grown b c column (Ok d) = (length (row b) < most_pins) × ((p : KaylesPin) × (c ≡ letter p) × (row d ≡ row b ++ p ∷ []))
Grown b c column (Err e) = Wrong (length (row b)) c e.fault × (e.column ≡ column)
