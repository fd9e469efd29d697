-- The list of all things of a kind, in their order.
use Rattle.std.specs.Prelude.{◌≡◌, ℕ, ◌<◌, List, length, slice_index_or}

-- xs lists what there is of a kind: only such things, in order, and all of them; past its end it is read as `none`
pub record ListOf {A : Type 0} (Is : A → Type 0) (Before : A → A → Type 0) (none : A) (xs : List A) : Type 0 where
  pub each : (k : ℕ) → k < length xs → Is (slice_index_or xs k none)
  pub order : (j k : ℕ) → j < k → k < length xs → Before (slice_index_or xs j none) (slice_index_or xs k none)
  pub all : (x : A) → Is x → (k : ℕ) × (k < length xs) × (slice_index_or xs k none ≡ x)
