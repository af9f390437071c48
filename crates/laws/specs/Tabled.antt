-- A constant table: a list whose entry k, for each k below n, is f at k. Assumes nothing.
use Rattle.std.specs.Prelude.{ℕ, ◌<◌, ◌≡◌, List, get_or}

pub record Tabled (n : ℕ) (f : ℕ → ℕ) (l : List ℕ) : Type 0 where
  pub right : (k : ℕ) → k < n → get_or l k 0 ≡ f k
