-- Pairs of numbers below a size, and rows of bits that say which number leads to which.
use Rattle.std.specs.Prelude.{ℕ, ◌<◌, ◌≤◌, ◌≡◌, ◌↔◌, List, length, slice_index, refl, if◌then◌else◌, nat_eq}
use Rattle.std.specs.List.{All}
use Rattle.std.specs.Int.{bit_at}
use Rattle.std.specs.Int.RustNames.{bit_or}
use Rattle.std.specs.Coded.{Coded, code_by, coded×, coded_ℕ, coded_list}
use Rattle.priority_order.specs.Order.{Pair, AtMost}

-- how many numbers a closure may have: a row has a bit for each
abbrev pub most_numbers : ℕ
most_numbers = 128

-- what a closure is made of: the numbers are those below the size
pub record Edges : Type 0 where
  pub size : ℕ
  pub pairs : List Pair

-- size and pairs as numbers
abbrev pub edges_code : Coded Edges
edges_code =
    code_by (ℕ × List Pair) (coded× coded_ℕ (coded_list (coded× coded_ℕ coded_ℕ)))
    (λ e. (e.size, e.pairs)) (λ p. record { size = p.0; pairs = p.1 }) (λ _. refl)

-- bit y of row x is 1 exactly where x is at most y
pub record IsClosed (pairs : List Pair) (rows : List ℕ) : Type 0 where
  pub short : length rows ≤ most_numbers
  pub within : All (λ (p : Pair). (p.0 < length rows) × (p.1 < length rows)) pairs
  pub exact : (x y : ℕ) → x < length rows → y < length rows → (bit_at (slice_index rows x) y ≡ 1) ↔ AtMost pairs x y

-- a row that takes over the bits of another where its bit a is 1
abbrev pub joined : ℕ → ℕ → ℕ → ℕ
joined a more row = if nat_eq (bit_at row a) 1 then bit_or row more else row
