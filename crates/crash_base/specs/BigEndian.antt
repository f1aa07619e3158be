-- Numbers in big-endian order of their bytes.
use Rattle.std.specs.Prelude.{◌≡◌, ℕ, ◌+◌, ◌*◌, ◌≤◌, List, length, drop, fold}

-- The bytes begin with a field of this size. `taken` is its value, and `rest` is what follows it.
pub record TakesField (size : ℕ) (bytes : List ℕ) (value taken : ℕ) (rest : List ℕ) : Type 0 where
  pub there : size ≤ length bytes
  pub taken_is : taken ≡ value
  pub rest_is : rest ≡ drop size bytes

-- The big-endian number of bytes: each byte counts 256 times what the next one does.
abbrev pub big_endian_number : List ℕ → ℕ
big_endian_number bytes = fold (λ n byte. 256 * n + byte) 0 bytes
