-- The 64-bit FNV-1a hash.
use Rattle.std.specs.Prelude.{ℕ, List, ◌*◌, ◌%◌, ◌^◌, bit_xor}
use Rattle.std.specs.List.{fold}

-- one byte more
abbrev pub hashed : ℕ → ℕ → ℕ
hashed hash byte = (bit_xor hash byte * 1099511628211) % 2 ^ 64

abbrev pub fnv1a_of : List ℕ → ℕ
fnv1a_of bytes = fold hashed 14695981039346656037 bytes
