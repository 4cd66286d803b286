-- Steps of testing and copying a table's entries.
use Rattle.std.proofs.Common.{◌≡◌, ℕ, zero, suc, ◌-◌, ◌^◌, ◌<◌, ◌≤◌, true, List, [], ◌∷◌, ◌++◌, length, get_or, replicate, Ok, arith, eq-eqb, le-leb}
use Rattle.std.proofs.lemmas.Grind.{common_steps}
use Rattle.block.specs.Tables.{entries_answer, sizes_fit}

-- where none is refused, each is below the limit
pub entries_below : (limit i : ℕ) (es : List ℕ) → entries_answer limit i es ≡ Ok tt → (k : ℕ) → k < length es → get_or es k 0 < limit
entries_below limit i [] e k h = absurd (omega arith)
entries_below limit i (x ∷ es) e zero h = grind (arith, common_steps)
entries_below limit i (x ∷ es) e (suc k) h = grind (arith, common_steps, entries_below limit (suc i) es)

-- past its own entries the padded list is zero
pub padded_rest : (es : List ℕ) (r a : ℕ) → length es ≤ a → ◌≡◌ {A = ℕ} (get_or (es ++ replicate r 0) a 0) 0
padded_rest es r a h = grind (arith, common_steps)

pub pad_length : (es : List ℕ) → length es ≤ 16 → length (es ++ replicate (16 - length es) 0) ≡ 16
pad_length es h = grind (arith, common_steps)

pub sizes_known : (n m count : ℕ) → 1 ≤ n → n ≤ 4 → 1 ≤ m → m ≤ 4 → count ≡ 2 ^ n → sizes_fit n m count ≡ true
sizes_known n m count a b c d e = rw (le-leb 1 n a, le-leb n 4 b, le-leb 1 m c, le-leb m 4 d, eq-eqb count (2 ^ n) e)
