-- What a truth table in memory means, and what filling one answers.
use Rattle.std.specs.Prelude.{◌≡◌, ℕ, suc, ◌^◌, ◌<◌, ◌≤◌, Bool, cond, ◌&&◌, List, [], ◌∷◌, length, take, Ok, Err, Result, ◌==◌, nat_le, nat_lt}
use Rattle.std.proofs.Common.{sym, subst, length-take, pow_mono, get_or-take, arith}
use Rattle.fault.specs.declared.NetlistFault.{NetlistFault}
use Rattle.fault.specs.declared.NetlistFault.TheVariants.{TableSize, TableEntry}
use Rattle.block.specs.declared.table.TruthTable.{TruthTable}
use Rattle.block.specs.Blocks.{Table, LawfulTable}

abbrev pub table_of : ℕ → ℕ → List ℕ → Table
table_of n m entries = record { n = n; m = m; entries = entries }

-- the 2^n entries in use
abbrev pub tabled : TruthTable → Table
tabled t = table_of t.n t.m (take (2 ^ t.n) t.entries)

-- whether the sizes are those of a table
abbrev pub sizes_fit : ℕ → ℕ → ℕ → Bool
sizes_fit n m count = (nat_le 1 n && nat_le n 4) && ((nat_le 1 m && nat_le m 4) && count == 2 ^ n)

-- whether all entries are below the limit, counted from i
abbrev pub entries_answer : ℕ → ℕ → List ℕ → Result (Unit {0}) NetlistFault
entries_answer limit i [] = Ok tt
entries_answer limit i (e ∷ es) = cond (nat_lt e limit) (entries_answer limit (suc i) es) (Err (TableEntry i))

abbrev pub table_answer : ℕ → ℕ → List ℕ → Result (Unit {0}) NetlistFault
table_answer n m entries = cond (sizes_fit n m (length entries)) (entries_answer (2 ^ m) 0 entries) (Err TableSize)

-- a table is made of these numbers, or refused
abbrev pub Makes : Result TruthTable NetlistFault → ℕ → ℕ → List ℕ → Type 0
Makes (Ok t) n m entries = (table_answer n m entries ≡ Ok tt) × (tabled t ≡ table_of n m entries)
Makes (Err f) n m entries = table_answer n m entries ≡ Err f

-- what the caller's table is after filling: the new one whole, or the old one
abbrev pub Filled : Result (Unit {0}) NetlistFault → ℕ → ℕ → List ℕ → TruthTable → TruthTable → Type 0
Filled (Ok _) n m entries old new = tabled new ≡ table_of n m entries
Filled (Err _) n m entries old new = new ≡ old

-- one bit that passes through
abbrev pub identity_table : Table
identity_table = table_of 1 1 (0 ∷ 1 ∷ [])

pub tabled_lawful : (t : TruthTable) → LawfulTable (tabled t)
tabled_lawful t =
    let most : 2 ^ t.n ≤ 2 ^ 4 = pow_mono t.size.1 in
    record {
      some_inputs = t.size.0;
      few_inputs = t.size.1;
      some_outputs = t.size.2;
      few_outputs = t.size.3;
      whole = omega (arith, length-take (2 ^ t.n) t.entries, t.long);
      small = λ a h. subst (λ x. x < 2 ^ t.m) (sym (get_or-take (2 ^ t.n) t.entries a 0 h)) (t.small a h);
    }
