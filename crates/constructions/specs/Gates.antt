-- What the constructions are made of: lists from functions of the index, look-ups over the shares of one domain, and cells.
use Rattle.std.specs.Prelude.{ℕ, pred, ◌^◌, Bool, List, [], ◌∷◌, map, slice_index, slice_index_or}
use Rattle.std.specs.List.{range_with_len, flat_map}
use Rattle.netlist.specs.declared.cell.Kind.{Kind}
use Rattle.netlist.specs.declared.cell.Kind.TheVariants.{Mask, And, Xor, Reg, Look1, Look2, Look3, Look4}
use Rattle.netlist.specs.declared.cell.Cell.{Cell}
use Rattle.netlist.specs.Circuit.{number, Wires, alone, union}
use Rattle.isolation.specs.Patterns.{share_wire}
use Rattle.block.specs.Blocks.{Table}

module _ {A : Type 0} where
  -- f 0, f 1, .., f (k - 1)
  abbrev pub each : ℕ → (ℕ → A) → List A
  each k f = map f (range_with_len 0 k)

  -- the same for lists, one after the other
  abbrev pub rows : ℕ → (ℕ → List A) → List A
  rows k f = flat_map f (range_with_len 0 k)

-- the set of the wires of a list
abbrev pub among : List ℕ → Wires
among ws = union (map alone ws)

-- how many arguments a table has
abbrev pub argument_count : Table → ℕ
argument_count t = 2 ^ t.n

-- the number whose bit a is f a, for each argument a
abbrev pub table_of : Table → (ℕ → Bool) → ℕ
table_of t f = number (each (argument_count t) f)

-- the input shares of domain d, input 0 first
abbrev pub domain_shares : Table → Bool → List ℕ
domain_shares t d = each t.n (share_wire d)

-- what a construction uses, in whatever form cells are written down: a fresh bit, a register of a wire, the two gates, and the look-up
-- over the input shares of domain d whose table bit a is f a
pub record Gates (C : Type 0) : Type 0 where
  pub mask : C
  pub reg : ℕ → C
  pub xor : ℕ → ℕ → C
  pub and : ℕ → ℕ → C
  pub look : Bool → (ℕ → Bool) → C

abbrev pub look_kind : ℕ → Kind
look_kind n = slice_index_or (Look1 ∷ Look2 ∷ Look3 ∷ []) (pred n) Look4

abbrev pub cell_of : Kind → ℕ → List ℕ → Cell
cell_of k table os = record { kind = k; table = table; a = slice_index os 0; b = slice_index os 1; c = slice_index os 2; d = slice_index os 3 }

-- as cells; operands that a kind does not have are zero
abbrev pub cell_gates : Table → Gates Cell
cell_gates t = record {
  mask = cell_of Mask 0 [];
  reg = λ v. cell_of Reg 0 (v ∷ []);
  xor = λ v w. cell_of Xor 0 (v ∷ w ∷ []);
  and = λ v w. cell_of And 0 (v ∷ w ∷ []);
  look = λ d f. cell_of (look_kind t.n) (table_of t f) (domain_shares t d);
}
