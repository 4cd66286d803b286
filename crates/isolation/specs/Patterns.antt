-- The values on a set of wires, and how often they arise.
use Rattle.std.specs.Prelude.{ℕ, zero, suc, ◌+◌, ◌*◌, Bool, true, false, not, ◌&&◌, List, [], ◌∷◌, map}
use Rattle.std.specs.Bool.{beq}
use Rattle.netlist.specs.Circuit.{Circuit, Wires, bit_of, mask_count, settled, union, seen}
use Rattle.isolation.specs.Sums.{sum}

-- the same set with wire 1 counted as wire 0, wire 2 as wire 1, and so on
abbrev pub later : Wires → Wires
later S w = S (suc w)

module _ {A : Type 0} where
  -- v before vs if it is kept, and vs alone if not
  abbrev pub keep : Bool → A → List A → List A
  keep true v vs = v ∷ vs
  keep false v vs = vs

  -- the pattern on S: the values on the wires of S, in ascending wire order, vs being the values on all wires
  abbrev pub pattern : Wires → List A → List A
  pattern S [] = []
  pattern S (v ∷ vs) = keep (S 0) v (pattern (later S) vs)

  -- one of the first list, one of the second, and so on in turn
  abbrev pub interleave : List A → List A → List A
  interleave [] ys = []
  interleave (x ∷ xs) [] = []
  interleave (x ∷ xs) (y ∷ ys) = x ∷ y ∷ interleave xs ys

  -- all input shares in wire order, from the shares of domain d and those of the other domain (false is domain 0, true is domain 1)
  abbrev pub shares : Bool → List A → List A → List A
  shares false own other = interleave own other
  shares true own other = interleave other own

-- the wire of share d of input i
abbrev pub share_wire : Bool → ℕ → ℕ
share_wire d i = 2 * i + bit_of d

-- the XOR of two bits
abbrev pub xor : Bool → Bool → Bool
xor true b = not b
xor false b = b

-- the XOR of two lists of bits, bit by bit; the shorter list counts as filled up with zeros
abbrev pub xors : List Bool → List Bool → List Bool
xors [] bs = bs
xors (a ∷ xs) [] = a ∷ xs
xors (a ∷ xs) (b ∷ bs) = xor a b ∷ xors xs bs

-- 1 if a test holds, 0 if not
abbrev pub one_if : Bool → ℕ
one_if true = 1
one_if false = 0

-- whether two lists have the same bits
abbrev pub same : List Bool → List Bool → Bool
same [] [] = true
same [] (b ∷ bs) = false
same (a ∷ xs) [] = false
same (a ∷ xs) (b ∷ bs) = beq a b && same xs bs

-- in how many settings of all masks the pattern on S is q, with the input shares given in wire order
abbrev pub count : Circuit → Wires → List Bool → List Bool → ℕ
count c S inputs q = sum (mask_count c) (λ m. one_if (same (pattern S (settled c inputs m)) q))

-- in how many maskings of the plain inputs x the pattern on S is q; a masking is a bit a for each input and a bit for each mask:
-- share 0 of an input is its bit of a, and share 1 the plain input XOR share 0
abbrev pub maskings : Circuit → Wires → List Bool → List Bool → ℕ
maskings c S x q = sum c.inputs (λ a. count c S (interleave a (xors x a)) q)

-- how many of the first n wires are in S
abbrev pub size : ℕ → Wires → ℕ
size zero S = 0
size (suc n) S = one_if (S n) + size n S

-- what probes on all wires of a list see together
abbrev pub joined : Circuit → List ℕ → Wires
joined c ws = union (map (seen c) ws)
