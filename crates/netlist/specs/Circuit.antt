-- What drives each wire, and what every wire carries: one fold over the drivers, for every kind of thing that a wire can carry.
use Rattle.std.specs.Prelude.{ℕ, zero, suc, ◌+◌, ◌*◌, ◌/◌, ◌%◌, ◌^◌, max, Bool, true, false, ◌||◌, List, [], ◌∷◌, ◌++◌, map, length, replicate, ◌==◌, slice_index_or}

-- a fresh bit, a register of one wire, or a look-up: bit number A of a table, where bit t of A is on the t-th wire of a list
pub data Driver : Type 0 where
  fresh : Driver
  stored : ℕ → Driver
  looked : ℕ → List ℕ → Driver

-- inputs of two shares each, share d of input i on wire 2i + d, and what drives each wire after those
pub record Circuit : Type 0 where
  pub inputs : ℕ
  pub drivers : List Driver

abbrev pub share_count : Circuit → ℕ
share_count c = 2 * c.inputs

abbrev pub wire_count : Circuit → ℕ
wire_count c = share_count c + length c.drivers

-- how many fresh wires there are after a driver, if there were k before it
abbrev pub more_fresh : Driver → ℕ → ℕ
more_fresh fresh k = suc k
more_fresh (stored a) k = k
more_fresh (looked t os) k = k

abbrev pub fresh_after : List Driver → ℕ → ℕ
fresh_after [] k = k
fresh_after (d ∷ ds) k = fresh_after ds (more_fresh d k)

abbrev pub mask_count : Circuit → ℕ
mask_count c = fresh_after c.drivers 0

-- how one kind of thing is carried: what a fresh wire has (by its number, and by how many fresh wires come before it),
-- what a register makes of its operand (by its own number), what a look-up makes of its operands
pub record Carrier (V : Type 0) : Type 0 where
  pub none : V
  pub source : ℕ → ℕ → V
  pub store : ℕ → V → V
  pub look : ℕ → List V → V

module _ {V : Type 0} where
  -- what the next wire carries, vs being what the wires so far carry, k of them fresh
  abbrev pub carried : Carrier V → Driver → ℕ → List V → V
  carried A fresh k vs = A.source (length vs) k
  carried A (stored a) k vs = A.store (length vs) (slice_index_or vs a A.none)
  carried A (looked t os) k vs = A.look t (map (λ o. slice_index_or vs o A.none) os)

  -- what all wires carry
  abbrev pub carry : Carrier V → List Driver → ℕ → List V → List V
  carry A [] k vs = vs
  carry A (d ∷ ds) k vs = carry A ds (more_fresh d k) (vs ++ (carried A d k vs ∷ []))

abbrev pub bit_of : Bool → ℕ
bit_of true = 1
bit_of false = 0

-- the number whose bit t is the t-th of the list
abbrev pub number : List Bool → ℕ
number [] = 0
number (b ∷ bs) = bit_of b + 2 * number bs

-- bit number i of t
abbrev pub bit : ℕ → ℕ → Bool
bit t i = (t / 2 ^ i) % 2 == 1

-- settled bits, with a bit for each fresh wire; a register carries its operand's value
abbrev pub bits : List Bool → Carrier Bool
bits masks = record { none = false; source = λ w k. slice_index_or masks k false; store = λ w v. v; look = λ t vs. bit t (number vs) }

-- what every wire settles to, from the shares and a bit for each mask, both in wire order
abbrev pub settled : Circuit → List Bool → List Bool → List Bool
settled c shares masks = carry (bits masks) c.drivers 0 shares

-- register counts: 0 on a fresh wire, one more through a register, the largest of its operands at a look-up
abbrev pub largest : List ℕ → ℕ
largest [] = 0
largest (n ∷ ns) = max n (largest ns)

abbrev pub counts : Carrier ℕ
counts = record { none = 0; source = λ w k. 0; store = λ w v. suc v; look = λ t vs. largest vs }

abbrev pub register_counts : Circuit → List ℕ
register_counts c = carry counts c.drivers 0 (replicate (share_count c) 0)

-- sets of wires
abbrev pub Wires : Type 0
Wires = ℕ → Bool

abbrev pub no_wire : Wires
no_wire v = false

abbrev pub alone : ℕ → Wires
alone w v = v == w

abbrev pub alone_from : ℕ → ℕ → List Wires
alone_from w zero = []
alone_from w (suc n) = alone w ∷ alone_from (suc w) n

abbrev pub union : List Wires → Wires
union [] v = false
union (s ∷ ss) v = s v || union ss v

-- what a probe sees: on a share, a fresh wire or a register that wire alone, on a look-up all that probes on its operands see
abbrev pub probes : Carrier Wires
probes = record { none = no_wire; source = λ w k. alone w; store = λ w s. alone w; look = λ t ss. union ss }

abbrev pub seen : Circuit → ℕ → Wires
seen c w = slice_index_or (carry probes c.drivers 0 (alone_from 0 (share_count c))) w no_wire
