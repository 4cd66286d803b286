-- What all wires carry, by the values that a program is given.
use Rattle.std.specs.Prelude.{ℕ, zero, suc, List, [], ◌∷◌, slice_index_or}
use Rattle.netlist.specs.Circuit.{Circuit, share_count, Carrier, carry}
use Rattle.value.specs.Values.{Ops}

module _ {V : Type 0} where
  -- fresh wire number k carries the k-th of the values given
  abbrev pub given_values : Ops V → List V → Carrier V
  given_values o given = record { none = o.none; source = λ w k. slice_index_or given k o.none; store = λ w v. o.register v; look = o.look }

  -- the first n of a list, filled up with z where it is shorter
  abbrev pub filled : ℕ → V → List V → List V
  filled zero z vs = []
  filled (suc n) z [] = z ∷ filled n z []
  filled (suc n) z (v ∷ vs) = v ∷ filled n z vs

  -- what all wires carry, given a value for each share and then one for each mask, in wire order
  abbrev pub carried_from : Ops V → Circuit → List V → List V
  carried_from o c given = carry (given_values o given) c.drivers (share_count c) (filled (share_count c) o.none given)
