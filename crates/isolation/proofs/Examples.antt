-- Worked examples: the definitions compute, on circuits of up to 38 wires.
use Rattle.std.proofs.Common.{◌≡◌, ℕ, ◌+◌, ◌*◌, ◌^◌, true, false, ◌||◌, List, [], ◌∷◌, ◌++◌, refl}
use Rattle.netlist.specs.Circuit.{Driver, fresh, stored, looked, Circuit, wire_count, mask_count, settled, seen}
use Rattle.isolation.specs.Patterns.{pattern, maskings, size, joined}
use Rattle.isolation.specs.Clean.{Clean}
use Rattle.isolation.specs.Tests.{tests_clean}
use Rattle.isolation.proofs.Tests.{test_clean}

-- an idle XOR of both shares of an input is clean in neither domain
abbrev idle : Circuit
idle = record { inputs = 1; drivers = looked 6 (0 ∷ 1 ∷ []) ∷ [] }

idle_not : (tests_clean idle (seen idle 2) false || tests_clean idle (seen idle 2) true) ≡ false
idle_not = refl

-- the register of share 1 XOR a mask is clean in domain 0; what a probe on the XOR itself sees is not
abbrev blinded : Circuit
blinded = record { inputs = 1; drivers = fresh ∷ looked 6 (1 ∷ 2 ∷ []) ∷ stored 3 ∷ [] }

blinded_clean : (tests_clean blinded (seen blinded 4) false ≡ true) × (tests_clean blinded (seen blinded 3) false ≡ false)
blinded_clean = (refl, refl)

-- a masked AND of two inputs, 38 wires and one mask: look-ups over domain 1 select, those over domain 0 are masked
abbrev select : ℕ → List Driver
select i = looked (2 ^ i) (1 ∷ 3 ∷ []) ∷ stored (5 + 2 * i) ∷ []

abbrev product : ℕ → ℕ → List Driver
product i t =
    looked t (0 ∷ 2 ∷ []) ∷ looked 6 ((13 + 5 * i) ∷ 4 ∷ []) ∷ stored (14 + 5 * i) ∷ looked 8 ((6 + 2 * i) ∷ (15 + 5 * i) ∷ []) ∷ stored (16 + 5 * i) ∷ []

abbrev masked_and : Circuit
masked_and = record {
  inputs = 2;
  drivers = (fresh ∷ []) ++ select 0 ++ select 1 ++ select 2 ++ select 3 ++ product 0 8 ++ product 1 4 ++ product 2 2 ++ product 3 1
      ++ (looked 6 (17 ∷ 22 ∷ []) ∷ looked 6 (33 ∷ 27 ∷ []) ∷ looked 6 (34 ∷ 32 ∷ []) ∷ stored 4 ∷ stored 36 ∷ []);
}

and_size : (wire_count masked_and ≡ 38) × (mask_count masked_and ≡ 1) × (size 38 (seen masked_and 35) ≡ 4)
and_size = (refl, refl, refl)

and_pattern : pattern (joined masked_and (14 ∷ 16 ∷ [])) (settled masked_and (true ∷ false ∷ true ∷ false ∷ []) (true ∷ []))
    ≡ (true ∷ true ∷ true ∷ true ∷ false ∷ [])
and_pattern = refl

and_maskings : maskings masked_and (seen masked_and 35) (true ∷ true ∷ []) (false ∷ false ∷ false ∷ true ∷ []) ≡ 1
and_maskings = refl

and_clean : Clean masked_and (seen masked_and 35) true
and_clean = test_clean masked_and (seen masked_and 35) true refl

and_no_clean : tests_clean masked_and (seen masked_and 35) false ≡ false
and_no_clean = refl
