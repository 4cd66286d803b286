-- The verdict on a block, as a definition that computes.
use Rattle.std.specs.Prelude.{ℕ, Bool, true, false, cond, ◌||◌, List, [], ◌∷◌, ◌++◌, Ok, Err, Result, nat_le, codes, decimal}
use Rattle.std.specs.Bool.{beq}
use Rattle.fault.specs.declared.NetlistFault.{NetlistFault}
use Rattle.netlist.specs.Circuit.{wire_count, mask_count, seen, number}
use Rattle.isolation.specs.Patterns.{xor, xors, size}
use Rattle.isolation.specs.Tests.{every, tests_clean}
use Rattle.block.specs.Blocks.{Whole, output_at}
use Rattle.verdict.specs.declared.Acceptance.{Acceptance}
use Rattle.verdict.specs.Rules.{circuit_of, output_wire, bundle, settled_at, latency}
use Rattle.verdict.specs.Stations.{Observation, on_wire, on_outputs, observed, Station, wires, masks, output, breadth, isolation, fault_at, stations}

-- output c recombines, tried with all shares and masks
abbrev pub recombines : Whole → ℕ → Bool
recombines b c = every b.table.n (λ x. every b.table.n (λ y. every (mask_count (circuit_of b)) (λ m.
    beq (xor (settled_at b x y m (output_wire b false c)) (settled_at b x y m (output_wire b true c))) (output_at b.table c (number (xors x y))))))

abbrev pub isolated : Whole → Observation → Bool
isolated b (on_wire w) = tests_clean (circuit_of b) (seen (circuit_of b) w) false || tests_clean (circuit_of b) (seen (circuit_of b) w) true
isolated b (on_outputs d) = tests_clean (circuit_of b) (bundle b d) d

-- the test at each station
abbrev pub passes : Whole → Station → Bool
passes b wires = nat_le (wire_count (circuit_of b)) 512
passes b masks = nat_le (mask_count (circuit_of b)) 8
passes b (output c) = recombines b c
passes b (breadth o) = nat_le (size (wire_count (circuit_of b)) (observed b o)) 64
passes b (isolation o) = isolated b o

abbrev pub acceptance : Whole → Acceptance
acceptance b = record { wires = wire_count (circuit_of b); masks = mask_count (circuit_of b); latency = latency b }

-- the fault of the first station that does not pass; accepted if all pass
abbrev pub judged : Whole → List Station → Result Acceptance NetlistFault
judged b [] = Ok (acceptance b)
judged b (s ∷ ss) = cond (passes b s) (judged b ss) (Err (fault_at b s))

abbrev pub verdict : Whole → Result Acceptance NetlistFault
verdict b = judged b (stations b)

-- the line that a person is shown: wires, masks and latency in decimal
abbrev pub acceptance_line : Acceptance → List ℕ
acceptance_line a = codes "accepted, " ++ (decimal a.wires ++ (codes " wires, " ++ (decimal a.masks ++ (codes " masks, latency " ++ decimal a.latency))))
