-- Register counts: none on an input share, and the largest of several.
use Rattle.std.proofs.Common.{◌≡◌, ℕ, ◌<◌, ◌≤◌, max, List, [], ◌∷◌, ◌++◌, length, get_or, replicate, ◌∙◌, arith}
use lib.ListN.{length-replicate, get_or-replicate}
use Rattle.std.specs.List.{AllByRecursion}
use Rattle.netlist.specs.Circuit.{Circuit, share_count, largest, counts, register_counts}
use Rattle.isolation.proofs.Carries.{carry_before}

pub register_count_share : (c : Circuit) (w : ℕ) → w < share_count c → get_or (register_counts c) w 0 ≡ 0
register_count_share c w h =
    carry_before counts c.drivers 0 (replicate (share_count c) 0) w 0 (omega (arith, length-replicate {A = ℕ} (share_count c) 0))
    ∙ get_or-replicate (share_count c) w 0 0 h

pub largest_append : (xs ys : List ℕ) → largest (xs ++ ys) ≡ max (largest xs) (largest ys)
largest_append [] ys = omega arith
largest_append (x ∷ xs) ys = omega (arith, largest_append xs ys)

-- of numbers that are all the same, that one
pub largest_all : (n : ℕ) (xs : List ℕ) → 1 ≤ length xs → AllByRecursion (λ x. x ≡ n) xs → largest xs ≡ n
largest_all n [] l h = absurd (omega arith)
largest_all n (x ∷ []) l h = omega (arith, h.0)
largest_all n (x ∷ y ∷ xs) l h = omega (arith, h.0, largest_all n (y ∷ xs) (omega arith) h.1)
