-- Unions over wires that are given by a function of the index.
use Rattle.std.proofs.Common.{◌≡◌, ℕ, ◌<◌, List, [], ◌∷◌, map, refl, ap, ◌∙◌}
use Rattle.std.specs.List.{range_with_len, AllByRecursion}
use Rattle.netlist.specs.Circuit.{Wires, alone, union}
use Rattle.isolation.proofs.Sets.{union_concat}
use Rattle.constructions.specs.Gates.{each, rows, among}
use Rattle.constructions.proofs.Rows.{map_each, all_each, all_counting}

map_alike : {A B : Type 0} (f g : A → B) (xs : List A) → AllByRecursion (λ x. f x ≡ g x) xs → map f xs ≡ map g xs
map_alike f g [] h = refl
map_alike f g (x ∷ xs) h = let e = h.0 in let r = map_alike f g xs h.1 in cc

module _ (sees : ℕ → Wires) (k : ℕ) (f : ℕ → ℕ) where
  -- each sees itself alone
  pub union_alone : ((i : ℕ) → i < k → sees (f i) ≡ alone (f i)) → union (map sees (each k f)) ≡ among (each k f)
  union_alone h = ap union (map_alike sees alone (each k f) (all_each (λ w. sees w ≡ alone w) k f h))

  -- each sees a list
  pub union_rows : (g : ℕ → List ℕ) → ((i : ℕ) → i < k → sees (f i) ≡ among (g i)) → union (map sees (each k f)) ≡ among (rows k g)
  union_rows g h = ap union (map_each k f sees) ∙ union_concat (λ i. sees (f i)) g (range_with_len 0 k) (all_counting (λ i. sees (f i) ≡ among (g i)) k h)
