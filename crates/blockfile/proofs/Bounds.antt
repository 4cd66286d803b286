-- Values that are within their bounds: what the tests say, and that they pass.
use Rattle.std.proofs.Common.{◌≡◌, ℕ, zero, suc, ◌+◌, ◌^◌, ◌<◌, ◌≤◌, Bool, true, leb, List, [], ◌∷◌, length, get_or, Ok, refl, arith, ltb-true, lt-ltb, le-leb, leb-true}
use Rattle.std.proofs.lemmas.Bool.{and_parts, and_from}
use Rattle.fault.specs.declared.FieldFault.TheVariants.{Value}
use Rattle.netlist.specs.Cells.{Fits}
use Rattle.blockfile.specs.Reading.{in_bounds, one_to_four, entry_bounds, cell_from, cell_bounds, pair_bounds}
use Rattle.blockfile.proofs.Steps.{cond_ok}

-- each test passes
abbrev pub Passes : List (ℕ × Bool) → Type 0
Passes [] = Unit {0}
Passes (v ∷ vs) = (v.1 ≡ true) × Passes vs

pub passes : (vs : List (ℕ × Bool)) → in_bounds vs ≡ Ok tt → Passes vs
passes [] e = tt
passes (v ∷ vs) e = let p = cond_ok v.1 (in_bounds vs) (Value v.0) tt e in (p.0, passes vs p.1)

pub passed : (vs : List (ℕ × Bool)) → Passes vs → in_bounds vs ≡ Ok tt
passed [] h = refl
passed (v ∷ vs) h = rw h.0 (passed vs h.1)

pub one_to_four_is : (x : ℕ) → one_to_four x ≡ true → (1 ≤ x) × (x ≤ 4)
one_to_four_is x e = let p = and_parts (leb 1 x) (leb x 4) e in (leb-true 1 x p.0, leb-true x 4 p.1)

pub is_one_to_four : (x : ℕ) → 1 ≤ x → x ≤ 4 → one_to_four x ≡ true
is_one_to_four x a b = and_from (leb 1 x) (leb x 4) (le-leb 1 x a) (le-leb x 4 b)

pub entries_small : (m at : ℕ) (es : List ℕ) → Passes (entry_bounds m at es) → (k : ℕ) → k < length es → get_or es k 0 < 2 ^ m
entries_small m at [] e k h = absurd (omega arith)
entries_small m at (x ∷ es) e zero h = ltb-true x (2 ^ m) e.0
entries_small m at (x ∷ es) e (suc k) h = entries_small m (suc at) es e.1 k (omega arith)

pub small_entries : (m at : ℕ) (es : List ℕ) → ((k : ℕ) → k < length es → get_or es k 0 < 2 ^ m) → Passes (entry_bounds m at es)
small_entries m at [] h = tt
small_entries m at (x ∷ es) h = (lt-ltb x (2 ^ m) (h 0 (omega arith)), small_entries m (suc at) es (λ k l. h (suc k) (omega arith)))

pub cell_in_bounds : (at w : ℕ) (bs : List ℕ) → Passes (cell_bounds at w bs) → (get_or bs 0 0 < 9) × Fits w (cell_from bs)
cell_in_bounds at w bs e = (
  ltb-true _ _ e.0,
  (ltb-true _ _ e.1.0, ltb-true _ _ e.1.1.0, ltb-true _ _ e.1.1.1.0, ltb-true _ _ e.1.1.1.1.0, ltb-true _ _ e.1.1.1.1.1.0),
)

pub in_bounds_cell : (at w : ℕ) (bs : List ℕ) → get_or bs 0 0 < 9 → Fits w (cell_from bs) → Passes (cell_bounds at w bs)
in_bounds_cell at w bs k f =
    (lt-ltb _ _ k, (lt-ltb _ _ f.0, (lt-ltb _ _ f.1, (lt-ltb _ _ f.2, (lt-ltb _ _ f.3, (lt-ltb _ _ f.4, tt))))))

-- each pair of output wires is below w
abbrev pub PairsBelow : ℕ → List (ℕ × ℕ) → Type 0
PairsBelow w ps = (c : ℕ) → c < length ps → ((get_or ps c (0, 0)).0 < w) × ((get_or ps c (0, 0)).1 < w)

pub pairs_in_bounds : (w at : ℕ) (ps : List (ℕ × ℕ)) → Passes (pair_bounds w at ps) → PairsBelow w ps
pairs_in_bounds w at [] e c h = absurd (omega arith)
pairs_in_bounds w at (p ∷ ps) e zero h = (ltb-true _ _ e.0, ltb-true _ _ e.1.0)
pairs_in_bounds w at (p ∷ ps) e (suc c) h = pairs_in_bounds w (at + 4) ps e.1.1 c (omega arith)

pub in_bounds_pairs : (w at : ℕ) (ps : List (ℕ × ℕ)) → PairsBelow w ps → Passes (pair_bounds w at ps)
in_bounds_pairs w at [] h = tt
in_bounds_pairs w at (p ∷ ps) h =
    let here = h 0 (omega arith) in (lt-ltb _ _ here.0, (lt-ltb _ _ here.1, in_bounds_pairs w (at + 4) ps (λ c l. h (suc c) (omega arith))))
