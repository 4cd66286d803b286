-- The constructions as what drives each wire: the cells of each block drive its wires so.
use Rattle.std.proofs.Common.{◌≡◌, ℕ, zero, suc, pred, ◌*◌, ◌≤◌, Bool, true, false, eqb, List, [], ◌∷◌, ◌++◌, map, refl, ap, ◌∙◌, ap₂, arith}
use mathlib.Core.List.{map-append}
use lib.Bits.{bit_xor}
use Rattle.netlist.specs.Circuit.{Driver, fresh, stored, looked}
use Rattle.netlist.specs.Cells.{driver}
use Rattle.isolation.specs.Patterns.{share_wire}
use Rattle.block.specs.Blocks.{Table, LawfulTable, output_at}
use Rattle.constructions.specs.Gates.{each, argument_count, table_of, domain_shares, Gates, look_kind, cell_of, cell_gates}
use Rattle.constructions.specs.Ghpc as ghpc
use Rattle.constructions.specs.LowLatency as low
use Rattle.constructions.proofs.Rows.{map_rows, map_ones}
use Rattle.constructions.proofs.Frame.{map_framed}
use Rattle.constructions.proofs.GhpcPlaces as ghpc_places
use Rattle.constructions.proofs.LowPlaces.{products, joins_1, joins_0, last}

abbrev pub driver_gates : Table → Gates Driver
driver_gates t = record {
  mask = fresh;
  reg = stored;
  xor = λ v w. looked 6 (v ∷ w ∷ []);
  and = λ v w. looked 8 (v ∷ w ∷ []);
  look = λ d f. looked (table_of t f) (domain_shares t d);
}

-- a map of gates
pub record Maps {C D : Type 0} (h : C → D) (g : Gates C) (k : Gates D) : Type 0 where
  pub mask : h g.mask ≡ k.mask
  pub reg : (v : ℕ) → h (g.reg v) ≡ k.reg v
  pub xor : (v w : ℕ) → h (g.xor v w) ≡ k.xor v w
  pub and : (v w : ℕ) → h (g.and v w) ≡ k.and v w
  pub look : (d : Bool) (f : ℕ → Bool) → h (g.look d f) ≡ k.look d f

-- a map of gates takes a construction to the same construction
module _ {C D : Type 0} (h : C → D) (g : Gates C) (k : Gates D) (m : Maps h g k) (t : Table) where
  map_two : (xs ys : List C) (us vs : List D) → map h xs ≡ us → map h ys ≡ vs → map h (xs ++ ys) ≡ us ++ vs
  map_two xs ys us vs p q = map-append h xs ys ∙ ap₂ ◌++◌ p q

  pub map_ghpc : map h (ghpc.cells t g) ≡ ghpc.cells t k
  map_ghpc =
      map_framed h t.m (argument_count t) t.m g.mask k.mask (ghpc.selector_cells t g) (ghpc.output_cells t g) (ghpc.selector_cells t k) (ghpc.output_cells t k)
      m.mask (λ i. let p = m.look true (λ a. eqb a i) in let q = m.reg (ghpc.decoded t i) in cc) outputs
    where
      outputs : (c : ℕ) → map h (ghpc.output_cells t g c) ≡ ghpc.output_cells t k c
      outputs c =
          map_two (ghpc_places.products t g c) (ghpc_places.joins t g c ++ ghpc.delay_cells t g c)
          (ghpc_places.products t k c) (ghpc_places.joins t k c ++ ghpc.delay_cells t k c)
          (map_rows h (argument_count t) (ghpc.product_cells t g c) (ghpc.product_cells t k c)
          (λ i.
          let p = m.look false (λ a. output_at t c (bit_xor a i)) in
          let q = m.xor (ghpc.entry t c i) (ghpc.mask t c) in
          let r = m.reg (ghpc.masked t c i) in
          let s = m.and (ghpc.selector t i) (ghpc.held t c i) in
          let u = m.reg (ghpc.product t c i) in
          cc))
          (map_two (ghpc_places.joins t g c) (ghpc.delay_cells t g c) (ghpc_places.joins t k c) (ghpc.delay_cells t k c)
          (map_ones h (pred (argument_count t)) (ghpc.join_cell t g c) (ghpc.join_cell t k c) (λ j. m.xor (ghpc.partial t c j) (ghpc.term t c (suc j))))
          (let p = m.reg (ghpc.mask t c) in let q = m.reg (ghpc.delayed t c) in cc))

  pub map_low_latency : map h (low.cells t g) ≡ low.cells t k
  map_low_latency =
      map_framed h (t.m * argument_count t) (argument_count t) t.m g.mask k.mask (low.selector_cells t g) (low.output_cells t g) (low.selector_cells t k) (low.output_cells t k)
      m.mask (λ i. let p = m.look true (λ a. eqb a i) in let q = m.reg (low.decoded t i) in cc) outputs
    where
      outputs : (c : ℕ) → map h (low.output_cells t g c) ≡ low.output_cells t k c
      outputs c =
          map_two (products t g c) (joins_1 t g c ++ (joins_0 t g c ++ last t g c)) (products t k c) (joins_1 t k c ++ (joins_0 t k c ++ last t k c))
          (map_rows h (argument_count t) (low.product_cells t g c) (low.product_cells t k c)
          (λ i.
          let p = m.look false (λ a. output_at t c (bit_xor a i)) in
          let q = m.xor (low.entry t c i) (low.mask t c i) in
          let r = m.reg (low.masked t c i) in
          let s = m.and (low.selector t i) (low.held t c i) in
          let u = m.and (low.decoded t i) (low.mask t c i) in
          cc))
          (map_two (joins_1 t g c) (joins_0 t g c ++ last t g c) (joins_1 t k c) (joins_0 t k c ++ last t k c)
          (map_ones h (pred (argument_count t)) (low.join_1 t g c) (low.join_1 t k c) (λ j. m.xor (low.partial_1 t c j) (low.product_1 t c (suc j))))
          (map_two (joins_0 t g c) (last t g c) (joins_0 t k c) (last t k c)
          (map_ones h (pred (argument_count t)) (low.join_0 t g c) (low.join_0 t k c) (λ j. m.xor (low.partial_0 t c j) (low.product_0 t c (suc j))))
          (ap (λ x. x ∷ []) (m.reg (low.partial_0 t c (pred (argument_count t)))))))

-- the look-ups over one domain, for each number of inputs
look_driver : (n tab : ℕ) (d : Bool) → 1 ≤ n → n ≤ 4 → driver (cell_of (look_kind n) tab (each n (share_wire d))) ≡ looked tab (each n (share_wire d))
look_driver zero tab d a b = absurd (omega arith)
look_driver (suc zero) tab d a b = refl
look_driver (suc (suc zero)) tab d a b = refl
look_driver (suc (suc (suc zero))) tab d a b = refl
look_driver (suc (suc (suc (suc zero)))) tab d a b = refl
look_driver (suc (suc (suc (suc (suc n))))) tab d a b = absurd (omega arith)

module _ (t : Table) (l : LawfulTable t) where
  maps_driver : Maps driver (cell_gates t) (driver_gates t)
  maps_driver = record {
    mask = refl;
    reg = λ v. refl;
    xor = λ v w. refl;
    and = λ v w. refl;
    look = λ d f. look_driver t.n (table_of t f) d l.some_inputs l.few_inputs;
  }

  pub ghpc_drivers : map driver (ghpc.cells t (cell_gates t)) ≡ ghpc.cells t (driver_gates t)
  ghpc_drivers = map_ghpc driver (cell_gates t) (driver_gates t) maps_driver t

  pub low_latency_drivers : map driver (low.cells t (cell_gates t)) ≡ low.cells t (driver_gates t)
  low_latency_drivers = map_low_latency driver (cell_gates t) (driver_gates t) maps_driver t
