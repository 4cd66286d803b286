-- Closed forms for GHPC_LL: what each wire settles to, and what a probe on it sees.
use Rattle.std.specs.Prelude.{◌≡◌, ℕ, suc, ◌+◌, ◌*◌, ◌<◌, Bool, true, false, ◌&&◌, List, [], ◌∷◌, ◌++◌, ◌==◌, bit_xor, nat_le, slice_index_or}
use Rattle.netlist.specs.Circuit.{number, alone, seen}
use Rattle.isolation.specs.Patterns.{xor}
use Rattle.block.specs.Blocks.{Table, output_at}
use Rattle.verdict.specs.Rules.{circuit_of, settled_at, bundle}
use Rattle.constructions.specs.Gates.{each, rows, argument_count, domain_shares, among}
use Rattle.constructions.specs.LowLatency.{mask, decoded, selector, entry, masked, held, product_1, product_0, partial_1, partial_0, output_0, output_1, low_latency_of}

-- the bit of mask i of output c, and of the mask of output c that the shares y of domain 1 select
abbrev pub mask_bit : Table → List Bool → ℕ → ℕ → Bool
mask_bit t masks c i = slice_index_or masks (c * argument_count t + i) false

abbrev pub selected_mask : Table → (y masks : List Bool) → ℕ → Bool
selected_mask t y masks c = mask_bit t masks c (number y)

-- output c at the plain input, XOR its selected mask
abbrev pub blinded : Table → (x y masks : List Bool) → ℕ → Bool
blinded t x y masks c = xor (output_at t c (bit_xor (number x) (number y))) (selected_mask t y masks c)

-- x being the shares of domain 0, and y those of domain 1
pub record Settles (t : Table) (x y masks : List Bool) : Type 0 where
  pub at_mask : (c i : ℕ) → c < t.m → i < argument_count t → settled_at (low_latency_of t) x y masks (mask t c i) ≡ mask_bit t masks c i
  pub at_decoded : (i : ℕ) → i < argument_count t → settled_at (low_latency_of t) x y masks (decoded t i) ≡ (number y == i)
  pub at_selector : (i : ℕ) → i < argument_count t → settled_at (low_latency_of t) x y masks (selector t i) ≡ (number y == i)
  pub at_entry : (c i : ℕ) → c < t.m → i < argument_count t → settled_at (low_latency_of t) x y masks (entry t c i) ≡ output_at t c (bit_xor (number x) i)
  pub at_masked : (c i : ℕ) → c < t.m → i < argument_count t
      → settled_at (low_latency_of t) x y masks (masked t c i) ≡ xor (output_at t c (bit_xor (number x) i)) (mask_bit t masks c i)
  pub at_held : (c i : ℕ) → c < t.m → i < argument_count t
      → settled_at (low_latency_of t) x y masks (held t c i) ≡ xor (output_at t c (bit_xor (number x) i)) (mask_bit t masks c i)
  pub at_product_1 : (c i : ℕ) → c < t.m → i < argument_count t → settled_at (low_latency_of t) x y masks (product_1 t c i) ≡ (number y == i && blinded t x y masks c)
  pub at_product_0 : (c i : ℕ) → c < t.m → i < argument_count t → settled_at (low_latency_of t) x y masks (product_0 t c i) ≡ (number y == i && selected_mask t y masks c)
  pub at_partial_1 : (c j : ℕ) → c < t.m → j < argument_count t → settled_at (low_latency_of t) x y masks (partial_1 t c j) ≡ (nat_le (number y) j && blinded t x y masks c)
  pub at_partial_0 : (c j : ℕ) → c < t.m → j < argument_count t → settled_at (low_latency_of t) x y masks (partial_0 t c j) ≡ (nat_le (number y) j && selected_mask t y masks c)
  pub at_output_0 : (c : ℕ) → c < t.m → settled_at (low_latency_of t) x y masks (output_0 t c) ≡ selected_mask t y masks c
  pub at_output_1 : (c : ℕ) → c < t.m → settled_at (low_latency_of t) x y masks (output_1 t c) ≡ blinded t x y masks c

-- what a probe on a product sees
abbrev pub factors_1 : Table → ℕ → ℕ → List ℕ
factors_1 t c i = selector t i ∷ held t c i ∷ []

abbrev pub factors_0 : Table → ℕ → ℕ → List ℕ
factors_0 t c i = domain_shares t true ++ (mask t c i ∷ [])

pub record Sees (t : Table) : Type 0 where
  pub from_mask : (c i : ℕ) → c < t.m → i < argument_count t → seen (circuit_of (low_latency_of t)) (mask t c i) ≡ alone (mask t c i)
  pub from_decoded : (i : ℕ) → i < argument_count t → seen (circuit_of (low_latency_of t)) (decoded t i) ≡ among (domain_shares t true)
  pub from_selector : (i : ℕ) → i < argument_count t → seen (circuit_of (low_latency_of t)) (selector t i) ≡ alone (selector t i)
  pub from_entry : (c i : ℕ) → c < t.m → i < argument_count t → seen (circuit_of (low_latency_of t)) (entry t c i) ≡ among (domain_shares t false)
  pub from_masked : (c i : ℕ) → c < t.m → i < argument_count t
      → seen (circuit_of (low_latency_of t)) (masked t c i) ≡ among (domain_shares t false ++ (mask t c i ∷ []))
  pub from_held : (c i : ℕ) → c < t.m → i < argument_count t → seen (circuit_of (low_latency_of t)) (held t c i) ≡ alone (held t c i)
  pub from_product_1 : (c i : ℕ) → c < t.m → i < argument_count t → seen (circuit_of (low_latency_of t)) (product_1 t c i) ≡ among (factors_1 t c i)
  pub from_product_0 : (c i : ℕ) → c < t.m → i < argument_count t → seen (circuit_of (low_latency_of t)) (product_0 t c i) ≡ among (factors_0 t c i)
  pub from_partial_1 : (c j : ℕ) → c < t.m → j < argument_count t → seen (circuit_of (low_latency_of t)) (partial_1 t c j) ≡ among (rows (suc j) (factors_1 t c))
  pub from_partial_0 : (c j : ℕ) → c < t.m → j < argument_count t → seen (circuit_of (low_latency_of t)) (partial_0 t c j) ≡ among (rows (suc j) (factors_0 t c))
  pub from_output_0 : (c : ℕ) → c < t.m → seen (circuit_of (low_latency_of t)) (output_0 t c) ≡ alone (output_0 t c)
  pub from_output_1 : (c : ℕ) → c < t.m → seen (circuit_of (low_latency_of t)) (output_1 t c) ≡ among (rows (argument_count t) (factors_1 t c))
  pub from_outputs_0 : bundle (low_latency_of t) false ≡ among (each t.m (output_0 t))
  pub from_outputs_1 : bundle (low_latency_of t) true ≡ among (rows t.m (λ c. rows (argument_count t) (factors_1 t c)))
