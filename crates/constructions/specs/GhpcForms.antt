-- Closed forms for GHPC: what each wire settles to, and what a probe on it sees.
use Rattle.std.specs.Prelude.{◌≡◌, ℕ, suc, ◌<◌, Bool, true, false, ◌&&◌, List, [], ◌∷◌, ◌++◌, ◌==◌, bit_xor, nat_le, slice_index_or}
use Rattle.netlist.specs.Circuit.{number, alone, seen}
use Rattle.isolation.specs.Patterns.{xor}
use Rattle.block.specs.Blocks.{Table, output_at}
use Rattle.verdict.specs.Rules.{circuit_of, settled_at, bundle}
use Rattle.constructions.specs.Gates.{each, rows, argument_count, domain_shares, among}
use Rattle.constructions.specs.Ghpc.{mask, decoded, selector, entry, masked, held, product, term, partial, delayed, output_0, output_1, ghpc_of}

-- output c at the plain input, XOR its mask
abbrev pub blinded : Table → (x y masks : List Bool) → ℕ → Bool
blinded t x y masks c = xor (output_at t c (bit_xor (number x) (number y))) (slice_index_or masks c false)

-- x being the shares of domain 0, and y those of domain 1
pub record Settles (t : Table) (x y masks : List Bool) : Type 0 where
  pub at_mask : (c : ℕ) → c < t.m → settled_at (ghpc_of t) x y masks (mask t c) ≡ slice_index_or masks c false
  pub at_decoded : (i : ℕ) → i < argument_count t → settled_at (ghpc_of t) x y masks (decoded t i) ≡ (number y == i)
  pub at_selector : (i : ℕ) → i < argument_count t → settled_at (ghpc_of t) x y masks (selector t i) ≡ (number y == i)
  pub at_entry : (c i : ℕ) → c < t.m → i < argument_count t → settled_at (ghpc_of t) x y masks (entry t c i) ≡ output_at t c (bit_xor (number x) i)
  pub at_masked : (c i : ℕ) → c < t.m → i < argument_count t
      → settled_at (ghpc_of t) x y masks (masked t c i) ≡ xor (output_at t c (bit_xor (number x) i)) (slice_index_or masks c false)
  pub at_held : (c i : ℕ) → c < t.m → i < argument_count t
      → settled_at (ghpc_of t) x y masks (held t c i) ≡ xor (output_at t c (bit_xor (number x) i)) (slice_index_or masks c false)
  pub at_product : (c i : ℕ) → c < t.m → i < argument_count t → settled_at (ghpc_of t) x y masks (product t c i) ≡ (number y == i && blinded t x y masks c)
  pub at_term : (c i : ℕ) → c < t.m → i < argument_count t → settled_at (ghpc_of t) x y masks (term t c i) ≡ (number y == i && blinded t x y masks c)
  pub at_partial : (c j : ℕ) → c < t.m → j < argument_count t → settled_at (ghpc_of t) x y masks (partial t c j) ≡ (nat_le (number y) j && blinded t x y masks c)
  pub at_delayed : (c : ℕ) → c < t.m → settled_at (ghpc_of t) x y masks (delayed t c) ≡ slice_index_or masks c false
  pub at_output_0 : (c : ℕ) → c < t.m → settled_at (ghpc_of t) x y masks (output_0 t c) ≡ slice_index_or masks c false
  pub at_output_1 : (c : ℕ) → c < t.m → settled_at (ghpc_of t) x y masks (output_1 t c) ≡ blinded t x y masks c

pub record Sees (t : Table) : Type 0 where
  pub from_mask : (c : ℕ) → c < t.m → seen (circuit_of (ghpc_of t)) (mask t c) ≡ alone (mask t c)
  pub from_decoded : (i : ℕ) → i < argument_count t → seen (circuit_of (ghpc_of t)) (decoded t i) ≡ among (domain_shares t true)
  pub from_selector : (i : ℕ) → i < argument_count t → seen (circuit_of (ghpc_of t)) (selector t i) ≡ alone (selector t i)
  pub from_entry : (c i : ℕ) → c < t.m → i < argument_count t → seen (circuit_of (ghpc_of t)) (entry t c i) ≡ among (domain_shares t false)
  pub from_masked : (c i : ℕ) → c < t.m → i < argument_count t → seen (circuit_of (ghpc_of t)) (masked t c i) ≡ among (domain_shares t false ++ (mask t c ∷ []))
  pub from_held : (c i : ℕ) → c < t.m → i < argument_count t → seen (circuit_of (ghpc_of t)) (held t c i) ≡ alone (held t c i)
  pub from_product : (c i : ℕ) → c < t.m → i < argument_count t → seen (circuit_of (ghpc_of t)) (product t c i) ≡ among (selector t i ∷ held t c i ∷ [])
  pub from_term : (c i : ℕ) → c < t.m → i < argument_count t → seen (circuit_of (ghpc_of t)) (term t c i) ≡ alone (term t c i)
  pub from_partial : (c j : ℕ) → c < t.m → j < argument_count t → seen (circuit_of (ghpc_of t)) (partial t c j) ≡ among (each (suc j) (term t c))
  pub from_delayed : (c : ℕ) → c < t.m → seen (circuit_of (ghpc_of t)) (delayed t c) ≡ alone (delayed t c)
  pub from_output_0 : (c : ℕ) → c < t.m → seen (circuit_of (ghpc_of t)) (output_0 t c) ≡ alone (output_0 t c)
  pub from_output_1 : (c : ℕ) → c < t.m → seen (circuit_of (ghpc_of t)) (output_1 t c) ≡ among (each (argument_count t) (term t c))
  pub from_outputs_0 : bundle (ghpc_of t) false ≡ among (each t.m (output_0 t))
  pub from_outputs_1 : bundle (ghpc_of t) true ≡ among (rows t.m (λ c. each (argument_count t) (term t c)))
