-- What each wire of GHPC_LL settles to, and that its outputs recombine.
use Rattle.std.proofs.Common.{◌≡◌, ℕ, zero, suc, pred, ◌*◌, ◌<◌, Bool, true, false, ◌&&◌, eqb, leb, List, length, sym, ap, ◌∙◌, ap₂, arith}
use lib.Bits.{bit_xor}
use Rattle.std.proofs.lemmas.Bool.{le-leb}
use Rattle.netlist.specs.Circuit.{number, bit, bits}
use Rattle.isolation.specs.Patterns.{interleave, xor}
use Rattle.isolation.proofs.Shares.{length_shares}
use Rattle.block.specs.Blocks.{Table, LawfulTable, output_at}
use Rattle.verdict.specs.Rules.{settled_at, in_domain, Recombines}
use Rattle.constructions.specs.Gates.{argument_count, table_of}
use Rattle.constructions.specs.LowLatency.{mask, decoded, selector, entry, masked, held, product_1, product_0, partial_1, partial_0, output_0, output_1, outputs_of, low_latency_of}
use Rattle.constructions.specs.LowLatencyForms.{mask_bit, selected_mask, blinded, Settles}
use Rattle.constructions.proofs.Rows.{get_or_each}
use Rattle.constructions.proofs.Numbers.{some_arguments, number_fits, bit_table, look_xor, look_and, number_xors}
use Rattle.constructions.proofs.Selecting.{up_to_none, up_to_more, selected_one, and_xor, unmasked}
use Rattle.constructions.proofs.Inputs.{settled_0, settled_1}
use Rattle.constructions.proofs.LowEquations.{on_mask, on_decoded, on_selector, on_entry, on_masked, on_held, on_product_1, on_product_0, on_partial_1, on_partial_0, on_output_0}

module _ (t : Table) (l : LawfulTable t) (x y masks : List Bool) (hx : length x ≡ t.n) (hy : length y ≡ t.n) where
  abbrev value : ℕ → Bool
  value = settled_at (low_latency_of t) x y masks

  long : length (interleave x y) ≡ 2 * t.n
  long = length_shares false x y t.n hx hy

  value_mask : (c i : ℕ) → c < t.m → i < argument_count t → value (mask t c i) ≡ mask_bit t masks c i
  value_mask c i h b = on_mask t l (bits masks) (interleave x y) long c i h b

  value_decoded : (i : ℕ) → i < argument_count t → value (decoded t i) ≡ eqb (number y) i
  value_decoded i h =
      on_decoded t l (bits masks) (interleave x y) long i h
      ∙ ap (λ s. bit (table_of t (λ a. eqb a i)) (number s)) (settled_1 (low_latency_of t) x y masks hx hy)
      ∙ bit_table t (λ a. eqb a i) (number y) (number_fits t.n y hy)

  value_selector : (i : ℕ) → i < argument_count t → value (selector t i) ≡ eqb (number y) i
  value_selector i h = on_selector t l (bits masks) (interleave x y) long i h ∙ value_decoded i h

  -- all are joined
  up_to_all : leb (number y) (pred (argument_count t)) ≡ true
  up_to_all = le-leb (number y) (pred (argument_count t)) (omega (arith, number_fits t.n y hy))

  module _ (c : ℕ) (h : c < t.m) where
    value_entry : (i : ℕ) → i < argument_count t → value (entry t c i) ≡ output_at t c (bit_xor (number x) i)
    value_entry i b =
        on_entry t l (bits masks) (interleave x y) long c h i b
        ∙ ap (λ s. bit (table_of t (λ a. output_at t c (bit_xor a i))) (number s)) (settled_0 (low_latency_of t) x y masks hx hy)
        ∙ bit_table t (λ a. output_at t c (bit_xor a i)) (number x) (number_fits t.n x hx)

    value_masked : (i : ℕ) → i < argument_count t → value (masked t c i) ≡ xor (output_at t c (bit_xor (number x) i)) (mask_bit t masks c i)
    value_masked i b =
        on_masked t l (bits masks) (interleave x y) long c h i b
        ∙ look_xor (value (entry t c i)) (value (mask t c i))
        ∙ ap₂ xor (value_entry i b) (value_mask c i h b)

    value_held : (i : ℕ) → i < argument_count t → value (held t c i) ≡ xor (output_at t c (bit_xor (number x) i)) (mask_bit t masks c i)
    value_held i b = on_held t l (bits masks) (interleave x y) long c h i b ∙ value_masked i b

    value_product_1 : (i : ℕ) → i < argument_count t → value (product_1 t c i) ≡ (eqb (number y) i && blinded t x y masks c)
    value_product_1 i b =
        on_product_1 t l (bits masks) (interleave x y) long c h i b
        ∙ look_and (value (selector t i)) (value (held t c i))
        ∙ ap₂ ◌&&◌ (value_selector i b) (value_held i b)
        ∙ selected_one (number y) i (λ k. xor (output_at t c (bit_xor (number x) k)) (mask_bit t masks c k))

    value_product_0 : (i : ℕ) → i < argument_count t → value (product_0 t c i) ≡ (eqb (number y) i && selected_mask t y masks c)
    value_product_0 i b =
        on_product_0 t l (bits masks) (interleave x y) long c h i b
        ∙ look_and (value (decoded t i)) (value (mask t c i))
        ∙ ap₂ ◌&&◌ (value_decoded i b) (value_mask c i h b)
        ∙ selected_one (number y) i (mask_bit t masks c)

    value_partial_1 : (j : ℕ) → j < argument_count t → value (partial_1 t c j) ≡ (leb (number y) j && blinded t x y masks c)
    value_partial_1 zero b = value_product_1 0 b ∙ ap (λ s. s && blinded t x y masks c) (up_to_none (number y))
    value_partial_1 (suc j) b =
        on_partial_1 t l (bits masks) (interleave x y) long c h j (omega arith)
        ∙ look_xor (value (partial_1 t c j)) (value (product_1 t c (suc j)))
        ∙ ap₂ xor (value_partial_1 j (omega arith)) (value_product_1 (suc j) b)
        ∙ and_xor (leb (number y) j) (eqb (number y) (suc j)) (blinded t x y masks c)
        ∙ ap (λ s. s && blinded t x y masks c) (up_to_more (number y) j)

    value_partial_0 : (j : ℕ) → j < argument_count t → value (partial_0 t c j) ≡ (leb (number y) j && selected_mask t y masks c)
    value_partial_0 zero b = value_product_0 0 b ∙ ap (λ s. s && selected_mask t y masks c) (up_to_none (number y))
    value_partial_0 (suc j) b =
        on_partial_0 t l (bits masks) (interleave x y) long c h j (omega arith)
        ∙ look_xor (value (partial_0 t c j)) (value (product_0 t c (suc j)))
        ∙ ap₂ xor (value_partial_0 j (omega arith)) (value_product_0 (suc j) b)
        ∙ and_xor (leb (number y) j) (eqb (number y) (suc j)) (selected_mask t y masks c)
        ∙ ap (λ s. s && selected_mask t y masks c) (up_to_more (number y) j)

    value_output_0 : value (output_0 t c) ≡ selected_mask t y masks c
    value_output_0 =
        on_output_0 t l (bits masks) (interleave x y) long c h
        ∙ value_partial_0 (pred (argument_count t)) (omega (arith, some_arguments t))
        ∙ ap (λ s. s && selected_mask t y masks c) up_to_all

    value_output_1 : value (output_1 t c) ≡ blinded t x y masks c
    value_output_1 = value_partial_1 (pred (argument_count t)) (omega (arith, some_arguments t)) ∙ ap (λ s. s && blinded t x y masks c) up_to_all

  pub settles : Settles t x y masks
  settles = record {
    at_mask = value_mask;
    at_decoded = value_decoded;
    at_selector = value_selector;
    at_entry = λ c i h. value_entry c h i;
    at_masked = λ c i h. value_masked c h i;
    at_held = λ c i h. value_held c h i;
    at_product_1 = λ c i h. value_product_1 c h i;
    at_product_0 = λ c i h. value_product_0 c h i;
    at_partial_1 = λ c j h. value_partial_1 c h j;
    at_partial_0 = λ c j h. value_partial_0 c h j;
    at_output_0 = value_output_0;
    at_output_1 = value_output_1;
  }

pub recombines : (t : Table) → LawfulTable t → Recombines (low_latency_of t)
recombines t l c h x y masks hx hy hm =
    let s = settles t l x y masks hx hy in
    let e = get_or_each t.m (outputs_of t) c (0, 0) h in
    ap₂ (λ u v. xor (settled_at (low_latency_of t) x y masks u) (settled_at (low_latency_of t) x y masks v)) (ap (in_domain false) e) (ap (in_domain true) e)
    ∙ ap₂ xor (s.at_output_0 c h) (s.at_output_1 c h)
    ∙ unmasked (selected_mask t y masks c) (output_at t c (bit_xor (number x) (number y)))
    ∙ ap (output_at t c) (sym (number_xors x y))
