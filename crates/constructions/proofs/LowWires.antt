-- Every wire of GHPC_LL is of one class.
use Rattle.std.proofs.Common.{◌≡◌, ℕ, suc, pred, ◌+◌, ◌-◌, ◌*◌, ◌/◌, ◌%◌, ◌<◌, Bool, sym, subst, arith}
use native.Mathlib.Decide.{dec_lt}
use Rattle.isolation.specs.Patterns.{share_wire}
use Rattle.isolation.proofs.Shares.{share_of}
use Rattle.block.specs.Blocks.{Table}
use Rattle.constructions.specs.Gates.{argument_count}
use Rattle.constructions.specs.LowLatency.{mask, decoded, selector, breadth, start, entry, masked, held, product_1, product_0, partial_1, partial_0, output_0}
use Rattle.constructions.proofs.Numbers.{some_arguments}
use Rattle.constructions.proofs.Rows.{row_at}
use Rattle.constructions.proofs.Frame.{each_place}
use Rattle.constructions.proofs.Small.{of_two, of_five}

-- Q holds of the wires of each class
pub record Classes (t : Table) (Q : ℕ → Type 0) : Type 0 where
  pub of_share : (d : Bool) (i : ℕ) → i < t.n → Q (share_wire d i)
  pub of_mask : (c i : ℕ) → c < t.m → i < argument_count t → Q (mask t c i)
  pub of_decoded : (i : ℕ) → i < argument_count t → Q (decoded t i)
  pub of_selector : (i : ℕ) → i < argument_count t → Q (selector t i)
  pub of_entry : (c i : ℕ) → c < t.m → i < argument_count t → Q (entry t c i)
  pub of_masked : (c i : ℕ) → c < t.m → i < argument_count t → Q (masked t c i)
  pub of_held : (c i : ℕ) → c < t.m → i < argument_count t → Q (held t c i)
  pub of_product_1 : (c i : ℕ) → c < t.m → i < argument_count t → Q (product_1 t c i)
  pub of_product_0 : (c i : ℕ) → c < t.m → i < argument_count t → Q (product_0 t c i)
  pub of_partial_1 : (c j : ℕ) → c < t.m → j < pred (argument_count t) → Q (partial_1 t c (suc j))
  pub of_partial_0 : (c j : ℕ) → c < t.m → j < pred (argument_count t) → Q (partial_0 t c (suc j))
  pub of_output_0 : (c : ℕ) → c < t.m → Q (output_0 t c)

module _ (t : Table) (Q : ℕ → Type 0) (q : Classes t Q) where
  in_shares : (w : ℕ) → w < 2 * t.n → Q w
  in_shares w h = let s = share_of w t.n h in subst Q (sym s.3) (q.of_share s.0 s.1 s.2)

  in_masks : (k : ℕ) → k < t.m * argument_count t → Q (2 * t.n + k)
  in_masks k h =
      let s = row_at t.m (argument_count t) k (some_arguments t) h in
      subst (λ k. Q (2 * t.n + k)) s.2 (q.of_mask (k / argument_count t) (k % argument_count t) s.0 s.1)

  in_selectors : (i r : ℕ) → i < argument_count t → r < 2 → Q (decoded t i + r)
  in_selectors i r h b =
      let z : decoded t i ≡ decoded t i + 0 = omega arith in
      of_two r (λ r. Q (decoded t i + r)) b (subst Q z (q.of_decoded i h)) (q.of_selector i h)

  in_products : (c j : ℕ) → c < t.m → j < argument_count t * 5 → Q (start t c + j)
  in_products c j h b =
      let i = j / 5 in
      let s = row_at (argument_count t) 5 j (omega arith) b in
      let z : entry t c i + j % 5 ≡ start t c + j = omega (arith, s.2) in
      let z0 : entry t c i ≡ entry t c i + 0 = omega arith in
      subst Q z
      (of_five (j % 5) (λ r. Q (entry t c i + r)) s.1 (subst Q z0 (q.of_entry c i h s.0)) (q.of_masked c i h s.0) (q.of_held c i h s.0)
      (q.of_product_1 c i h s.0) (q.of_product_0 c i h s.0))

  in_output : (c j : ℕ) → c < t.m → j < breadth t → Q (start t c + j)
  in_output c j h b = go (dec_lt j (argument_count t * 5)) (dec_lt j (argument_count t * 5 + pred (argument_count t))) (dec_lt j (argument_count t * 5 + pred (argument_count t) * 2))
    where
      go : Dec (j < argument_count t * 5) → Dec (j < argument_count t * 5 + pred (argument_count t)) → Dec (j < argument_count t * 5 + pred (argument_count t) * 2) → Q (start t c + j)
      go (yes p) r s = in_products c j h p
      go (no p) (yes r) s =
          let z : start t c + 5 * argument_count t + (j - argument_count t * 5) ≡ start t c + j = omega arith in
          subst Q z (q.of_partial_1 c (j - argument_count t * 5) h (omega arith))
      go (no p) (no r) (yes s) =
          let z : start t c + 5 * argument_count t + pred (argument_count t) + (j - (argument_count t * 5 + pred (argument_count t))) ≡ start t c + j = omega arith in
          subst Q z (q.of_partial_0 c (j - (argument_count t * 5 + pred (argument_count t))) h (omega arith))
      go (no p) (no r) (no s) = let z : output_0 t c ≡ start t c + j = omega arith in subst Q z (q.of_output_0 c h)

  pub each_wire : (w : ℕ) → w < 2 * t.n + t.m * argument_count t + 2 * argument_count t + t.m * breadth t → Q w
  each_wire = each_place (2 * t.n) (t.m * argument_count t) (argument_count t) t.m (breadth t) Q (omega arith) in_shares in_masks in_selectors in_output
