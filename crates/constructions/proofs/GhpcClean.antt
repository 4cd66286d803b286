-- What a probe on each wire of GHPC sees is narrow and clean in a domain, and so is each bundle in its own.
use Rattle.std.proofs.Common.{◌≡◌, ℕ, suc, ◌*◌, ◌<◌, ◌≤◌, Bool, true, false, ◌&&◌, eqb, List, [], ◌∷◌, ◌++◌, length, get_or, sym, ap, ◌∙◌, mul-le-mul, arith, length-append}
use lib.Bits.{bit_xor}
use Rattle.std.specs.List.{AllByRecursion}
use Rattle.std.proofs.ByRecursion.{All-append}
use Rattle.netlist.specs.Circuit.{number, Wires, mask_count, seen}
use Rattle.isolation.specs.Patterns.{xor, xors, share_wire}
use Rattle.isolation.proofs.Xors.{get_or_xors}
use Rattle.isolation.proofs.Sets.{among_one}
use Rattle.isolation.proofs.Shares.{share_below}
use Rattle.isolation.proofs.Inputs.{seen_share}
use Rattle.isolation.proofs.Criteria.{Restored, Still, still_share}
use Rattle.block.specs.Blocks.{Table, LawfulTable, output_at}
use Rattle.verdict.specs.Rules.{circuit_of, bundle}
use Rattle.constructions.specs.Gates.{each, rows, argument_count, domain_shares, among}
use Rattle.constructions.specs.Ghpc.{mask, decoded, selector, entry, masked, held, product, term, partial, delayed, output_0, ghpc_of}
use Rattle.constructions.proofs.Rows.{length_each, get_or_each, length_rows, all_each, all_rows}
use Rattle.constructions.proofs.Selecting.{taken_up}
use Rattle.constructions.proofs.Inputs.{still_shares}
use Rattle.constructions.proofs.Known.{Isolated, known_alone, known_still, known_restored}
use Rattle.constructions.proofs.GhpcCounts.{masks_ghpc}
use Rattle.constructions.proofs.Numbers.{most_arguments}
use Rattle.constructions.proofs.GhpcValues.{settles}
use Rattle.constructions.proofs.GhpcProbes.{probes_see}

module _ (t : Table) (l : LawfulTable t) where
  -- the shift that makes up for a change of domain 0 from y to z, where domain 1 is taken to be k
  abbrev change : ℕ → List Bool → List Bool → ℕ → Bool
  change k y z c = xor (output_at t c (bit_xor (number y) k)) (output_at t c (bit_xor (number z) k))

  abbrev makes_up : ℕ → List Bool → List Bool → List Bool
  makes_up k y z = each t.m (change k y z)

  length_makes_up : (k : ℕ) (y z : List Bool) → length (makes_up k y z) ≡ mask_count (circuit_of (ghpc_of t))
  length_makes_up k y z = length_each t.m (change k y z) ∙ sym (masks_ghpc t l)

  made_up : (k c : ℕ) (y z masks : List Bool) → c < t.m
      → xor (output_at t c (bit_xor (number y) k)) (get_or masks c false) ≡ xor (output_at t c (bit_xor (number z) k)) (get_or (xors masks (makes_up k y z)) c false)
  made_up k c y z masks h =
      taken_up (output_at t c (bit_xor (number y) k)) (output_at t c (bit_xor (number z) k)) (get_or masks c false)
      ∙ ap (xor (output_at t c (bit_xor (number z) k)))
      (sym (get_or_xors masks (makes_up k y z) c ∙ ap (xor (get_or masks c false)) (get_or_each t.m (change k y z) c false h)))

  -- wires that do not turn on the other domain
  still_mask : (c : ℕ) → c < t.m → Still (circuit_of (ghpc_of t)) false (mask t c)
  still_mask c h x y z masks hx hy hz = (settles t l x y masks hx hy).at_mask c h ∙ sym ((settles t l x z masks hx hz).at_mask c h)

  still_selector : (i : ℕ) → i < argument_count t → Still (circuit_of (ghpc_of t)) true (selector t i)
  still_selector i h x y z masks hx hy hz = (settles t l y x masks hy hx).at_selector i h ∙ sym ((settles t l z x masks hz hx).at_selector i h)

  still_held : (c i : ℕ) → c < t.m → i < argument_count t → Still (circuit_of (ghpc_of t)) false (held t c i)
  still_held c i h b x y z masks hx hy hz = (settles t l x y masks hx hy).at_held c i h b ∙ sym ((settles t l x z masks hx hz).at_held c i h b)

  still_delayed : (c : ℕ) → c < t.m → Still (circuit_of (ghpc_of t)) false (delayed t c)
  still_delayed c h x y z masks hx hy hz = (settles t l x y masks hx hy).at_delayed c h ∙ sym ((settles t l x z masks hx hz).at_delayed c h)

  still_output_0 : (c : ℕ) → c < t.m → Still (circuit_of (ghpc_of t)) false (output_0 t c)
  still_output_0 c h x y z masks hx hy hz = (settles t l x y masks hx hy).at_output_0 c h ∙ sym ((settles t l x z masks hx hz).at_output_0 c h)

  -- wires that a shift of the masks restores
  restored_selector : (i k : ℕ) → i < argument_count t → Restored (circuit_of (ghpc_of t)) true (λ x y z. makes_up k y z) (selector t i)
  restored_selector i k h x y z masks hx hy hz hm =
      (settles t l y x masks hy hx).at_selector i h ∙ sym ((settles t l z x (xors masks (makes_up k y z)) hz hx).at_selector i h)

  restored_held : (c i : ℕ) → c < t.m → i < argument_count t → Restored (circuit_of (ghpc_of t)) true (λ x y z. makes_up i y z) (held t c i)
  restored_held c i h b x y z masks hx hy hz hm =
      (settles t l y x masks hy hx).at_held c i h b
      ∙ made_up i c y z masks h
      ∙ sym ((settles t l z x (xors masks (makes_up i y z)) hz hx).at_held c i h b)

  restored_term : (c i : ℕ) → c < t.m → i < argument_count t → Restored (circuit_of (ghpc_of t)) true (λ x y z. makes_up (number x) y z) (term t c i)
  restored_term c i h b x y z masks hx hy hz hm =
      (settles t l y x masks hy hx).at_term c i h b
      ∙ ap (λ s. eqb (number x) i && s) (made_up (number x) c y z masks h)
      ∙ sym ((settles t l z x (xors masks (makes_up (number x) y z)) hz hx).at_term c i h b)

  -- what probes see
  length_shares : (d : Bool) → length (domain_shares t d) ≤ 4
  length_shares d = let e = length_each t.n (share_wire d) in omega (arith, l.few_inputs)

  abbrev Fine : Bool → ℕ → Type 0
  Fine d w = Isolated (ghpc_of t) d (seen (circuit_of (ghpc_of t)) w)

  terms_restored : (S : Wires) (ws : List ℕ) → S ≡ among ws → length ws ≤ 64
      → AllByRecursion (Restored (circuit_of (ghpc_of t)) true (λ x y z. makes_up (number x) y z)) ws → Isolated (ghpc_of t) true S
  terms_restored = known_restored (ghpc_of t) true (λ x y z. makes_up (number x) y z) (λ x y z. length_makes_up (number x) y z)

  pub fine_share : (d : Bool) (i : ℕ) → i < t.n → Fine d (share_wire d i)
  fine_share d i h =
      known_alone (ghpc_of t) d (share_wire d i) (seen_share (circuit_of (ghpc_of t)) (share_wire d i) (share_below d i t.n h))
      (still_share (circuit_of (ghpc_of t)) d i h)

  pub fine_mask : (c : ℕ) → c < t.m → Fine false (mask t c)
  fine_mask c h = known_alone (ghpc_of t) false (mask t c) ((probes_see t l).from_mask c h) (still_mask c h)

  pub fine_decoded : (i : ℕ) → i < argument_count t → Fine true (decoded t i)
  fine_decoded i h =
      known_still (ghpc_of t) true (seen (circuit_of (ghpc_of t)) (decoded t i)) (domain_shares t true) ((probes_see t l).from_decoded i h)
      (omega (arith, length_shares true)) (still_shares (ghpc_of t) true)

  pub fine_selector : (i : ℕ) → i < argument_count t → Fine true (selector t i)
  fine_selector i h = known_alone (ghpc_of t) true (selector t i) ((probes_see t l).from_selector i h) (still_selector i h)

  pub fine_entry : (c i : ℕ) → c < t.m → i < argument_count t → Fine false (entry t c i)
  fine_entry c i h b =
      known_still (ghpc_of t) false (seen (circuit_of (ghpc_of t)) (entry t c i)) (domain_shares t false) ((probes_see t l).from_entry c i h b)
      (omega (arith, length_shares false)) (still_shares (ghpc_of t) false)

  pub fine_masked : (c i : ℕ) → c < t.m → i < argument_count t → Fine false (masked t c i)
  fine_masked c i h b =
      known_still (ghpc_of t) false (seen (circuit_of (ghpc_of t)) (masked t c i)) (domain_shares t false ++ (mask t c ∷ [])) ((probes_see t l).from_masked c i h b)
      (omega (arith, length-append (domain_shares t false) (mask t c ∷ []), length_shares false))
      (All-append (Still (circuit_of (ghpc_of t)) false) (domain_shares t false) (mask t c ∷ []) (still_shares (ghpc_of t) false) (still_mask c h, tt))

  pub fine_held : (c i : ℕ) → c < t.m → i < argument_count t → Fine false (held t c i)
  fine_held c i h b = known_alone (ghpc_of t) false (held t c i) ((probes_see t l).from_held c i h b) (still_held c i h b)

  pub fine_product : (c i : ℕ) → c < t.m → i < argument_count t → Fine true (product t c i)
  fine_product c i h b =
      known_restored (ghpc_of t) true (λ x y z. makes_up i y z) (λ x y z. length_makes_up i y z) (seen (circuit_of (ghpc_of t)) (product t c i))
      (selector t i ∷ held t c i ∷ []) ((probes_see t l).from_product c i h b) (omega arith) (restored_selector i i b, (restored_held c i h b, tt))

  pub fine_term : (c i : ℕ) → c < t.m → i < argument_count t → Fine true (term t c i)
  fine_term c i h b =
      terms_restored (seen (circuit_of (ghpc_of t)) (term t c i)) (term t c i ∷ []) ((probes_see t l).from_term c i h b ∙ among_one (term t c i)) (omega arith)
      (restored_term c i h b, tt)

  pub fine_partial : (c j : ℕ) → c < t.m → j < argument_count t → Fine true (partial t c j)
  fine_partial c j h b =
      terms_restored (seen (circuit_of (ghpc_of t)) (partial t c j)) (each (suc j) (term t c)) ((probes_see t l).from_partial c j h b)
      (omega (arith, most_arguments t l, length_each (suc j) (term t c)))
      (all_each (Restored (circuit_of (ghpc_of t)) true (λ x y z. makes_up (number x) y z)) (suc j) (term t c) (λ i k. restored_term c i h (omega arith)))

  pub fine_delayed : (c : ℕ) → c < t.m → Fine false (delayed t c)
  fine_delayed c h = known_alone (ghpc_of t) false (delayed t c) ((probes_see t l).from_delayed c h) (still_delayed c h)

  pub fine_output_0 : (c : ℕ) → c < t.m → Fine false (output_0 t c)
  fine_output_0 c h = known_alone (ghpc_of t) false (output_0 t c) ((probes_see t l).from_output_0 c h) (still_output_0 c h)

  pub fine_bundle : (d : Bool) → Isolated (ghpc_of t) d (bundle (ghpc_of t) d)
  fine_bundle false =
      known_still (ghpc_of t) false (bundle (ghpc_of t) false) (each t.m (output_0 t)) (probes_see t l).from_outputs_0
      (omega (arith, l.few_outputs, length_each t.m (output_0 t)))
      (all_each (Still (circuit_of (ghpc_of t)) false) t.m (output_0 t) still_output_0)
  fine_bundle true =
      let few : t.m * argument_count t ≤ 4 * 16 = mul-le-mul l.few_outputs (most_arguments t l) in
      terms_restored (bundle (ghpc_of t) true) (rows t.m (λ c. each (argument_count t) (term t c))) (probes_see t l).from_outputs_1
      (omega (arith, length_rows t.m (argument_count t) (λ c. each (argument_count t) (term t c)) (λ c. length_each (argument_count t) (term t c))))
      (all_rows (Restored (circuit_of (ghpc_of t)) true (λ x y z. makes_up (number x) y z)) t.m (λ c. each (argument_count t) (term t c))
      (λ c h. all_each (Restored (circuit_of (ghpc_of t)) true (λ x y z. makes_up (number x) y z)) (argument_count t) (term t c) (λ i b. restored_term c i h b)))
