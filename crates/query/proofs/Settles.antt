-- What the traversal gives for bits, lanes and counts is what the definitions say.
use Rattle.std.proofs.Common.{◌≡◌, ℕ, zero, suc, ◌+◌, ◌<◌, ◌≤◌, min, Bool, true, false, List, [], ◌∷◌, ◌++◌, map, length, get_or, take, drop, replicate, sym, refl, ap, ◌∙◌, add-zero, zero-add, arith}
use lib.ListN.{length-map, length-replicate, get_or-map}
use Rattle.std.proofs.lemmas.Bool.{cases_eq}
use Rattle.std.proofs.lemmas.Grind.{common_steps}
use Rattle.std.proofs.lemmas.List.{get_or-drop, take-map, map-id, length-take-le, take_at, drop_at}
use Rattle.netlist.specs.Circuit.{Driver, fresh, stored, looked, Circuit, share_count, wire_count, carried, carry, more_fresh, bits, settled, counts, largest, register_counts, bit, bit_of, number}
use Rattle.isolation.proofs.Lists.{get_or_not_end}
use Rattle.isolation.proofs.Carries.{length_carry, length_settled, Respects, carry_mapped}
use Rattle.value.specs.Values.{Ops, lane, lane_ops, count_ops}
use Rattle.traverse.specs.Carrying.{given_values, filled, carried_from}
use Rattle.netlist.proofs.Bits.{bit_zero}
use Rattle.value.proofs.LaneLaws.{bit_of_eqb, lanes_one, lane_lanes}
use Rattle.traverse.proofs.Walks.{length_filled}
use Rattle.query.specs.Answers.{is_one, settled_bytes, SettledLanes}

module _ {V : Type 0} where
  filled_take : (n : ℕ) (z : V) (vs : List V) → n ≤ length vs → filled n z vs ≡ take n vs
  filled_take zero z vs h = refl
  filled_take (suc n) z [] h = absurd (omega arith)
  filled_take (suc n) z (v ∷ vs) h = ap (λ l. v ∷ l) (filled_take n z vs (omega arith))

-- bytes that are bits

bytes_back : (given : List ℕ) → ((k : ℕ) → get_or given k 0 < 2) → map bit_of (map is_one given) ≡ given
bytes_back [] h = refl
bytes_back (b ∷ bs) h = grind (arith, bit_of_eqb b (h 0), bytes_back bs (λ k. h (suc k)))

byte_at : (given : List ℕ) → ((k : ℕ) → get_or given k 0 < 2) → (i : ℕ) → bit_of (get_or (map is_one given) i false) ≡ get_or given i 0
byte_at given h i = ap bit_of (get_or-map is_one given i 0) ∙ bit_of_eqb (get_or given i 0) (h i)

lowest_back : (vs : List Bool) → map (lane 0) (map bit_of vs) ≡ vs
lowest_back [] = refl
lowest_back (true ∷ vs) = grind (arith, lowest_back vs)
lowest_back (false ∷ vs) = grind (arith, lowest_back vs)

pub settled_from : (c : Circuit) (given : List ℕ) → ((k : ℕ) → get_or given k 0 < 2) → share_count c ≤ length given → carried_from (lane_ops 1) c given ≡ settled_bytes c given
settled_from c given small long =
    sym (carry_mapped (bits masks) (given_values (lane_ops 1) given) bit_of n respects c.drivers 0 (take n (map is_one given))
    ∙ ap (λ k. carry (given_values (lane_ops 1) given) c.drivers k (map bit_of (take n (map is_one given)))) (add-zero n)
    ∙ ap (carry (given_values (lane_ops 1) given) c.drivers n) (sym (take-map bit_of n (map is_one given)) ∙ ap (take n) (bytes_back given small) ∙ sym (filled_take n 0 given long)))
  where
    n : ℕ
    n = share_count c

    masks : List Bool
    masks = drop n (map is_one given)

    respects : Respects (bits masks) (given_values (lane_ops 1) given) bit_of n
    respects = record {
      none = refl;
      source = λ w k. ap bit_of (get_or-drop n (map is_one given) k false) ∙ byte_at given small (n + k);
      store = λ w v. refl;
      look = λ t vs. sym (lanes_one (λ j. bit t (number (map (lane j) (map bit_of vs)))) ∙ ap (λ l. bit_of (bit t (number l))) (lowest_back vs));
    }

pub length_settled_bytes : (c : Circuit) (given : List ℕ) → share_count c ≤ length given → length (settled_bytes c given) ≡ wire_count c
length_settled_bytes c given h =
    length-map (settled c (take n (map is_one given)) (drop n (map is_one given))) bit_of
    ∙ length_settled c (take n (map is_one given)) (drop n (map is_one given)) (length-take-le n (map is_one given) (omega (arith, length-map given is_one)))
  where
    n : ℕ
    n = share_count c

-- lanes

lane_at : (j : ℕ) (given : List ℕ) (i : ℕ) → lane j (get_or given i 0) ≡ get_or (map (lane j) given) i false
lane_at j given i = sym (get_or-map (lane j) given i 0) ∙ ap (get_or (map (lane j) given) i) (bit_zero j)

settled_lanes : (c : Circuit) (given : List ℕ) → share_count c ≤ length given → SettledLanes c given (carried_from (lane_ops 64) c given)
settled_lanes c given long j h =
    carry_mapped (given_values (lane_ops 64) given) (bits (map (lane j) given)) (lane j) 0 one c.drivers n (filled n 0 given)
    ∙ ap (λ k. carry (bits (map (lane j) given)) c.drivers k (map (lane j) (filled n 0 given))) (zero-add n)
    ∙ ap (carry (bits (map (lane j) given)) c.drivers n) (ap (map (lane j)) (filled_take n 0 given long) ∙ sym (take-map (lane j) n given) ∙ sym (map-id (take n (map (lane j) given))))
    ∙ ap (λ k. carry (bits (map (lane j) given)) c.drivers k (map (λ x. x) (take n (map (lane j) given)))) (sym (add-zero n))
    ∙ sym (carry_mapped (bits (drop n (map (lane j) given))) (bits (map (lane j) given)) (λ x. x) n rest c.drivers 0 (take n (map (lane j) given)))
    ∙ map-id (settled c (take n (map (lane j) given)) (drop n (map (lane j) given)))
  where
    n : ℕ
    n = share_count c

    one : Respects (given_values (lane_ops 64) given) (bits (map (lane j) given)) (lane j) 0
    one = record {
      none = bit_zero j;
      source = λ w k. lane_at j given k ∙ ap (λ i. get_or (map (lane j) given) i false) (sym (zero-add k));
      store = λ w v. refl;
      look = λ t vs. lane_lanes 64 (λ i. bit t (number (map (lane i) vs))) j h;
    }

    rest : Respects (bits (drop n (map (lane j) given))) (bits (map (lane j) given)) (λ x. x) n
    rest = record {
      none = refl;
      source = λ w k. get_or-drop n (map (lane j) given) k false;
      store = λ w v. refl;
      look = λ t vs. ap (λ l. bit t (number l)) (sym (map-id vs));
    }

length_carried_from : {V : Type 0} (o : Ops V) (c : Circuit) (given : List V) → length (filled (share_count c) o.none given) ≡ share_count c → length (carried_from o c given) ≡ wire_count c
length_carried_from o c given e = length_carry (given_values o given) c.drivers (share_count c) (filled (share_count c) o.none given) ∙ ap (λ k. k + length c.drivers) e

-- the front of the words is what is carried, and the rest is as it was
pub lanes_after : (c : Circuit) (w : ℕ) (given old new : List ℕ) → w ≡ wire_count c → share_count c ≤ length given → new ≡ carried_from (lane_ops 64) c given ++ drop w old
    → SettledLanes c given (take (wire_count c) new) × (drop (wire_count c) new ≡ drop (wire_count c) old)
lanes_after c w given old new e long h =
    let n : length (carried_from (lane_ops 64) c given) ≡ wire_count c = length_carried_from (lane_ops 64) c given (length_filled (share_count c) 0 given) in
    let front : take (wire_count c) new ≡ carried_from (lane_ops 64) c given = ap (take (wire_count c)) h ∙ take_at (carried_from (lane_ops 64) c given) (drop w old) (wire_count c) n in (
      λ j l. ap (map (lane j)) front ∙ settled_lanes c given long j l,
      ap (drop (wire_count c)) h ∙ drop_at (carried_from (lane_ops 64) c given) (drop w old) (wire_count c) n ∙ ap (λ k. drop k old) e,
    )

-- counts

Bounded : List ℕ → Type 0
Bounded vs = (i : ℕ) → get_or vs i 0 ≤ length vs

largest_bounded : (vs : List ℕ) → Bounded vs → (os : List ℕ) → largest (map (λ o. get_or vs o 0) os) ≤ length vs
unfolding Bounded
largest_bounded vs b [] = omega arith
largest_bounded vs b (o ∷ os) = omega (arith, b o, largest_bounded vs b os)

carried_bounded : (c : Driver) (k : ℕ) (vs : List ℕ) → Bounded vs → carried counts c k vs ≤ suc (length vs)
unfolding Bounded
carried_bounded fresh k vs b = omega arith
carried_bounded (stored a) k vs b = omega (arith, b a)
carried_bounded (looked t os) k vs b = omega (arith, largest_bounded vs b os)

bounded_push : (vs : List ℕ) (v : ℕ) → Bounded vs → v ≤ suc (length vs) → Bounded (vs ++ (v ∷ []))
unfolding Bounded
bounded_push vs v b h i = grind (arith, common_steps, b i, get_or_not_end, cases_eq i (length vs))

counts_bounded : (cs : List Driver) (k : ℕ) (vs : List ℕ) → Bounded vs → Bounded (carry counts cs k vs)
counts_bounded [] k vs b = b
counts_bounded (c ∷ cs) k vs b = counts_bounded cs (more_fresh c k) (vs ++ (carried counts c k vs ∷ [])) (bounded_push vs (carried counts c k vs) b (carried_bounded c k vs b))

cap_small : (vs : List ℕ) → ((i : ℕ) → get_or vs i 0 ≤ 65535) → map (min 65535) vs ≡ vs
cap_small [] b = refl
cap_small (v ∷ vs) b = grind (arith, b 0, cap_small vs (λ i. b (suc i)))

cap_zeros : (n : ℕ) → map (min 65535) (replicate n 0) ≡ filled n 0 []
cap_zeros zero = refl
cap_zeros (suc n) = ap (λ l. 0 ∷ l) (cap_zeros n)

cap_largest : (vs : List ℕ) → min 65535 (largest vs) ≡ largest (map (min 65535) vs)
cap_largest [] = refl
cap_largest (v ∷ vs) = omega (arith, cap_largest vs)

pub length_register_counts : (c : Circuit) → length (register_counts c) ≡ wire_count c
length_register_counts c = length_carry counts c.drivers 0 (replicate (share_count c) 0) ∙ ap (λ k. k + length c.drivers) (length-replicate (share_count c) 0)

pub counts_from : (c : Circuit) → wire_count c ≤ 4096 → carried_from count_ops c [] ≡ register_counts c
unfolding Bounded
counts_from c few =
    ap (λ l. carry (given_values count_ops []) c.drivers n l) (sym (cap_zeros n))
    ∙ ap (λ k. carry (given_values count_ops []) c.drivers k (map (min 65535) (replicate n 0))) (sym (add-zero n))
    ∙ sym (carry_mapped counts (given_values count_ops []) (min 65535) n respects c.drivers 0 (replicate n 0))
    ∙ cap_small (register_counts c) (λ i. omega (arith, bound i, length_register_counts c))
  where
    n : ℕ
    n = share_count c

    bound : (i : ℕ) → get_or (register_counts c) i 0 ≤ length (register_counts c)
    bound = counts_bounded c.drivers 0 (replicate n 0) (λ i. grind (arith, common_steps))

    respects : Respects counts (given_values count_ops []) (min 65535) n
    respects = record {
      none = refl;
      source = λ w k. refl;
      store = λ w v. omega arith;
      look = λ t vs. cap_largest vs;
    }
