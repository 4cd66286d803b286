-- The shares of both domains in wire order.
use Rattle.std.proofs.Common.{◌≡◌, ℕ, zero, suc, ◌+◌, ◌*◌, ◌<◌, Bool, true, false, not, List, [], ◌∷◌, map, length, get_or, sym, refl, ap, ◌∙◌, arith}
use Rattle.netlist.specs.Circuit.{Circuit, bits, settled}
use Rattle.isolation.specs.Patterns.{interleave, shares, share_wire}
use Rattle.isolation.proofs.Carries.{carry_before}

module _ {A : Type 0} where
  length_interleave : (xs ys : List A) → length xs ≡ length ys → length (interleave xs ys) ≡ 2 * length xs
  length_interleave [] ys h = refl
  length_interleave (x ∷ xs) [] h = absurd (omega arith)
  length_interleave (x ∷ xs) (y ∷ ys) h =
      let e : length xs ≡ length ys = omega arith in
      let r = length_interleave xs ys e in omega arith

  pub length_shares : (d : Bool) (xs ys : List A) (n : ℕ) → length xs ≡ n → length ys ≡ n → length (shares d xs ys) ≡ 2 * n
  length_shares false xs ys n h k = let r = length_interleave xs ys (h ∙ sym k) in omega arith
  length_shares true xs ys n h k = let r = length_interleave ys xs (k ∙ sym h) in omega arith

  module _ (z : A) where
    at_share_0 : (xs ys : List A) (i : ℕ) → length xs ≡ length ys → get_or (interleave xs ys) (share_wire false i) z ≡ get_or xs i z
    at_share_0 [] ys i h = refl
    at_share_0 (x ∷ xs) [] i h = absurd (omega arith)
    at_share_0 (x ∷ xs) (y ∷ ys) zero h = refl
    at_share_0 (x ∷ xs) (y ∷ ys) (suc i) h = let e : 2 * suc i + 0 ≡ suc (suc (2 * i + 0)) = omega arith in rw e (at_share_0 xs ys i (omega arith))

    at_share_1 : (xs ys : List A) (i : ℕ) → length xs ≡ length ys → get_or (interleave xs ys) (share_wire true i) z ≡ get_or ys i z
    at_share_1 [] [] i h = refl
    at_share_1 [] (y ∷ ys) i h = absurd (omega arith)
    at_share_1 (x ∷ xs) [] i h = absurd (omega arith)
    at_share_1 (x ∷ xs) (y ∷ ys) zero h = refl
    at_share_1 (x ∷ xs) (y ∷ ys) (suc i) h = let e : 2 * suc i + 1 ≡ suc (suc (2 * i + 1)) = omega arith in rw e (at_share_1 xs ys i (omega arith))

    -- own shares, and the other domain's
    pub at_own_share : (d : Bool) (xs ys : List A) (i : ℕ) → length xs ≡ length ys → get_or (shares d xs ys) (share_wire d i) z ≡ get_or xs i z
    at_own_share false xs ys i h = at_share_0 xs ys i h
    at_own_share true xs ys i h = at_share_1 ys xs i (sym h)

    pub at_other_share : (d : Bool) (xs ys : List A) (i : ℕ) → length xs ≡ length ys → get_or (shares d xs ys) (share_wire (not d) i) z ≡ get_or ys i z
    at_other_share false xs ys i h = at_share_1 xs ys i h
    at_other_share true xs ys i h = at_share_0 ys xs i (sym h)

pub map_interleave : {A B : Type 0} (f : A → B) (xs ys : List A) → map f (interleave xs ys) ≡ interleave (map f xs) (map f ys)
map_interleave f [] ys = refl
map_interleave f (x ∷ xs) [] = refl
map_interleave f (x ∷ xs) (y ∷ ys) = ap (λ r. f x ∷ f y ∷ r) (map_interleave f xs ys)

-- every wire below 2n is a share of an input below n
pub share_of : (w n : ℕ) → w < 2 * n → (d : Bool) × (i : ℕ) × (i < n) × (w ≡ share_wire d i)
share_of zero n h = (false, 0, omega arith, refl)
share_of (suc zero) n h = (true, 0, omega arith, refl)
share_of (suc (suc w)) zero h = absurd (omega arith)
share_of (suc (suc w)) (suc n) h = let r = share_of w n (omega arith) in (r.0, suc r.1, omega (arith, r.2), omega (arith, r.3))

pub share_below : (d : Bool) (i n : ℕ) → i < n → share_wire d i < 2 * n
share_below false i n h = omega arith
share_below true i n h = omega arith

module _ (c : Circuit) (d : Bool) (x y m : List Bool) (hx : length x ≡ c.inputs) (hy : length y ≡ c.inputs) (i : ℕ) (h : i < c.inputs) where
  settled_share : (e : Bool) → get_or (settled c (shares d x y) m) (share_wire e i) false ≡ get_or (shares d x y) (share_wire e i) false
  settled_share e = carry_before (bits m) c.drivers 0 (shares d x y) (share_wire e i) false (omega (arith, length_shares d x y c.inputs hx hy, share_below e i c.inputs h))

  -- what the shares settle to
  pub settled_own_share : get_or (settled c (shares d x y) m) (share_wire d i) false ≡ get_or x i false
  settled_own_share = settled_share d ∙ at_own_share false d x y i (hx ∙ sym hy)

  pub settled_other_share : get_or (settled c (shares d x y) m) (share_wire (not d) i) false ≡ get_or y i false
  settled_other_share = settled_share (not d) ∙ at_other_share false d x y i (hx ∙ sym hy)
