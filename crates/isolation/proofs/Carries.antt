-- What holds of every carrying: its length, its beginning, masks that nothing reads, carrying the same values once more, and the same cells carried as two things.
use Rattle.std.proofs.Common.{◌≡◌, ℕ, suc, ◌+◌, ◌<◌, ◌≤◌, Bool, false, List, [], ◌∷◌, ◌++◌, map, length, get_or, sym, refl, ap, ◌∙◌, append_assoc, append-nil, add-zero, add-suc, arith, length-append}
use lib.ListN.{get_or-append, get_or-map}
use lib.Seq.{get_or-append_seam}
use Rattle.std.proofs.lemmas.List.{map_push, length-map}
use Rattle.netlist.specs.Circuit.{Driver, fresh, stored, looked, Circuit, share_count, wire_count, Carrier, carried, carry, more_fresh, fresh_after, bits, bit, number, settled}

module _ {V : Type 0} (A : Carrier V) where
  pub length_carry : (cs : List Driver) (k : ℕ) (vs : List V) → length (carry A cs k vs) ≡ length vs + length cs
  length_carry [] k vs = sym (add-zero (length vs))
  length_carry (c ∷ cs) k vs =
      let r = length_carry cs (more_fresh c k) (vs ++ (carried A c k vs ∷ [])) in
      let e = length-append vs (carried A c k vs ∷ []) in
      omega arith

  pub carry_append : (cs ds : List Driver) (k : ℕ) (vs : List V) → carry A (cs ++ ds) k vs ≡ carry A ds (fresh_after cs k) (carry A cs k vs)
  carry_append [] ds k vs = refl
  carry_append (c ∷ cs) ds k vs = carry_append cs ds (more_fresh c k) (vs ++ (carried A c k vs ∷ []))

  pub carry_extends : (cs : List Driver) (k : ℕ) (vs : List V) → (more : List V) × (carry A cs k vs ≡ vs ++ more)
  carry_extends [] k vs = ([], sym (append-nil vs))
  carry_extends (c ∷ cs) k vs =
      let r = carry_extends cs (more_fresh c k) (vs ++ (carried A c k vs ∷ [])) in
      (carried A c k vs ∷ r.0, r.1 ∙ append_assoc vs (carried A c k vs ∷ []) r.0)

  pub carry_before : (cs : List Driver) (k : ℕ) (vs : List V) (i : ℕ) (z : V) → i < length vs → get_or (carry A cs k vs) i z ≡ get_or vs i z
  carry_before cs k vs i z h =
      let r = carry_extends cs k vs in
      ap (λ l. get_or l i z) r.1 ∙ get_or-append vs r.0 z i h

pub length_settled : (c : Circuit) (s m : List Bool) → length s ≡ share_count c → length (settled c s m) ≡ wire_count c
length_settled c s m h = length_carry (bits m) c.drivers 0 s ∙ ap (λ n. n + length c.drivers) h

-- how many fresh wires there are, counted from k
pub fresh_after_from : (cs : List Driver) (k : ℕ) → fresh_after cs k ≡ k + fresh_after cs 0
fresh_after_from [] k = sym (add-zero k)
fresh_after_from (fresh ∷ cs) k =
    let a = fresh_after_from cs (suc k) in
    let b = fresh_after_from cs 1 in
    omega arith
fresh_after_from (stored a ∷ cs) k = fresh_after_from cs k
fresh_after_from (looked t os ∷ cs) k = fresh_after_from cs k

pub fresh_after_append : (cs ds : List Driver) (k : ℕ) → fresh_after (cs ++ ds) k ≡ fresh_after ds (fresh_after cs k)
fresh_after_append [] ds k = refl
fresh_after_append (c ∷ cs) ds k = fresh_after_append cs ds (more_fresh c k)

-- masks past the last that is read
pub settle_more : (m q : List Bool) (cs : List Driver) (k : ℕ) (vs : List Bool) → fresh_after cs k ≤ length m
    → carry (bits (m ++ q)) cs k vs ≡ carry (bits m) cs k vs
settle_more m q [] k vs h = refl
settle_more m q (fresh ∷ cs) k vs h =
    let f = fresh_after_from cs (suc k) in
    let e : get_or (m ++ q) k false ≡ get_or m k false = get_or-append m q false k (omega arith) in
    ap (λ b. carry (bits (m ++ q)) cs (suc k) (vs ++ (b ∷ []))) e ∙ settle_more m q cs (suc k) (vs ++ (get_or m k false ∷ [])) h
settle_more m q (stored a ∷ cs) k vs h = settle_more m q cs k (vs ++ (get_or vs a false ∷ [])) h
settle_more m q (looked t os ∷ cs) k vs h = settle_more m q cs k (vs ++ (bit t (number (map (λ o. get_or vs o false) os)) ∷ [])) h

-- fresh wires and registers that read their value off a list
abbrev pub reread : List Bool → Carrier Bool
reread V = record { none = false; source = λ w k. get_or V w false; store = λ w v. get_or V w false; look = λ t vs. bit t (number vs) }

module _ (m V : List Bool) where
  -- off the settled list itself they read what is there
  pub reread_settled : (cs : List Driver) (k : ℕ) (vs : List Bool) → carry (bits m) cs k vs ≡ V → carry (reread V) cs k vs ≡ V
  reread_settled [] k vs h = h
  reread_settled (c ∷ cs) k vs h =
      ap (λ b. carry (reread V) cs (more_fresh c k) (vs ++ (b ∷ []))) (here c h) ∙ reread_settled cs (more_fresh c k) (vs ++ (carried (bits m) c k vs ∷ [])) h
    where
      there : (c : Driver) → carry (bits m) cs (more_fresh c k) (vs ++ (carried (bits m) c k vs ∷ [])) ≡ V → get_or V (length vs) false ≡ carried (bits m) c k vs
      there c h =
          let e = length-append vs (carried (bits m) c k vs ∷ []) in
          let i : length vs < length (vs ++ (carried (bits m) c k vs ∷ [])) = omega arith in
          ap (λ l. get_or l (length vs) false) (sym h)
          ∙ carry_before (bits m) cs (more_fresh c k) (vs ++ (carried (bits m) c k vs ∷ [])) (length vs) false i
          ∙ get_or-append_seam vs (carried (bits m) c k vs) [] false

      here : (c : Driver) → carry (bits m) cs (more_fresh c k) (vs ++ (carried (bits m) c k vs ∷ [])) ≡ V → carried (reread V) c k vs ≡ carried (bits m) c k vs
      here fresh h = there fresh h
      here (stored a) h = there (stored a) h
      here (looked t os) h = refl

-- a map from one kind of thing to another that fresh wires, registers and look-ups respect; the other counts its fresh wires from n on
pub record Respects {V W : Type 0} (A : Carrier V) (B : Carrier W) (h : V → W) (n : ℕ) : Type 0 where
  pub none : h A.none ≡ B.none
  pub source : (w k : ℕ) → h (A.source w k) ≡ B.source w (n + k)
  pub store : (w : ℕ) (v : V) → h (A.store w v) ≡ B.store w (h v)
  pub look : (t : ℕ) (vs : List V) → h (A.look t vs) ≡ B.look t (map h vs)

more_from : (c : Driver) (n k : ℕ) → more_fresh c (n + k) ≡ n + more_fresh c k
more_from fresh n k = sym (add-suc n k)
more_from (stored a) n k = refl
more_from (looked t os) n k = refl

module _ {V W : Type 0} (A : Carrier V) (B : Carrier W) (h : V → W) (n : ℕ) (r : Respects A B h n) where
  get_or_mapped : (vs : List V) (i : ℕ) → h (get_or vs i A.none) ≡ get_or (map h vs) i B.none
  get_or_mapped vs i = sym (get_or-map h vs i A.none) ∙ ap (get_or (map h vs) i) r.none

  read_mapped : (vs : List V) (os : List ℕ) → map h (map (λ o. get_or vs o A.none) os) ≡ map (λ o. get_or (map h vs) o B.none) os
  read_mapped vs [] = refl
  read_mapped vs (o ∷ os) =
      let x = get_or_mapped vs o in
      let y = read_mapped vs os in
      cc

  carried_mapped : (c : Driver) (k : ℕ) (vs : List V) → h (carried A c k vs) ≡ carried B c (n + k) (map h vs)
  carried_mapped fresh k vs = r.source (length vs) k ∙ ap (λ w. B.source w (n + k)) (sym (length-map vs h))
  carried_mapped (stored a) k vs =
      r.store (length vs) (get_or vs a A.none) ∙ ap (B.store (length vs)) (get_or_mapped vs a) ∙ ap (λ w. B.store w (get_or (map h vs) a B.none)) (sym (length-map vs h))
  carried_mapped (looked t os) k vs = r.look t (map (λ o. get_or vs o A.none) os) ∙ ap (B.look t) (read_mapped vs os)

  -- carrying the one and mapping is mapping and carrying the other
  pub carry_mapped : (cs : List Driver) (k : ℕ) (vs : List V) → map h (carry A cs k vs) ≡ carry B cs (n + k) (map h vs)
  carry_mapped [] k vs = refl
  carry_mapped (c ∷ cs) k vs =
      carry_mapped cs (more_fresh c k) (vs ++ (carried A c k vs ∷ []))
      ∙ ap (λ m. carry B cs m (map h (vs ++ (carried A c k vs ∷ [])))) (sym (more_from c n k))
      ∙ ap (carry B cs (more_fresh c (n + k))) (map_push h vs (carried A c k vs) ∙ ap (λ v. map h vs ++ (v ∷ [])) (carried_mapped c k vs))
