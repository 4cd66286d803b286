-- What a probe sees determines the value on its wire; a probe sees no wire past the last.
use Rattle.std.proofs.Common.{◌≡◌, ℕ, zero, suc, ◌+◌, ◌*◌, ◌<◌, ◌≤◌, Bool, true, false, List, [], ◌∷◌, ◌++◌, map, length, get_or, take, sym, refl, ap, ◌∙◌, subst, add-zero, add-suc, suc-add, zero-add, arith, length-append, length-take, length-take-le, get_or-take, take_at, eq-eqb, eqb-true}
use native.Mathlib.Decide.{dec_lt, ℕ_discrete}
use Rattle.std.proofs.lemmas.Bool.{or_cases, or_left, or_right}
use Rattle.std.proofs.lemmas.Grind.{common_steps}
use lib.ListN.{get_or-eq_default}
use lib.Seq.{get_or-append_seam}
use Rattle.netlist.specs.Circuit.{Driver, fresh, stored, looked, Circuit, wire_count, share_count, carried, carry, more_fresh, bits, bit, number, probes, union, Wires, settled, seen, no_wire, alone, alone_from}
use Rattle.isolation.proofs.Lists.{get_or_not_end}
use Rattle.isolation.proofs.Carries.{reread, reread_settled, length_carry, carry_extends, length_settled}
use Rattle.isolation.specs.Agreeing.{Agree}
use Rattle.isolation.specs.Theorems.{ProbeDeterminesWire}

pub self_alone : (w : ℕ) → alone w w ≡ true
self_alone w = eq-eqb w w refl

pub length_alone_from : (w n : ℕ) → length (alone_from w n) ≡ n
length_alone_from w zero = refl
length_alone_from w (suc n) = ap suc (length_alone_from (suc w) n)

pub get_or_alone_from : (w n i : ℕ) → i < n → get_or (alone_from w n) i no_wire ≡ alone (w + i)
get_or_alone_from w zero i h = absurd (omega arith)
get_or_alone_from w (suc n) zero h = ap alone (sym (add-zero w))
get_or_alone_from w (suc n) (suc i) h = get_or_alone_from (suc w) n i (omega arith) ∙ ap alone (suc-add w i ∙ sym (add-suc w i))

module _ (U V : List Bool) where
  -- on wires whose probes show the same of U and V, two lists are alike
  abbrev pub Known : List Bool → List Bool → List Wires → Type 0
  Known rs us ss = (w : ℕ) → Agree (get_or ss w no_wire) U V → get_or rs w false ≡ get_or us w false

  pub known_step : (rs us : List Bool) (ss : List Wires) (a b : Bool) (s : Wires) → length rs ≡ length ss → length us ≡ length ss → Known rs us ss
      → (Agree s U V → a ≡ b) → Known (rs ++ (a ∷ [])) (us ++ (b ∷ [])) (ss ++ (s ∷ []))
  known_step rs us ss a b s hr hu known new w g = here (ℕ_discrete w (length ss))
    where
      P : Wires → Type 0
      P t = Agree t U V

      here : Dec (w ≡ length ss) → get_or (rs ++ (a ∷ [])) w false ≡ get_or (us ++ (b ∷ [])) w false
      here (yes e) =
          let same = new (subst P (ap (λ i. get_or (ss ++ (s ∷ [])) i no_wire) e ∙ get_or-append_seam ss s [] no_wire) g) in
          grind (arith, common_steps)
      here (no e) =
          let same = known w (subst P (get_or_not_end ss s no_wire w e) g) in
          grind (arith, get_or_not_end)

  pub known_look : (rs us : List Bool) (ss : List Wires) → Known rs us ss → (os : List ℕ) → Agree (union (map (λ o. get_or ss o no_wire) os)) U V
      → map (λ o. get_or rs o false) os ≡ map (λ o. get_or us o false) os
  known_look rs us ss known [] g = refl
  known_look rs us ss known (o ∷ os) g =
      let a = known o (λ w h. g w (or_left (get_or ss o no_wire w) (union (map (λ o. get_or ss o no_wire) os) w) h)) in
      let b = known_look rs us ss known os (λ w h. g w (or_right (get_or ss o no_wire w) (union (map (λ o. get_or ss o no_wire) os) w) h)) in
      cc

  pub known_carry : (cs : List Driver) (k : ℕ) (rs us : List Bool) (ss : List Wires) → length rs ≡ length ss → length us ≡ length ss → Known rs us ss
      → Known (carry (reread U) cs k rs) (carry (reread V) cs k us) (carry probes cs k ss)
  known_carry [] k rs us ss hr hu known = known
  known_carry (c ∷ cs) k rs us ss hr hu known =
      let a = carried (reread U) c k rs in
      let b = carried (reread V) c k us in
      let s = carried probes c k ss in
      known_carry cs (more_fresh c k) (rs ++ (a ∷ [])) (us ++ (b ∷ [])) (ss ++ (s ∷ []))
      (longer rs ss a s hr) (longer us ss b s hu) (known_step rs us ss a b s hr hu known (new c))
    where
      longer : (rs : List Bool) (ss : List Wires) (a : Bool) (s : Wires) → length rs ≡ length ss → length (rs ++ (a ∷ [])) ≡ length (ss ++ (s ∷ []))
      longer rs ss a s h = let x = length-append rs (a ∷ []) in let y = length-append ss (s ∷ []) in omega arith

      itself : Agree (alone (length ss)) U V → get_or U (length rs) false ≡ get_or V (length us) false
      itself g = ap (λ i. get_or U i false) hr ∙ g (length ss) (self_alone (length ss)) ∙ ap (λ i. get_or V i false) (sym hu)

      new : (c : Driver) → Agree (carried probes c k ss) U V → carried (reread U) c k rs ≡ carried (reread V) c k us
      new fresh g = itself g
      new (stored o) g = itself g
      new (looked t os) g = ap (λ l. bit t (number l)) (known_look rs us ss known os g)

-- the values that a list's fresh wires, registers and inputs make
abbrev pub replay : Circuit → List Bool → List Bool
replay net V = carry (reread V) net.drivers 0 (take (2 * net.inputs) V)

pub determined : (net : Circuit) (U V : List Bool) → length U ≡ wire_count net → length V ≡ wire_count net → (w : ℕ) → Agree (seen net w) U V
    → get_or (replay net U) w false ≡ get_or (replay net V) w false
determined net U V hU hV =
    known_carry U V net.drivers 0 (take n U) (take n V) (alone_from 0 n) (long U hU) (long V hV) (λ w g. start w g (dec_lt w n))
  where
    n : ℕ
    n = 2 * net.inputs

    long : (U : List Bool) → length U ≡ wire_count net → length (take n U) ≡ length (alone_from 0 n)
    long U h = length-take-le n U (omega arith) ∙ sym (length_alone_from 0 n)

    past : (U : List Bool) (w : ℕ) → n ≤ w → get_or (take n U) w false ≡ false
    past U w h = get_or-eq_default (take n U) false (omega (arith, length-take n U))

    start : (w : ℕ) → Agree (get_or (alone_from 0 n) w no_wire) U V → Dec (w < n) → get_or (take n U) w false ≡ get_or (take n V) w false
    start w g (yes h) =
        let e : get_or (alone_from 0 n) w no_wire ≡ alone w = get_or_alone_from 0 n w h ∙ ap alone (zero-add w) in
        let P : Wires → Type 0 = λ t. Agree t U V in
        get_or-take n U w false h ∙ subst P e g w (self_alone w) ∙ sym (get_or-take n V w false h)
    start w g (no h) = past U w (omega arith) ∙ sym (past V w (omega arith))

pub replay_settled : (net : Circuit) (s m : List Bool) → length s ≡ 2 * net.inputs → replay net (settled net s m) ≡ settled net s m
replay_settled net s m h =
    let V = settled net s m in
    let r = carry_extends (bits m) net.drivers 0 s in
    let e : take (2 * net.inputs) V ≡ s = ap (take (2 * net.inputs)) r.1 ∙ take_at s r.0 (2 * net.inputs) h in
    ap (λ l. carry (reread V) net.drivers 0 l) e ∙ reread_settled m V net.drivers 0 s refl

-- probes see wires of the net alone
abbrev pub Below : List Wires → Type 0
Below ss = (w v : ℕ) → get_or ss w no_wire v ≡ true → v < length ss

below_look : (ss : List Wires) → Below ss → (os : List ℕ) (v : ℕ) → union (map (λ o. get_or ss o no_wire) os) v ≡ true → v < length ss
below_look ss below [] v h = grind (arith, h)
below_look ss below (o ∷ os) v h = grind (arith, or_cases (get_or ss o no_wire v) (union (map (λ o. get_or ss o no_wire) os) v) h, below o v, below_look ss below os v)

pub below_carry : (cs : List Driver) (k : ℕ) (ss : List Wires) → Below ss → Below (carry probes cs k ss)
below_carry [] k ss below = below
below_carry (c ∷ cs) k ss below = below_carry cs (more_fresh c k) (ss ++ (carried probes c k ss ∷ [])) (step (carried probes c k ss) (new c))
  where
    step : (s : Wires) → ((v : ℕ) → s v ≡ true → v < suc (length ss)) → Below (ss ++ (s ∷ []))
    step s new w v h = here (ℕ_discrete w (length ss))
      where
        len : length (ss ++ (s ∷ [])) ≡ suc (length ss)
        len = let e = length-append ss (s ∷ []) in omega arith

        here : Dec (w ≡ length ss) → v < length (ss ++ (s ∷ []))
        here (yes e) =
            let es : get_or (ss ++ (s ∷ [])) w no_wire ≡ s = ap (λ i. get_or (ss ++ (s ∷ [])) i no_wire) e ∙ get_or-append_seam ss s [] no_wire in
            let x = new v (sym (ap (λ (t : Wires). t v) es) ∙ h) in omega (arith, len)
        here (no e) =
            let x = below w v (sym (ap (λ (t : Wires). t v) (get_or_not_end ss s no_wire w e)) ∙ h) in omega (arith, len)

    new : (c : Driver) (v : ℕ) → carried probes c k ss v ≡ true → v < suc (length ss)
    new fresh v h = let e = eqb-true v (length ss) h in omega arith
    new (stored a) v h = let e = eqb-true v (length ss) h in omega arith
    new (looked t os) v h = let e = below_look ss below os v h in omega arith

pub seen_below : (net : Circuit) (w v : ℕ) → seen net w v ≡ true → v < wire_count net
seen_below net w v h =
    let n = 2 * net.inputs in
    let r = below_carry net.drivers 0 (alone_from 0 n) (λ w v h. start w v h (dec_lt w n)) w v h in
    omega (arith, length_carry probes net.drivers 0 (alone_from 0 n), length_alone_from 0 n)
  where
    start : (w v : ℕ) → get_or (alone_from 0 (2 * net.inputs)) w no_wire v ≡ true → Dec (w < 2 * net.inputs) → v < length (alone_from 0 (2 * net.inputs))
    start w v h (yes l) =
        let e = eqb-true v (0 + w) (sym (ap (λ (t : Wires). t v) (get_or_alone_from 0 (2 * net.inputs) w l)) ∙ h) in
        omega (arith, length_alone_from 0 (2 * net.inputs))
    start w v h (no l) =
        let e : get_or (alone_from 0 (2 * net.inputs)) w no_wire ≡ no_wire = get_or-eq_default (alone_from 0 (2 * net.inputs)) no_wire (omega (arith, length_alone_from 0 (2 * net.inputs))) in
        let f : no_wire v ≡ true = sym (ap (λ (t : Wires). t v) e) ∙ h in
        let z : ◌≡◌ {A = ℕ} 0 1 = cc in omega arith

pub determines : ProbeDeterminesWire
determines c w s m t n hs ht agree =
    let e : (s m : List Bool) → length s ≡ share_count c → get_or (settled c s m) w false ≡ get_or (replay c (settled c s m)) w false = λ s m h. ap (λ l. get_or l w false) (sym (replay_settled c s m h)) in
    e s m hs ∙ determined c (settled c s m) (settled c t n) (length_settled c s m hs) (length_settled c t n ht) w agree ∙ sym (e t n ht)
