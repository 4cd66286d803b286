-- Marking back from a wire gives what a probe on it sees.
use Rattle.std.proofs.Common.{◌≡◌, ℕ, zero, suc, ◌+◌, ◌<◌, ◌≤◌, Bool, true, false, cond, eqb, ◌⊎◌, ◌↔◌, List, [], ◌∷◌, map, length, get_or, set, replicate, sym, refl, ap, ◌∙◌, subst, inl, inr, add-zero, zero-add, arith, length-set, rules}
use mathlib.Core.Option.{some}
use mathlib.Core.Logic.Iff.{rfl, trans}
use lib.ListN.{get_elem?, length-replicate}
use Rattle.std.proofs.lemmas.Bool.{or_cases, or_left, or_right, cases_eq, cases_lt}
use Rattle.std.proofs.lemmas.Grind.{common_steps}
use Rattle.std.proofs.lemmas.List.FromFn.{fill_by_all}
use Rattle.netlist.specs.Circuit.{Driver, fresh, stored, looked, Circuit, share_count, wire_count, probes, seen, union, Wires, alone, alone_from, bit_of}
use Rattle.isolation.proofs.Reading.{AllBelow, at_input, at_fresh, at_stored, at_looked}
use Rattle.isolation.proofs.Determined.{length_alone_from, get_or_alone_from}
use Rattle.query.specs.Answers.{probe_bytes}
use Rattle.query.specs.Marks.{marked, handed_on, followed_back}

-- the wires from v on are done: a wire is seen if it is marked and done, or if a marked wire that is not done sees it
abbrev pub Shown : (ℕ → Wires) → ℕ → Wires → ℕ → Type 0
Shown sees v marks u = ((m : ℕ) × (m < v) × (marks m ≡ true) × (sees m u ≡ true)) ⊎ ((v ≤ u) × (marks u ≡ true))

module _ (sees : ℕ → Wires) (v : ℕ) (marks : Wires) (u : ℕ) where
  -- a wire that a probe sees alone: an input share, a fresh bit, a register
  pub kept : (sees v u ≡ true ↔ u ≡ v) → Shown sees (suc v) marks u ↔ Shown sees v marks u
  kept alone = (λ s. grind (arith, alone.0, alone.1, s), λ s. grind (arith, alone.0, alone.1, s))

  -- a wire with no mark
  pub passed : marks v ≡ false → Shown sees (suc v) marks u ↔ Shown sees v marks u
  passed off = (λ s. grind (arith, off, s), λ s. grind (arith, off, s))

  -- a marked look-up: its mark goes to its operands
  module _ (Operand : ℕ → Type 0) (after : Wires) where
    pub passes_on : marks v ≡ true → ((o : ℕ) → Operand o → o < v) → (sees v u ≡ true ↔ (o : ℕ) × Operand o × (sees o u ≡ true))
        → ((m : ℕ) → after m ≡ true ↔ (m ≡ v → ⊥) × ((marks m ≡ true) ⊎ Operand m)) → Shown sees (suc v) marks u ↔ Shown sees v after u
    passes_on on below seen new = (
      λ s. grind (arith, on, below, seen.0, λ (m : ℕ). (new m).1, s),
      λ s. grind (arith, on, below, seen.1, λ (m : ℕ). (new m).0, s),
    )

-- where the marking begins and ends
pub begun : (sees : ℕ → Wires) (n w : ℕ) (marks : Wires) (u : ℕ) → w < n → ((m : ℕ) → marks m ≡ true ↔ m ≡ w) → sees w u ≡ true ↔ Shown sees n marks u
begun sees n w marks u l one = (λ s. inl (w, l, (one w).1 refl, s), λ s. grind (arith, λ (m : ℕ). (one m).0, s))

pub ended : (sees : ℕ → Wires) (marks : Wires) (u : ℕ) → Shown sees 0 marks u ↔ marks u ≡ true
ended sees marks u = (λ s. grind (arith, s), λ h. inr (omega arith, h))

pub shares_done : (sees : ℕ → Wires) (n : ℕ) (marks : Wires) (u : ℕ) → ((i : ℕ) → i < n → sees i u ≡ true ↔ u ≡ i) → Shown sees n marks u ↔ marks u ≡ true
shares_done sees zero marks u h = ended sees marks u
shares_done sees (suc n) marks u h = trans (kept sees n marks u (h n (omega arith))) (shares_done sees n marks u (λ i l. h i (omega arith)))

-- one of a list
abbrev pub In : ℕ → List ℕ → Type 0
In o [] = ⊥
In o (x ∷ xs) = (o ≡ x) ⊎ In o xs

in_below : (w o : ℕ) (os : List ℕ) → AllBelow w os → In o os → o < w
in_below w o [] b i = absurd i
in_below w o (x ∷ xs) b i = grind (arith, b, i, in_below w o xs)

union_in : (f : ℕ → Wires) (os : List ℕ) (u : ℕ) → union (map f os) u ≡ true ↔ (o : ℕ) × In o os × (f o u ≡ true)
union_in f [] u = (λ e. grind (arith, e), λ p. absurd p.1)
union_in f (x ∷ xs) u = (
  λ e. grind (arith, or_cases (f x u) (union (map f xs) u) e, (union_in f xs u).0),
  λ p. grind (arith, p, or_left (f x u) (union (map f xs) u), or_right (f x u) (union (map f xs) u), (union_in f xs u).1),
)

-- the wires that are marked
abbrev pub set_of : List ℕ → Wires
set_of ms m = eqb (get_or ms m 0) 1

set_one : (ms : List ℕ) (i m : ℕ) → i < length ms → set_of (set ms i 1) m ≡ true ↔ (set_of ms m ≡ true) ⊎ (m ≡ i)
set_one ms i m h = (λ e. grind (arith, common_steps, cases_eq m i), λ e. grind (arith, common_steps, cases_eq m i))

set_zero : (ms : List ℕ) (i m : ℕ) → i < length ms → set_of (set ms i 0) m ≡ true ↔ (m ≡ i → ⊥) × (set_of ms m ≡ true)
set_zero ms i m h = (λ e. (λ n. grind (arith, common_steps), grind (arith, common_steps, cases_eq m i)), λ e. grind (arith, common_steps))

all_below_more : (v w : ℕ) (os : List ℕ) → v ≤ w → AllBelow v os → AllBelow w os
all_below_more v w [] h b = tt
all_below_more v w (o ∷ os) h b = search (rules, arith, all_below_more v w os)

length_marked : (os ms : List ℕ) → length (marked os ms) ≡ length ms
length_marked [] ms = refl
length_marked (o ∷ os) ms = grind (arith, common_steps, length_marked os)

marked_set : (os ms : List ℕ) (m : ℕ) → AllBelow (length ms) os → set_of (marked os ms) m ≡ true ↔ (set_of ms m ≡ true) ⊎ In m os
marked_set [] ms m b = (inl, λ e. grind (arith, e))
marked_set (o ∷ os) ms m b =
    let more = marked_set os (set ms o 1) m (all_below_more (length ms) (length (set ms o 1)) os (omega (arith, length-set ms o 1)) b.1) in
    let one = set_one ms o m b.0 in
    (λ e. grind (arith, more.0, one.0, e), λ e. grind (arith, more.1, one.1, e))

-- what a probe on a driven wire sees: the wire alone, or what its operands' probes see
abbrev pub Reads : (ℕ → Wires) → ℕ → Driver → Type 0
Reads sees v fresh = (u : ℕ) → sees v u ≡ true ↔ u ≡ v
Reads sees v (stored a) = (u : ℕ) → sees v u ≡ true ↔ u ≡ v
Reads sees v (looked t os) = AllBelow v os × ((u : ℕ) → sees v u ≡ true ↔ (o : ℕ) × In o os × (sees o u ≡ true))

length_handed_on : (d : Driver) (v : ℕ) (ms : List ℕ) → length (handed_on d v ms) ≡ length ms
length_handed_on fresh v ms = refl
length_handed_on (stored a) v ms = refl
length_handed_on (looked t os) v ms = grind (arith, common_steps, length_marked)

-- one wire more is done
shown_step : (sees : ℕ → Wires) (v : ℕ) (d : Driver) (ms : List ℕ) (u : ℕ) → v < length ms → Reads sees v d → Shown sees (suc v) (set_of ms) u ↔ Shown sees v (set_of (handed_on d v ms)) u
shown_step sees v fresh ms u h r = kept sees v (set_of ms) u (r u)
shown_step sees v (stored a) ms u h r = kept sees v (set_of ms) u (r u)
shown_step sees v (looked t os) ms u h r = here (set_of ms v) refl
  where
    after : List ℕ
    after = marked os (set ms v 0)

    new : (m : ℕ) → set_of after m ≡ true ↔ (m ≡ v → ⊥) × ((set_of ms m ≡ true) ⊎ In m os)
    new m =
        let p = marked_set os (set ms v 0) m (all_below_more v (length (set ms v 0)) os (omega (arith, length-set ms v 0)) r.0) in
        let q = set_zero ms v m h in
        (λ e. (λ n. grind (arith, p.0, q.0, in_below v m os r.0, e), grind (arith, p.0, q.0, e)), λ e. grind (arith, p.1, q.1, e))

    here : (b : Bool) → set_of ms v ≡ b → Shown sees (suc v) (set_of ms) u ↔ Shown sees v (set_of (cond b after ms)) u
    here true e = passes_on sees v (set_of ms) u (λ o. In o os) (set_of after) e (λ o i. in_below v o os r.0 i) (r.1 u) new
    here false e = passed sees v (set_of ms) u e

pub length_followed_back : (ds : List Driver) (n : ℕ) (ms : List ℕ) → length (followed_back ds n ms) ≡ length ms
length_followed_back [] n ms = refl
length_followed_back (d ∷ ds) n ms = length_handed_on d n (followed_back ds (suc n) ms) ∙ length_followed_back ds (suc n) ms

AllRead : (ℕ → Wires) → ℕ → List Driver → Type 0
AllRead sees n ds = (j : ℕ) (d : Driver) → get_elem? ds j ≡ some d → Reads sees (n + j) d

shown_back : (sees : ℕ → Wires) (ds : List Driver) (n : ℕ) (ms : List ℕ) (u : ℕ) → n + length ds ≤ length ms → AllRead sees n ds
    → Shown sees (n + length ds) (set_of ms) u ↔ Shown sees n (set_of (followed_back ds n ms)) u
unfolding AllRead
shown_back sees [] n ms u h r = rw (add-zero n) rfl
shown_back sees (d ∷ ds) n ms u h r =
    let e : suc n + length ds ≡ n + length (d ∷ ds) = omega arith in
    let more = shown_back sees ds (suc n) ms u (omega arith) (λ j x g. let z : n + suc j ≡ suc n + j = omega arith in subst (λ k. Reads sees k x) z (r (suc j) x g)) in
    let here = shown_step sees n d (followed_back ds (suc n) ms) u (omega (arith, length_followed_back ds (suc n) ms)) (subst (λ k. Reads sees k d) (add-zero n) (r 0 d refl)) in
    trans (subst (λ k. Shown sees k (set_of ms) u ↔ Shown sees (suc n) (set_of (followed_back ds (suc n) ms)) u) e more) here

-- marks are bits
AllBits : List ℕ → Type 0
AllBits ms = (i : ℕ) → get_or ms i 0 < 2

bits_set : (ms : List ℕ) (i b : ℕ) → b < 2 → AllBits ms → AllBits (set ms i b)
unfolding AllBits
bits_set ms i b h a k = grind (arith, common_steps, a k, cases_eq k i, cases_lt i (length ms))

bits_marked : (os ms : List ℕ) → AllBits ms → AllBits (marked os ms)
bits_marked [] ms a = a
bits_marked (o ∷ os) ms a = bits_marked os (set ms o 1) (bits_set ms o 1 (omega arith) a)

bits_handed : (d : Driver) (v : ℕ) (ms : List ℕ) → AllBits ms → AllBits (handed_on d v ms)
bits_handed fresh v ms a = a
bits_handed (stored o) v ms a = a
bits_handed (looked t os) v ms a = here (eqb (get_or ms v 0) 1)
  where
    here : (b : Bool) → AllBits (cond b (marked os (set ms v 0)) ms)
    here true = bits_marked os (set ms v 0) (bits_set ms v 0 (omega arith) a)
    here false = a

bits_back : (ds : List Driver) (n : ℕ) (ms : List ℕ) → AllBits ms → AllBits (followed_back ds n ms)
bits_back [] n ms a = a
bits_back (d ∷ ds) n ms a = bits_handed d n (followed_back ds (suc n) ms) (bits_back ds (suc n) ms a)

bit_by : (b : ℕ) (s : Bool) → b < 2 → (s ≡ true ↔ eqb b 1 ≡ true) → b ≡ bit_of s
bit_by b true h p = grind (arith, common_steps, p.0, p.1)
bit_by b false h p = grind (arith, common_steps, p.0, p.1)

-- operands lie below their own wires
abbrev pub Below : ℕ → Driver → Type 0
Below w fresh = Unit {0}
Below w (stored a) = a < w
Below w (looked t os) = AllBelow w os

module _ (c : Circuit) (below : (j : ℕ) (d : Driver) → get_elem? c.drivers j ≡ some d → Below (share_count c + j) d) where
  abbrev inputs : List Wires
  inputs = alone_from 0 (share_count c)

  long : length inputs ≡ share_count c
  long = length_alone_from 0 (share_count c)

  alone_reads : (s : Wires) (v : ℕ) → s ≡ alone v → (u : ℕ) → s u ≡ true ↔ u ≡ v
  alone_reads s v e u = rw e (λ t. grind (arith, common_steps), λ q. grind (arith, common_steps))

  share_reads : (i : ℕ) → i < share_count c → (u : ℕ) → seen c i u ≡ true ↔ u ≡ i
  share_reads i h = alone_reads (seen c i) i (at_input probes c.drivers inputs (share_count c) long i h ∙ get_or_alone_from 0 (share_count c) i h ∙ ap alone (zero-add i))

  cell_reads : (j : ℕ) (d : Driver) → get_elem? c.drivers j ≡ some d → Below (share_count c + j) d → Reads (seen c) (share_count c + j) d
  cell_reads j fresh e b = alone_reads (seen c (share_count c + j)) (share_count c + j) (at_fresh probes c.drivers inputs (share_count c) long (share_count c + j) j refl e)
  cell_reads j (stored a) e b = alone_reads (seen c (share_count c + j)) (share_count c + j) (at_stored probes c.drivers inputs (share_count c) long (share_count c + j) j a refl e b)
  cell_reads j (looked t os) e b = (b, λ u. subst (λ (s : Wires). s u ≡ true ↔ (o : ℕ) × In o os × (seen c o u ≡ true)) (sym (at_looked probes c.drivers inputs (share_count c) long (share_count c + j) j t os refl e b)) (union_in (seen c) os u))

  -- from a mark on the probed wire alone
  pub probed : (w : ℕ) → w < wire_count c → followed_back c.drivers (share_count c) (set (replicate (wire_count c) 0) w 1) ≡ probe_bytes c w
  unfolding AllBits AllRead
  probed w h =
      fill_by_all (λ v. bit_of (seen c w v)) done (wire_count c) 0 (length_followed_back c.drivers (share_count c) start ∙ size) (λ u l. bit_by (get_or done u 0) (seen c w u) (bits_back c.drivers (share_count c) start bits u) (shows u))
    where
      start : List ℕ
      start = set (replicate (wire_count c) 0) w 1

      done : List ℕ
      done = followed_back c.drivers (share_count c) start

      size : length start ≡ wire_count c
      size = length-set (replicate (wire_count c) 0) w 1 ∙ length-replicate {A = ℕ} (wire_count c) 0

      bits : (i : ℕ) → get_or start i 0 < 2
      bits i = grind (arith, common_steps, cases_eq i w)

      one : (m : ℕ) → set_of start m ≡ true ↔ m ≡ w
      one m =
          let set = set_one (replicate (wire_count c) 0) w m (omega (arith, length-replicate {A = ℕ} (wire_count c) 0)) in
          (λ t. grind (arith, common_steps, set.0), λ e. set.1 (inr e))

      shows : (u : ℕ) → seen c w u ≡ true ↔ set_of done u ≡ true
      shows u =
          trans (begun (seen c) (wire_count c) w (set_of start) u h one)
          (trans (shown_back (seen c) c.drivers (share_count c) start u (omega (arith, size)) (λ j d e. cell_reads j d e (below j d e)))
          (shares_done (seen c) (share_count c) (set_of done) u (λ i l. share_reads i l u)))
