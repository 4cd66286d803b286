-- How many fresh wires parts of a construction have.
use Rattle.std.proofs.Common.{◌≡◌, ℕ, suc, ◌+◌, List, [], ◌∷◌, ◌++◌, map, length, sym, refl, ap, ◌∙◌, add-zero, add-suc, suc-add}
use Rattle.std.specs.List.{range_with_len, flat_map}
use Rattle.std.proofs.lemmas.List.FromFn.{length-range_with_len}
use Rattle.netlist.specs.Circuit.{Driver, fresh, looked, fresh_after}
use Rattle.isolation.proofs.Carries.{fresh_after_append}
use Rattle.constructions.specs.Gates.{each, rows}

-- as many as there are, where all are
all_fresh : (xs : List ℕ) (a : ℕ) → fresh_after (map (λ x. fresh) xs) a ≡ a + length xs
all_fresh [] a = sym (add-zero a)
all_fresh (x ∷ xs) a = all_fresh xs (suc a) ∙ suc-add a (length xs) ∙ sym (add-suc a (length xs))

pub fresh_masks : (k : ℕ) (a : ℕ) → fresh_after (each k (λ i. fresh)) a ≡ a + k
fresh_masks k a = all_fresh (range_with_len 0 k) a ∙ ap (λ n. a + n) (length-range_with_len 0 k)

-- none, where no part has any
abbrev pub NoFresh : List Driver → Type 0
NoFresh ds = (a : ℕ) → fresh_after ds a ≡ a

no_fresh_joined : (f : ℕ → List Driver) → ((i : ℕ) → NoFresh (f i)) → (xs : List ℕ) → NoFresh (flat_map f xs)
no_fresh_joined f h [] a = refl
no_fresh_joined f h (x ∷ xs) a = fresh_after_append (f x) (flat_map f xs) a ∙ ap (fresh_after (flat_map f xs)) (h x a) ∙ no_fresh_joined f h xs a

pub no_fresh_rows : (k : ℕ) (f : ℕ → List Driver) → ((i : ℕ) → NoFresh (f i)) → NoFresh (rows k f)
no_fresh_rows k f h = no_fresh_joined f h (range_with_len 0 k)

pub no_fresh_each : (k : ℕ) (table : ℕ → ℕ) (os : ℕ → List ℕ) → NoFresh (each k (λ i. looked (table i) (os i)))
no_fresh_each k table os a = go (range_with_len 0 k)
  where
    go : (xs : List ℕ) → fresh_after (map (λ i. looked (table i) (os i)) xs) a ≡ a
    go [] = refl
    go (x ∷ xs) = go xs

pub no_fresh_append : (cs ds : List Driver) → NoFresh cs → NoFresh ds → NoFresh (cs ++ ds)
no_fresh_append cs ds p q a = fresh_after_append cs ds a ∙ ap (fresh_after ds) (p a) ∙ q a
