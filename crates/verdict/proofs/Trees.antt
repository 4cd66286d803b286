-- What a function gives for all lists of k bits, computed once and kept.
use Rattle.std.proofs.Common.{◌≡◌, ℕ, zero, suc, ◌+◌, Bool, true, false, ◌&&◌, List, [], ◌∷◌, replicate, refl, ap}
use Rattle.isolation.specs.Sums.{sum}
use Rattle.isolation.specs.Tests.{every}

pub data Tree (A : Type 0) : Type 0 where
  leaf : A → Tree A
  fork : Tree A → Tree A → Tree A

module _ {A : Type 0} where
  abbrev pub grown : ℕ → (List Bool → A) → Tree A
  grown zero f = leaf (f [])
  grown (suc k) f = fork (grown k (λ m. f (false ∷ m))) (grown k (λ m. f (true ∷ m)))

  abbrev pub all : (A → Bool) → Tree A → Bool
  all p (leaf a) = p a
  all p (fork s t) = all p s && all p t

  abbrev pub total : (A → ℕ) → Tree A → ℕ
  total g (leaf a) = g a
  total g (fork s t) = total g s + total g t

  abbrev pub first : Tree A → A
  first (leaf a) = a
  first (fork s t) = first s

  pub grown_same : (k : ℕ) (f g : List Bool → A) → ((m : List Bool) → f m ≡ g m) → grown k f ≡ grown k g
  grown_same zero f g h = ap leaf (h [])
  grown_same (suc k) f g h =
      let l = grown_same k (λ m. f (false ∷ m)) (λ m. g (false ∷ m)) (λ m. h (false ∷ m)) in
      let r = grown_same k (λ m. f (true ∷ m)) (λ m. g (true ∷ m)) (λ m. h (true ∷ m)) in
      cc

  pub all_grown : (p : A → Bool) (k : ℕ) (f : List Bool → A) → all p (grown k f) ≡ every k (λ m. p (f m))
  all_grown p zero f = refl
  all_grown p (suc k) f =
      let l = all_grown p k (λ m. f (false ∷ m)) in
      let r = all_grown p k (λ m. f (true ∷ m)) in
      cc

  pub total_grown : (g : A → ℕ) (k : ℕ) (f : List Bool → A) → total g (grown k f) ≡ sum k (λ m. g (f m))
  total_grown g zero f = refl
  total_grown g (suc k) f =
      let l = total_grown g k (λ m. f (false ∷ m)) in
      let r = total_grown g k (λ m. f (true ∷ m)) in
      cc

  pub first_grown : (k : ℕ) (f : List Bool → A) → first (grown k f) ≡ f (replicate k false)
  first_grown zero f = refl
  first_grown (suc k) f = first_grown k (λ m. f (false ∷ m))

module _ {A B : Type 0} (g : A → B) where
  abbrev pub mapped : Tree A → Tree B
  mapped (leaf a) = leaf (g a)
  mapped (fork s t) = fork (mapped s) (mapped t)

  pub mapped_grown : (k : ℕ) (f : List Bool → A) → mapped (grown k f) ≡ grown k (λ m. g (f m))
  mapped_grown zero f = refl
  mapped_grown (suc k) f =
      let l = mapped_grown k (λ m. f (false ∷ m)) in
      let r = mapped_grown k (λ m. f (true ∷ m)) in
      cc

pub every_same : (k : ℕ) (f g : List Bool → Bool) → ((m : List Bool) → f m ≡ g m) → every k f ≡ every k g
every_same zero f g h = h []
every_same (suc k) f g h =
    let l = every_same k (λ m. f (false ∷ m)) (λ m. g (false ∷ m)) (λ m. h (false ∷ m)) in
    let r = every_same k (λ m. f (true ∷ m)) (λ m. g (true ∷ m)) (λ m. h (true ∷ m)) in
    cc
