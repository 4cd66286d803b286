-- Marking back from a probed wire, as the program does it: 1 on a wire that is still to be followed or that is seen.
use Rattle.std.specs.Prelude.{ℕ, suc, cond, List, [], ◌∷◌, ◌==◌, slice_index, slice_set}
use Rattle.netlist.specs.Circuit.{Driver, fresh, stored, looked}

abbrev pub marked : List ℕ → List ℕ → List ℕ
marked [] ms = ms
marked (o ∷ os) ms = marked os (slice_set ms o 1)

-- a look-up hands its mark on to its operands
abbrev pub handed_on : Driver → ℕ → List ℕ → List ℕ
handed_on fresh w ms = ms
handed_on (stored a) w ms = ms
handed_on (looked t os) w ms = cond (slice_index ms w == 1) (marked os (slice_set ms w 0)) ms

-- from the last wire back to wire w, the first of these
abbrev pub followed_back : List Driver → ℕ → List ℕ → List ℕ
followed_back [] w ms = ms
followed_back (d ∷ ds) w ms = handed_on d w (followed_back ds (suc w) ms)
