-- The bytes of a cell, and the cell of eleven bytes.
use Rattle.std.proofs.Common.{◌≡◌, ℕ, zero, suc, ◌/◌, ◌%◌, ◌<◌, List, [], ◌∷◌, length, get_or, sym, refl, ap, ◌∙◌, arith}
use Rattle.netlist.specs.declared.cell.Kind.{Kind}
use Rattle.netlist.specs.declared.cell.Kind.TheVariants.{Mask, Not, And, Xor, Reg, Look1, Look2, Look3, Look4}
use Rattle.netlist.specs.declared.cell.Cell.{Cell}
use Rattle.netlist.specs.Cells.{kind_number, kind_of}
use Rattle.blockfile.specs.Format.{cell_bytes}
use Rattle.blockfile.specs.Reading.{pair_at, cell_from}
use Rattle.blockfile.specs.Laws.{Bytes}
use Rattle.blockfile.proofs.Numbers.{pair_of_two, high_of_pair, low_of_pair}

kind_back : (k : Kind) → kind_of (kind_number k) ≡ k
kind_back Mask = refl
kind_back Not = refl
kind_back And = refl
kind_back Xor = refl
kind_back Reg = refl
kind_back Look1 = refl
kind_back Look2 = refl
kind_back Look3 = refl
kind_back Look4 = refl

pub kind_small : (k : Kind) → kind_number k < 9
kind_small Mask = omega arith
kind_small Not = omega arith
kind_small And = omega arith
kind_small Xor = omega arith
kind_small Reg = omega arith
kind_small Look1 = omega arith
kind_small Look2 = omega arith
kind_small Look3 = omega arith
kind_small Look4 = omega arith

number_back : (n : ℕ) → n < 9 → kind_number (kind_of n) ≡ n
number_back zero h = refl
number_back (suc zero) h = refl
number_back (suc (suc zero)) h = refl
number_back (suc (suc (suc zero))) h = refl
number_back (suc (suc (suc (suc zero)))) h = refl
number_back (suc (suc (suc (suc (suc zero))))) h = refl
number_back (suc (suc (suc (suc (suc (suc zero)))))) h = refl
number_back (suc (suc (suc (suc (suc (suc (suc zero))))))) h = refl
number_back (suc (suc (suc (suc (suc (suc (suc (suc n)))))))) h = let e : n ≡ 0 = omega arith in rw e

pub cell_back : (x : Cell) → cell_from (cell_bytes x) ≡ x
cell_back x = rw (kind_back x.kind, pair_of_two x.table, pair_of_two x.a, pair_of_two x.b, pair_of_two x.c, pair_of_two x.d)

-- a list by its places
places : List ℕ → ℕ → ℕ → List ℕ
places bs i zero = []
places bs i (suc n) = get_or bs i 0 ∷ places bs (suc i) n

places_cons : (b : ℕ) (bs : List ℕ) (i n : ℕ) → places (b ∷ bs) (suc i) n ≡ places bs i n
unfolding places
places_cons b bs i zero = refl
places_cons b bs i (suc n) = ap (λ l. get_or bs i 0 ∷ l) (places_cons b bs (suc i) n)

by_places : (bs : List ℕ) → bs ≡ places bs 0 (length bs)
unfolding places
by_places [] = refl
by_places (b ∷ bs) = ap (λ l. b ∷ l) (by_places bs ∙ sym (places_cons b bs 0 (length bs)))

pub bytes_back : (bs : List ℕ) → length bs ≡ 11 → Bytes bs → get_or bs 0 0 < 9 → cell_bytes (cell_from bs) ≡ bs
unfolding places
bytes_back bs l small k =
    let low : (i : ℕ) → i < 11 → get_or bs i 0 < 256 = λ i h. small i (omega arith) in
    let h : (i : ℕ) → suc i < 11 → pair_at bs i / 256 ≡ get_or bs i 0 = λ i h. high_of_pair (get_or bs i 0) (get_or bs (suc i) 0) (low (suc i) h) in
    let o : (i : ℕ) → suc i < 11 → pair_at bs i % 256 ≡ get_or bs (suc i) 0 = λ i h. low_of_pair (get_or bs i 0) (get_or bs (suc i) 0) (low (suc i) h) in
    rw (number_back (get_or bs 0 0) k, h 1 (omega arith), o 1 (omega arith), h 3 (omega arith), o 3 (omega arith), h 5 (omega arith), o 5 (omega arith), h 7 (omega arith), o 7 (omega arith), h 9 (omega arith), o 9 (omega arith))
    (sym (by_places bs ∙ ap (places bs 0) l))
