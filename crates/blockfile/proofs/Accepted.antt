-- Bytes that are accepted, and where the parts of their block stand.
use Rattle.std.proofs.Common.{◌≡◌, ℕ, ◌+◌, ◌-◌, ◌*◌, ◌/◌, ◌^◌, ◌<◌, ◌≤◌, true, List, length, get_or, take, drop, is_ok, Some, Ok, Err, Result, sym, refl, ap, ◌∙◌, arith, length-append}
use Rattle.std.proofs.lemmas.List.{drop-drop}
use Rattle.std.proofs.lemmas.Nat.{div-mul-add}
use Rattle.fault.specs.declared.FieldFault.{FieldFault}
use Rattle.netlist.specs.Cells.{no_cell}
use Rattle.netlist.specs.Nets.{nth, cell_at, net_wires}
use Rattle.netlist.proofs.Places.{nth_get_or, cell_at_own}
use Rattle.block.specs.Blocks.{Whole, LawfulBlock, net_part}
use Rattle.blockfile.specs.Reading.{block_read, cell_from, pair_at, pairs_from}
use Rattle.blockfile.specs.Answers.{forget, file_answer}
use Rattle.blockfile.specs.Examples.{identity_file}
use Rattle.blockfile.specs.Viewing.{identity_block, or_identity, block_in}
use Rattle.blockfile.proofs.Steps.{err_ok}
use Rattle.blockfile.proofs.Opening.{opened_drop, opened_payload}
use Rattle.blockfile.proofs.Bodies.{body_length, body_cell, body_outputs}
use Rattle.blockfile.proofs.Blocks.{BlockIn, block_in as found_in, read_is_lawful}
use Rattle.blockfile.proofs.Parts.{get_or_part, pair_part}
use Rattle.blockfile.proofs.Pairs.{get_or_from}

accepts : (r : Result Whole FieldFault) (u : Unit {0}) → Ok u ≡ forget r → is_ok r ≡ true
accepts (Ok b) u e = refl
accepts (Err f) u e = absurd (err_ok f u (sym e))

given : (r : Result Whole FieldFault) → is_ok r ≡ true → r ≡ Ok (or_identity r)
given (Ok b) e = refl
given (Err f) e = absurd (let z : ◌≡◌ {A = ℕ} 0 1 = cc in omega arith)

pub accepted : (bytes : List ℕ) (u : Unit {0}) → Ok u ≡ file_answer bytes → is_ok (block_read bytes) ≡ true
accepted bytes = accepts (block_read bytes)

pub accepted_read : (bytes : List ℕ) → is_ok (block_read bytes) ≡ true → block_read bytes ≡ Ok (block_in bytes)
unfolding block_in
accepted_read bytes = given (block_read bytes)

pub accepted_lawful : (bytes : List ℕ) → is_ok (block_read bytes) ≡ true → LawfulBlock (block_in bytes)
accepted_lawful bytes h = read_is_lawful bytes (block_in bytes) (accepted_read bytes h)

-- the identity's file
pub identity_read : block_in identity_file ≡ identity_block
unfolding block_in
identity_read = refl

-- where the parts of a block stand in its file
pub record Layout (bytes : List ℕ) (b : Whole) : Type 0 where
  pub inputs : get_or bytes 3 0 ≡ b.table.n
  pub outputs : get_or bytes 4 0 ≡ b.table.m
  pub long : length bytes ≡ 11 + 2 ^ b.table.n + 4 * b.table.m + 14 * length b.cells
  pub entries : take (2 ^ b.table.n) (drop 8 bytes) ≡ b.table.entries
  pub cell : (k : ℕ) → k < length b.cells → cell_from (take 11 (drop (8 + 2 ^ b.table.n + 14 * k + 3) bytes)) ≡ get_or b.cells k no_cell
  pub pairs : b.outputs ≡ pairs_from b.table.m 0 (take (4 * b.table.m) (drop (8 + 2 ^ b.table.n + 14 * length b.cells + 3) bytes))

laid_out : (bytes : List ℕ) (b : Whole) → BlockIn bytes b → Layout bytes b
laid_out bytes b i =
    let n = b.table.n in
    let m = b.table.m in
    let size = 2 ^ n in
    let rest : drop 5 bytes ≡ i.rest = opened_drop 1 2 bytes i.sizes i.rest 0 5 (omega arith) i.opens in
    let sizes = opened_payload 1 2 bytes i.sizes i.rest i.opens in
    let behind : (j k : ℕ) → k ≡ 8 + size + j → drop j i.after ≡ drop k bytes = λ j k e.
    let s : 5 + (3 + size + j) ≡ k = omega arith in
    sym (opened_drop 2 size i.rest b.table.entries i.after j (3 + size + j) refl i.table) ∙ sym (ap (drop (3 + size + j)) rest) ∙ drop-drop (3 + size + j) 5 bytes ∙ ap (λ p. drop p bytes) s
    in
    let l1 = ap length i.opens.is in
    let l2 = length-append i.sizes i.rest in
    let l3 = i.opens.long in
    let l4 = ap length i.table.is in
    let l5 = length-append b.table.entries i.after in
    let l6 = i.table.long in
    let l7 = body_length (2 * n) m i.after b.cells b.outputs i.body in
    record {
      inputs = sym (get_or_part bytes 3 2 0 (omega arith)) ∙ ap (λ ys. get_or ys 0 0) sizes ∙ sym i.inputs;
      outputs = sym (get_or_part bytes 3 2 1 (omega arith)) ∙ ap (λ ys. get_or ys 1 0) sizes ∙ sym i.outputs;
      long = omega arith;
      entries = ap (take size) (sym (drop-drop 3 5 bytes)) ∙ ap (λ ys. take size (drop 3 ys)) rest ∙ opened_payload 2 size i.rest b.table.entries i.after i.table;
      cell = λ k h. ap (λ ys. cell_from (take 11 ys)) (sym (behind (14 * k + 3) (8 + size + 14 * k + 3) (omega arith))) ∙ body_cell (2 * n) m i.after b.cells b.outputs k h i.body;
      pairs = body_outputs (2 * n) m i.after b.cells b.outputs i.body
          ∙ ap (λ ys. pairs_from m 0 (take (4 * m) ys)) (behind (14 * length b.cells + 3) (8 + size + 14 * length b.cells + 3) (omega arith));
    }

pub accepted_layout : (bytes : List ℕ) → is_ok (block_read bytes) ≡ true → Layout bytes (block_in bytes)
accepted_layout bytes h = laid_out bytes (block_in bytes) (found_in bytes (block_in bytes) (accepted_read bytes h))

-- the number of cells, by the length of the file
pub counted : (len body m k size : ℕ) → body ≡ 8 + size → len ≡ 11 + size + 4 * m + 14 * k → (len - body - 3 - 4 * m) / 14 ≡ k
counted len body m k size eb el =
    let e : len - body - 3 - 4 * m ≡ k * 14 + 0 = omega arith in ap (λ n. n / 14) e ∙ div-mul-add k 14 0 (omega arith)

pub cell_there : (bytes : List ℕ) (b : Whole) (w place : ℕ) → Layout bytes b → 2 * b.table.n ≤ w → w < net_wires (net_part b) → place ≡ 8 + 2 ^ b.table.n + 14 * (w - 2 * b.table.n) + 3
    → Some (cell_from (take 11 (drop place bytes))) ≡ cell_at (net_part b) w
cell_there bytes b w place lay l h e =
    ap Some (ap (λ p. cell_from (take 11 (drop p bytes))) e ∙ lay.cell (w - 2 * b.table.n) (omega arith)) ∙ sym (cell_at_own (net_part b) w l h)

both : (x y x' y' : ℕ) → x ≡ x' → y ≡ y' → ◌≡◌ {A = ℕ × ℕ} (x, y) (x', y')
both x y x' y' e f = cc

pub pair_there : (bytes : List ℕ) (b : Whole) (c place : ℕ) → Layout bytes b → c < b.table.m → length b.outputs ≡ b.table.m → place ≡ 8 + 2 ^ b.table.n + 14 * length b.cells + 3 + 4 * c
    → Some (pair_at bytes place, pair_at bytes (place + 2)) ≡ nth b.outputs c
pair_there bytes b c place lay h complete e =
    let m = b.table.m in
    let at = 8 + 2 ^ b.table.n + 14 * length b.cells + 3 in
    let bs = take (4 * m) (drop at bytes) in
    let i : place ≡ at + (0 + 4 * c) = omega arith in
    let j : place + 2 ≡ at + (0 + 4 * c + 2) = omega arith in
    let p = ap (pair_at bytes) i ∙ sym (pair_part bytes at (4 * m) (0 + 4 * c) (omega arith)) in
    let q = ap (pair_at bytes) j ∙ sym (pair_part bytes at (4 * m) (0 + 4 * c + 2) (omega arith)) in
    ap Some (both (pair_at bytes place) (pair_at bytes (place + 2)) (pair_at bs (0 + 4 * c)) (pair_at bs (0 + 4 * c + 2)) p q
    ∙ sym (get_or_from m 0 c bs h) ∙ ap (λ ps. get_or ps c (0, 0)) (sym lay.pairs)) ∙ sym (nth_get_or b.outputs c (0, 0) (omega arith))
