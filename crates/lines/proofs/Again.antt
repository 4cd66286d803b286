-- A block's file, and the file that is written of its block.
use Rattle.std.proofs.Common.{◌≡◌, ℕ, true, List, ◌++◌, length, take, drop, is_ok, Ok, Err, Result, sym, refl, ap, ◌∙◌, arith, length-append}
use Rattle.std.proofs.lemmas.List.{take-append-le, take_at, take_all}
use Rattle.fault.specs.declared.NetlistFault.{NetlistFault}
use Rattle.blockfile.specs.Format.{file_of}
use Rattle.blockfile.specs.Laws.{Bytes}
use Rattle.blockfile.specs.Reading.{block_read}
use Rattle.blockfile.specs.Viewing.{block_in}
use Rattle.blockfile.specs.Writing.{write_answer, after_write}
use Rattle.blockfile.proofs.Accepted.{accepted_read}
use Rattle.blockfile.proofs.Blocks.{read_is_written}
use Rattle.blockfile.proofs.Written.{write_enough}

-- the file of the block that is read is the one that it is read from
pub file_again : (bytes : List ℕ) → Bytes bytes → is_ok (block_read bytes) ≡ true → file_of (block_in bytes) ≡ bytes
file_again bytes small h = read_is_written bytes (block_in bytes) small (accepted_read bytes h)

-- memory as long as the file is enough
enough : (file old : List ℕ) (r : Result ℕ NetlistFault) → length old ≡ length file → r ≡ write_answer (length file) (length old) → r ≡ Ok (length file)
enough file old r long e = e ∙ sym (write_enough (length file) (length old) (length file) refl (omega (arith, long)))

written_length : (n m : ℕ) → ◌≡◌ {A = Result ℕ NetlistFault} (Ok n) (Ok m) → n ≡ m
written_length n m e = cc

-- what is then in the memory, cut to the length that is answered
pub written_again : (bytes file old new rest : List ℕ) (r : Result ℕ NetlistFault) (n long : ℕ) → file ≡ bytes → length old ≡ length bytes → long ≡ length bytes
    → r ≡ write_answer (length file) (length old) → new ≡ after_write r file old → r ≡ Ok n → take n (take long (new ++ rest)) ≡ bytes
written_again bytes file old new rest r n long same l l2 answer memory ok =
    let f = ap length same in
    let e = enough file old r (omega (arith, l, f)) answer in
    let k = written_length n (length file) (sym ok ∙ e) in
    let m : new ≡ file ++ drop (length file) old = memory ∙ ap (λ s. after_write s file old) e in
    let a = ap length m in
    let b = length-append file (drop (length file) old) in
    let held : take long (new ++ rest) ≡ file =
    take-append-le long new rest (omega arith) ∙ ap (take long) m ∙ take_at file (drop (length file) old) long (omega arith)
    in
    ap (take n) held ∙ take_all n file (omega arith) ∙ same

pub no_refusal : (bytes file old : List ℕ) (r : Result ℕ NetlistFault) (f : NetlistFault) → file ≡ bytes → length old ≡ length bytes → r ≡ write_answer (length file) (length old)
    → r ≡ Err f → ⊥
no_refusal bytes file old r f same long answer err =
    let e = sym (enough file old r (long ∙ ap length (sym same)) answer) ∙ err in
    let z : ◌≡◌ {A = ℕ} 0 1 = cc in omega arith
