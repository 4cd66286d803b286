-- Writing a block's file into memory: what the call answers, and what the memory holds after it.
use Rattle.std.specs.Prelude.{ℕ, ◌+◌, cond, List, ◌++◌, length, take, drop, Ok, Err, Result, nat_lt}
use Rattle.fault.specs.declared.NetlistFault.{NetlistFault}
use Rattle.fault.specs.declared.NetlistFault.TheVariants.{Memory}

-- the length of the file; or that much memory is needed, and not there
abbrev pub write_answer : ℕ → ℕ → Result ℕ NetlistFault
write_answer needed there = cond (nat_lt there needed) (Err (Memory needed)) (Ok needed)

-- the file, and then the rest as it was; after a refusal all as it was
abbrev pub after_write : Result ℕ NetlistFault → List ℕ → List ℕ → List ℕ
after_write (Ok _) file old = file ++ drop (length file) old
after_write (Err _) file old = old

-- bytes that are put at a place: what stands before and behind them is as it was
abbrev pub put_at : ℕ → List ℕ → List ℕ → List ℕ
put_at at bytes old = take at old ++ (bytes ++ drop (at + length bytes) old)
