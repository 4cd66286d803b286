-- What the queries answer, and what they leave in the memory handed over.
use Rattle.std.specs.Prelude.{◌≡◌, ℕ, suc, ◌+◌, ◌<◌, Bool, cond, List, [], ◌∷◌, ◌++◌, map, length, take, drop, Ok, Err, Result, ◌==◌, nat_lt}
use Rattle.std.specs.List.{range_with_len}
use Rattle.fault.specs.declared.NetlistFault.{NetlistFault}
use Rattle.fault.specs.declared.NetlistFault.TheVariants.{Wire, Given, Bit, Memory}
use Rattle.netlist.specs.Circuit.{Circuit, share_count, wire_count, mask_count, settled, seen, bit_of}
use Rattle.value.specs.Values.{lane}

abbrev pub Answer : Type 0
Answer = Result (Unit {0}) NetlistFault

-- one test after another: the first that refuses is the answer
abbrev pub and_then : Answer → Answer → Answer
and_then (Ok _) next = next
and_then (Err f) next = Err f

-- whether there is as much memory as is needed
abbrev pub room_answer : ℕ → ℕ → Answer
room_answer needed there = cond (nat_lt there needed) (Err (Memory needed)) (Ok tt)

-- whether as many values came as there are shares and masks
abbrev pub given_answer : Circuit → ℕ → Answer
given_answer c came = cond (came == share_count c + mask_count c) (Ok tt) (Err (Given came))

-- whether all bytes are bits, counted from i
abbrev pub bits_answer : ℕ → List ℕ → Answer
bits_answer i [] = Ok tt
bits_answer i (b ∷ bs) = cond (nat_lt 1 b) (Err (Bit i)) (bits_answer (suc i) bs)

-- whether there is such a wire
abbrev pub wire_answer : Circuit → ℕ → Answer
wire_answer c w = cond (nat_lt w (wire_count c)) (Ok tt) (Err (Wire w))

abbrev pub settle_answer : Circuit → List ℕ → ℕ → Answer
settle_answer c given there = and_then (room_answer (wire_count c) there) (and_then (given_answer c (length given)) (bits_answer 0 given))

abbrev pub lanes_answer : Circuit → ℕ → ℕ → Answer
lanes_answer c came there = and_then (room_answer (wire_count c) there) (given_answer c came)

abbrev pub probe_answer : Circuit → ℕ → ℕ → Answer
probe_answer c w there = and_then (room_answer (wire_count c) there) (wire_answer c w)

-- what memory holds after a call: what is written and then the rest as it was; after a refusal all as it was
abbrev pub rewritten : Answer → List ℕ → List ℕ → List ℕ
rewritten (Ok _) new old = new ++ drop (length new) old
rewritten (Err _) new old = old

abbrev pub is_one : ℕ → Bool
is_one b = b == 1

-- settling from bytes: those of the shares in wire order, then one for each mask
abbrev pub settled_bytes : Circuit → List ℕ → List ℕ
settled_bytes c given = map bit_of (settled c (take (share_count c) (map is_one given)) (drop (share_count c) (map is_one given)))

-- a probe's bytes: 1 on each wire that it sees, and 0 elsewhere
abbrev pub probe_bytes : Circuit → ℕ → List ℕ
probe_bytes c w = map (λ v. bit_of (seen c w v)) (range_with_len 0 (wire_count c))

-- 64 settlings at once: each lane of the words is the settling of that lane of the words given
abbrev pub SettledLanes : Circuit → List ℕ → List ℕ → Type 0
SettledLanes c given words =
    (j : ℕ) → j < 64 → map (lane j) words ≡ settled c (take (share_count c) (map (lane j) given)) (drop (share_count c) (map (lane j) given))

abbrev pub LanesAfter : Answer → Circuit → List ℕ → List ℕ → List ℕ → Type 0
LanesAfter (Ok _) c given old new = SettledLanes c given (take (wire_count c) new) × (drop (wire_count c) new ≡ drop (wire_count c) old)
LanesAfter (Err _) c given old new = new ≡ old
