-- The tests that queries begin with.
use Rattle.std.proofs.Common.{◌≡◌, ℕ, zero, suc, ◌+◌, ◌<◌, ◌≤◌, List, [], ◌∷◌, ◌++◌, length, get_or, drop, Ok, arith}
use Rattle.std.proofs.lemmas.Grind.{common_steps}
use Rattle.netlist.specs.Circuit.{Circuit, share_count, wire_count, mask_count}
use Rattle.query.specs.Answers.{Answer, and_then, room_answer, given_answer, bits_answer, wire_answer}

-- where no byte is refused, each is a bit
pub bits_below : (given : List ℕ) (i : ℕ) → bits_answer i given ≡ Ok tt → (k : ℕ) → get_or given k 0 < 2
bits_below [] i e k = omega arith
bits_below (b ∷ bs) i e zero = grind (arith, common_steps)
bits_below (b ∷ bs) i e (suc k) = grind (arith, common_steps, bits_below bs (suc i))

pub room_known : (needed there : ℕ) → ◌≡◌ {A = Answer} (Ok tt) (room_answer needed there) → needed ≤ there
room_known needed there e = grind (arith, common_steps)

pub given_known : (c : Circuit) (came : ℕ) → ◌≡◌ {A = Answer} (Ok tt) (given_answer c came) → came ≡ share_count c + mask_count c
given_known c came e = grind (arith, common_steps)

-- a test that passes leaves the answer to the next
pub passed : (a b r : Answer) → ◌≡◌ {A = Answer} (Ok tt) a → r ≡ b → r ≡ and_then a b
passed a b r p q = cc

-- what is written, and the rest of the memory
pub rewritten_by : (w : ℕ) (xs new old out : List ℕ) → out ≡ xs ++ drop w old → xs ≡ new → w ≡ length new → out ≡ new ++ drop (length new) old
rewritten_by w xs new old out e same n = cc

pub wire_known : (c : Circuit) (w : ℕ) → ◌≡◌ {A = Answer} (Ok tt) (wire_answer c w) → w < wire_count c
wire_known c w e = grind (arith, common_steps)
