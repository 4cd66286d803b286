-- The steps of marking back over the cells of a netlist.
use Rattle.std.proofs.Common.{◌≡◌, ℕ, zero, suc, ◌+◌, ◌-◌, ◌*◌, ◌<◌, List, [], ◌∷◌, map, length, get_or, drop, set, replicate, sym, ap, ◌∙◌, subst, arith}
use mathlib.Core.Option.{some}
use lib.ListN.{get_elem?}
use Rattle.std.proofs.lemmas.List.FromFn.{length-map-range_with_len}
use Rattle.netlist.specs.declared.cell.Kind.{Kind}
use Rattle.netlist.specs.declared.cell.Kind.TheVariants.{Mask, Not, And, Xor, Reg, Look1, Look2, Look3, Look4}
use Rattle.netlist.specs.declared.cell.Cell.{Cell}
use Rattle.netlist.specs.Circuit.{Driver, Circuit, wire_count, seen, bit_of}
use Rattle.netlist.specs.Cells.{driver, driver_of, arity, operand_limit, Fits, no_cell}
use Rattle.netlist.specs.Nets.{Net, net_wires, circuit, CellsFit}
use Rattle.netlist.proofs.Places.{wires_circuit}
use Rattle.query.specs.Answers.{probe_bytes}
use Rattle.query.specs.Marks.{followed_back}
use Rattle.query.proofs.Marking.{Below, probed}

kind_below : (k : Kind) (t a b c d w : ℕ) → a < operand_limit w 0 (arity k) → b < operand_limit w 1 (arity k) → c < operand_limit w 2 (arity k) → d < operand_limit w 3 (arity k) → Below w (driver_of k t a b c d)
kind_below Mask t a b c d w ha hb hc hd = tt
kind_below Not t a b c d w ha hb hc hd = (ha, tt)
kind_below And t a b c d w ha hb hc hd = (ha, (hb, tt))
kind_below Xor t a b c d w ha hb hc hd = (ha, (hb, tt))
kind_below Reg t a b c d w ha hb hc hd = ha
kind_below Look1 t a b c d w ha hb hc hd = (ha, tt)
kind_below Look2 t a b c d w ha hb hc hd = (ha, (hb, tt))
kind_below Look3 t a b c d w ha hb hc hd = (ha, (hb, (hc, tt)))
kind_below Look4 t a b c d w ha hb hc hd = (ha, (hb, (hc, (hd, tt))))

fits_driver : (w : ℕ) (x : Cell) → Fits w x → Below w (driver x)
fits_driver w x f = kind_below x.kind x.table x.a x.b x.c x.d w f.1 f.2 f.3 f.4

driver_at : (cells : List Cell) (j : ℕ) (d : Driver) → get_elem? (map driver cells) j ≡ some d → (j < length cells) × (d ≡ driver (get_or cells j no_cell))
driver_at [] j d e = grind arith
driver_at (x ∷ xs) zero d e = (omega arith, cc)
driver_at (x ∷ xs) (suc j) d e = grind (arith, driver_at xs j d e)

-- a lawful netlist's operands lie below their own wires
pub operands_below : (net : Net) → CellsFit net.inputs net.cells → (j : ℕ) (d : Driver) → get_elem? (map driver net.cells) j ≡ some d → Below (2 * net.inputs + j) d
operands_below net fit j d e =
    let r = driver_at net.cells j d e in
    subst (Below (2 * net.inputs + j)) (sym r.1) (fits_driver (2 * net.inputs + j) (get_or net.cells j no_cell) (fit j r.0))

-- what the loop keeps: the wires from w on are done
abbrev pub Followed : Net → ℕ → List ℕ → List ℕ → Type 0
Followed net w start ms = ms ≡ followed_back (map driver (drop (w - 2 * net.inputs) net.cells)) w start

pub back_end : (net : Net) (w wire long : ℕ) (start ms : List ℕ) → CellsFit net.inputs net.cells → wire < net_wires net → w ≡ 2 * net.inputs → long ≡ net_wires net
    → start ≡ set (replicate long 0) wire 1 → Followed net w start ms → ms ≡ probe_bytes (circuit net) wire
back_end net w wire long start ms fit within n size e h =
    let z : w - 2 * net.inputs ≡ 0 = omega arith in
    h ∙ ap (λ k. followed_back (map driver (drop k net.cells)) w start) z
    ∙ ap (λ k. followed_back (map driver net.cells) k start) n
    ∙ ap (followed_back (map driver net.cells) (2 * net.inputs)) (e ∙ ap (λ k. set (replicate k 0) wire 1) (size ∙ wires_circuit net))
    ∙ probed (circuit net) (operands_below net fit) wire (omega (arith, wires_circuit net))

pub length_probe_bytes : (c : Circuit) (w : ℕ) → length (probe_bytes c w) ≡ wire_count c
length_probe_bytes c w = length-map-range_with_len (λ v. bit_of (seen c w v)) 0 (wire_count c)
