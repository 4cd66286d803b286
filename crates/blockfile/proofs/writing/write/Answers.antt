use Rattle.std.proofs.Common.{◌+◌, ◌*◌, length, refl, arith}
use Rattle.blockfile.specs.Format.{file_of}
use Rattle.blockfile.proofs.Blocks.{written_is_read, one_file_each}
use Rattle.blockfile.proofs.Written.{pieces_put, needed_is, write_short, write_enough}
use Rattle.blockfile.proofs.writing.write.Goals as goal

pub returns-then-out-needed : goal.returns-then-out-needed
returns-then-out-needed g c =
    let b = g.B.Block.block c.args.source.now in
    let e = needed_is b (g.met.B.Block.whole c.args.source.now) (8 + c.entry_count-body.result + 14 * c.cell_count.result + 3 + 4 * c.outputs.result) (omega arith) in
    record {
      answer = write_short _ (length c.args.out.now) (length (file_of b)) e c.if-out-needed.true;
      memory = refl {a = c.args.out.now};
      read = written_is_read;
      one = one_file_each;
    }

pub returns : goal.returns
returns g c =
    let b = g.B.Block.block c.args.source.now in
    let law = g.met.B.Block.whole c.args.source.now in
    let e = needed_is b law (8 + c.entry_count-body.result + 14 * c.cell_count.result + 3 + 4 * c.outputs.result) (omega arith) in
    record {
      answer = write_enough _ (length c.args.out.now) (length (file_of b)) e c.if-out-needed.false;
      memory = pieces_put b law (8 + c.entry_count-body.result) (8 + c.entry_count-body.result + 14 * c.cell_count.result) (8 + c.entry_count-body.result + 14 * c.cell_count.result + 3 + 4 * c.outputs.result) c.args.out.now _ _ _ (omega arith) (omega arith) (omega arith) c.put_table.ensures c.put_cells.ensures c.put_outputs.ensures;
      read = written_is_read;
      one = one_file_each;
    }
