use Rattle.std.proofs.Common.{◌+◌, ◌-◌, ◌<◌, length}
use Rattle.std.specs.Io.KnownBytes.{Consumes}
use Rattle.vpc_io.proofs.file_shelf.read_up_to.Given as goal

abbrev pub invariant-loop-reader : goal.invariant-loop-reader
invariant-loop-reader g l = record {
  some : 0 < length l.piece.items;
  consumed : Consumes (g.F.Read.remaining l.fn.reader) (g.F.Read.remaining l.reader) l.bytes.items;
}

abbrev pub decreases-loop-reader : goal.decreases-loop-reader
decreases-loop-reader g l = l.max + 1 - length l.bytes.items
