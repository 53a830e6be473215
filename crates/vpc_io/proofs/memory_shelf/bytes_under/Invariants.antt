use Rattle.std.proofs.Common.{◌≡◌, drop}
use Rattle.vpc_io.specs.Shelf.{files_of, bytes_of}
use Rattle.vpc_io.proofs.memory_shelf.bytes_under.Given as goal

-- the files that are left have the bytes that all have
abbrev pub invariant-loop-held : goal.invariant-loop-held
invariant-loop-held l = bytes_of (files_of (drop l.held-index l.files)) l.name ≡ bytes_of (files_of l.files) l.name
