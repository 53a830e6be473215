-- Files of the system.
use Rattle.std.specs.Prelude.{ℕ, Result, Ok, Err}
use Rattle.std.specs.declared.vec.Vec.{Vec}
use Rattle.vpc_io.specs.declared.shelf.ShelfFault.{ShelfFault}
use Rattle.vpc_io.specs.declared.shelf.ShelfFault.TheVariants.{Failed, TooLong, Memory}
use Rattle.vpc_io.specs.Rose.{next_count}

-- the count of faults after this answer: one more exactly where the shelf failed
abbrev pub faults_after : {A : Type 0} → ℕ → Result (Vec ℕ A) ShelfFault → ℕ
faults_after faults (Ok bytes) = faults
faults_after faults (Err Failed) = next_count faults
faults_after faults (Err TooLong) = faults
faults_after faults (Err Memory) = faults
