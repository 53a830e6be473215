-- How a command ends.
use Rattle.std.specs.Prelude.{◌≡◌, ◌⊎◌, ℕ}
use Rattle.command_job.specs.declared.status.Status.{Status}
use Rattle.command_job.specs.declared.status.Status.TheVariants.{Yes, No, Words, Description, Query, More, Read, Write, Memory, Unknown}

-- the exit code
abbrev pub code_of : Status → ℕ
code_of Yes = 0
code_of No = 1
code_of Words = 2
code_of Description = 3
code_of Query = 4
code_of More = 5
code_of Read = 6
code_of Write = 7
code_of Memory = 8
code_of Unknown = 9

-- a status that tells of a device that failed
abbrev pub IsOfDevice : Status → Type 0
IsOfDevice status = (status ≡ Read) ⊎ (status ≡ Write)
