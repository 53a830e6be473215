-- The words of a command.
use Rattle.std.specs.Prelude.{ℕ, ◌+◌, ◌-◌, ◌%◌, ◌==◌, ◌≡◌, ◌≤◌, ◌||◌, ◌&&◌, not, nat_lt, Bool, true, false, List, [], ◌∷◌, Option, Some, None, Result, Err, Ok, bytes_eq, codes, if◌then◌else◌, length, option_map, position}
use Rattle.query_words.specs.Words.{word_at}
use Rattle.vpc_commands.specs.declared.words.Command.{Command}
use Rattle.vpc_commands.specs.declared.words.Command.TheVariants as commands
use Rattle.vpc_commands.specs.declared.words.Count.{Count}
use Rattle.vpc_commands.specs.declared.words.WordsRefusal.{WordsRefusal}

-- ---- words that no command has

-- a word that is empty or begins with a dash
abbrev pub is_bad_word : List ℕ → Bool
is_bad_word [] = true
is_bad_word (c ∷ cs) = c == 45

-- the number, from 1, of the first such word
abbrev pub bad_word : List (List ℕ) → Option ℕ
bad_word words = option_map (λ k. k + 1) (position is_bad_word words)

-- ---- commands

-- the command with this name
abbrev pub command_named : List ℕ → Option Command
command_named name =
    if bytes_eq name (codes "trace") then Some commands.Trace
    else (if bytes_eq name (codes "why") then Some commands.Why
    else (if bytes_eq name (codes "ask") then Some commands.Ask
    else (if bytes_eq name (codes "check") then Some commands.Check
    else (if bytes_eq name (codes "replay") then Some commands.Replay
    else (if bytes_eq name (codes "make") then Some commands.Make
    else (if bytes_eq name (codes "expect") then Some commands.Expect
    else (if bytes_eq name (codes "flows") then Some commands.Flows
    else (if bytes_eq name (codes "matrix") then Some commands.Matrix
    else (if bytes_eq name (codes "reach") then Some commands.Reach
    else (if bytes_eq name (codes "diff") then Some commands.Diff
    else (if bytes_eq name (codes "unused") then Some commands.Unused else None)))))))))))

-- `check` with a third file is about a change
abbrev pub with_files : ℕ → Command → Command
with_files n commands.Check = if nat_lt 3 n then commands.CheckDiff else commands.Check
with_files n command = command

-- the command that the first word names, by how many words there are
abbrev pub first_named : List (List ℕ) → Option Command
first_named [] = None
first_named (w ∷ words) = option_map (with_files (length words + 1)) (command_named w)

-- how many words a command has, its own name included
abbrev pub count_of : Command → Count
count_of commands.Trace = record { least = 10; most = 10; pairs = false }
count_of commands.Why = record { least = 10; most = 10; pairs = false }
count_of commands.Ask = record { least = 6; most = 18; pairs = true }
count_of commands.Check = record { least = 3; most = 3; pairs = false }
count_of commands.CheckDiff = record { least = 4; most = 4; pairs = false }
count_of commands.Replay = record { least = 3; most = 3; pairs = false }
count_of commands.Make = record { least = 2; most = 2; pairs = false }
count_of commands.Expect = record { least = 3; most = 3; pairs = false }
count_of commands.Flows = record { least = 3; most = 3; pairs = false }
count_of commands.Matrix = record { least = 2; most = 4; pairs = true }
count_of commands.Reach = record { least = 2; most = 18; pairs = true }
count_of commands.Diff = record { least = 3; most = 19; pairs = true }
count_of commands.Unused = record { least = 6; most = 16; pairs = true }

-- the numbers of the words that name its files
abbrev pub files_of : Command → List ℕ
files_of commands.Trace = 2 ∷ []
files_of commands.Why = 2 ∷ []
files_of commands.Ask = 2 ∷ []
files_of commands.Check = 2 ∷ 3 ∷ []
files_of commands.CheckDiff = 2 ∷ 3 ∷ 4 ∷ []
files_of commands.Replay = 2 ∷ 3 ∷ []
files_of commands.Make = []
files_of commands.Expect = 2 ∷ 3 ∷ []
files_of commands.Flows = 2 ∷ 3 ∷ []
files_of commands.Matrix = 2 ∷ []
files_of commands.Reach = 2 ∷ []
files_of commands.Diff = 2 ∷ 3 ∷ []
files_of commands.Unused = 2 ∷ []

-- ---- how many words there are

-- a word more than the least comes with a second one
abbrev pub lacks_one : Count → ℕ → Bool
lacks_one c n = c.pairs && not ((n - c.least) % 2 == 0)

-- where there are too many the number of the first too many, and where one is missing the number after the last
abbrev pub count_fault : Count → ℕ → Option ℕ
count_fault c n =
    if nat_lt c.most n then Some (c.most + 1)
    else (if nat_lt n c.least || lacks_one c n then Some (n + 1) else None)

-- so many words are neither too few nor too many
pub record HasCount (c : Count) (n : ℕ) : Type 0 where
  pub least : c.least ≤ n
  pub most : n ≤ c.most
  pub paired : lacks_one c n ≡ false

-- ---- the command of some words

abbrev pub refused_at : ℕ → Result Command WordsRefusal
refused_at n = Err (record { word = n })

-- the command, unless a word is missing or too many
abbrev pub counted : Command → Option ℕ → Result Command WordsRefusal
counted command None = Ok command
counted command (Some n) = refused_at n

-- the named command, if there is one
abbrev pub named : Option Command → ℕ → Result Command WordsRefusal
named None n = refused_at 1
named (Some command) n = counted command (count_fault (count_of command) n)

-- the command, unless a word is bad
abbrev pub unless_bad : Option ℕ → List (List ℕ) → Result Command WordsRefusal
unless_bad (Some n) words = refused_at n
unless_bad None words = named (first_named words) (length words)

-- the command that the words give, or the number, from 1, of the first word that is wrong
abbrev pub command_of : List (List ℕ) → Result Command WordsRefusal
command_of words = unless_bad (bad_word words) words

-- the name of the file
abbrev pub file_name : List (List ℕ) → List ℕ
file_name words = word_at words 2

-- the name of the second file, where the command has one
abbrev pub second_name : List (List ℕ) → List ℕ
second_name words = word_at words 3

-- that of the third one
abbrev pub third_name : List (List ℕ) → List ℕ
third_name words = word_at words 4
