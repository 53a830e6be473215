-- The words of `matrix FILE` and `matrix FILE port A-B`.
use Rattle.std.specs.Prelude.{◌==◌, ◌≡◌, ◌⊎◌, if◌then◌else◌, List, Ok, Result, codes, length, ℕ}
use Rattle.query_words.specs.Pairs.{read_ports}
use Rattle.query_words.specs.Refusal.{◌>>=◌}
use Rattle.query_words.specs.Words.{expect_word}
use Rattle.query_words.specs.declared.refusal.QueryRefusal.{QueryRefusal}

-- how many words there are
abbrev pub IsMatrixCount : ℕ → Type 0
IsMatrixCount n = (n ≡ 2) ⊎ (n ≡ 4)

-- every port
abbrev pub all_ports : ℕ × ℕ
all_ports = (0, 65535)

-- `port A-B`
abbrev pub port_pair : List (List ℕ) → Result (ℕ × ℕ) QueryRefusal
port_pair words = do
  named ← expect_word (codes "port") words 3
  read_ports words 4

-- the ports that are asked for, or the first word that can't be taken
abbrev pub ports_asked : List (List ℕ) → Result (ℕ × ℕ) QueryRefusal
ports_asked words = if length words == 2 then Ok all_ports else port_pair words
