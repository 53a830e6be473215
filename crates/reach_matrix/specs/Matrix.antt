-- The text of a matrix: a line for each pair of different hosts.
use Rattle.std.specs.List.{flat_map}
use Rattle.std.specs.Prelude.{◌++◌, ◌==◌, ◌∷◌, ◌≡◌, [], List, codes, false, filter, map, not, true, ℕ}
use Rattle.block_report.specs.Words.{line_end, word}
use Rattle.command_job.specs.Lines.{line}
use Rattle.prefix_text.specs.Range.{range_text}
use Rattle.vpc_laws.specs.Types.{Description, EniNo}
use Rattle.described_hosts.specs.Hosts.{AreHostsById, id_of}
use Rattle.reach_matrix.specs.Pairs.{have_addresses}
use Rattle.reach_matrix.specs.Ranges.{ArePairRanges}

-- ---- pairs

-- the interface with each of the others, in their order
abbrev pub pairs_from : List EniNo → EniNo → List (EniNo × EniNo)
pairs_from hosts from = map (λ to. (from, to)) (filter (λ to. not (to.0 == from.0)) hosts)

-- each with each of the others: by the first, and then by the second
abbrev pub pairs_of : List EniNo → List (EniNo × EniNo)
pairs_of hosts = flat_map (pairs_from hosts) hosts

-- ---- lines

-- a range after a blank
abbrev pub range_word : ℕ × ℕ → List ℕ
range_word r = word (range_text r)

-- that no port is reached, or which ones are
abbrev pub ranges_text : List (ℕ × ℕ) → List ℕ
ranges_text [] = word (codes "blocked")
ranges_text (r ∷ rs) = word (codes "open") ++ flat_map range_word (r ∷ rs)

-- what is told of a pair: that one of the two has no primary address, or the ranges
pub data IsTold (d : Description) (ports : ℕ × ℕ) (pair : EniNo × EniNo) (told : List ℕ) : Type 0 where
  no_address : have_addresses d pair ≡ false → told ≡ word (codes "no-address") → IsTold d ports pair told
  found : (ranges : List (ℕ × ℕ)) → have_addresses d pair ≡ true → ArePairRanges d ports pair ranges → told ≡ ranges_text ranges → IsTold d ports pair told

-- the names of a pair
abbrev pub names_text : Description → EniNo × EniNo → List ℕ
names_text d pair = codes "pair" ++ word (id_of d pair.0) ++ word (id_of d pair.1)

-- its line
pub record IsPairLine (d : Description) (ports : ℕ × ℕ) (pair : EniNo × EniNo) (text : List ℕ) : Type 0 where
  pub told : List ℕ
  pub is_told : IsTold d ports pair told
  pub text_is : text ≡ names_text d pair ++ told ++ line_end

-- ---- the text

-- such a text of each item, one after another
abbrev pub AreTexts : {X : Type 0} → (X → List ℕ → Type 0) → List X → List ℕ → Type 0
AreTexts is [] text = text ≡ []
AreTexts is (x ∷ xs) text = (first : List ℕ) × ((rest : List ℕ) × (is x first × (AreTexts is xs rest × (text ≡ first ++ rest))))

-- such a text is added
abbrev pub Adds : (List ℕ → Type 0) → List ℕ → List ℕ → Type 0
Adds is old new = (text : List ℕ) × (is text × (new ≡ old ++ text))

-- `matrix`, and a line for each pair of hosts
pub record IsMatrix (d : Description) (ports : ℕ × ℕ) (text : List ℕ) : Type 0 where
  pub hosts : List EniNo
  pub by_id : AreHostsById d hosts
  pub lines : List ℕ
  pub pairs : AreTexts (IsPairLine d ports) (pairs_of hosts) lines
  pub text_is : text ≡ line (codes "matrix") ++ lines
