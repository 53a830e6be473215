-- The words of `ask` about a pair.
use Rattle.std.specs.Prelude.{◌<◌, ◌∷◌, ◌≡◌, ◌≤◌, [], List, Ok, bytes_eq, codes, false, true, ℕ}
use Rattle.prefix_text.specs.Range.{range_text}
use Rattle.query_words.specs.Query.{query_of}
use Rattle.vpc_laws.specs.Types.{Description, EniNo}
use Rattle.vpc_model.specs.Accepted.{IsAccepted}
use Rattle.vpc_model.specs.Lookup.{interface_at}
use Rattle.described_hosts.specs.Hosts.{id_of, is_host}
use Rattle.reach_matrix.specs.Pairs.{IsAddressed, query_between}

-- a host with an address that the words of `ask` can name: the word `internet` means the internet
pub record CanBeAsked (d : Description) (i : EniNo) : Type 0 where
  pub addressed : IsAddressed d i
  pub host : is_host (interface_at d i) ≡ true
  pub named : bytes_eq (id_of d i) (codes "internet") ≡ false

-- `ask FILE from A to B port P-Q`
abbrev pub words_about : List ℕ → Description → EniNo × EniNo → ℕ × ℕ → List (List ℕ)
words_about file d pair ports =
    codes "ask" ∷ file ∷ codes "from" ∷ id_of d pair.0 ∷ codes "to" ∷ id_of d pair.1 ∷ codes "port" ∷ range_text ports ∷ []

-- they give the query about the pair
abbrev pub WordsGiveTheQuery : Type 0
WordsGiveTheQuery =
    (file : List ℕ) (d : Description) (pair : EniNo × EniNo) (ports : ℕ × ℕ) → IsAccepted d → CanBeAsked d pair.0 → CanBeAsked d pair.1 → ports.0 ≤ ports.1 → ports.1 < 65536
    → query_of d (words_about file d pair ports) ≡ Ok (query_between d pair ports)
