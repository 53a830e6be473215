-- What is asked of a generated network, and what is printed of it.
use Rattle.std.proofs.Common.{◌≡◌, ◌∙◌, ◌+◌, ◌-◌, ◌++◌, ◌<◌, ◌≤◌, ◌∷◌, [], List, ap, append-nil, append_assoc, arith, codes, decimal, le_refl, map-id, nat_lt, refl, subst, sym, true, ℕ}
use Rattle.std.specs.List.{range_with_len}
use Rattle.std.proofs.lemmas.List.FromFn.{length-map-range_with_len, map-range_with_len_more}
use Rattle.std.proofs.lemmas.Bool.{lt-ltb}
use Rattle.block_report.specs.Words.{word}
use Rattle.made_network.specs.Made.{host_address, interface_id, made, made_interface}
use Rattle.network_reach.specs.Reached.{IsQueryIn}
use Rattle.query_words.specs.declared.queries.Query.{Query}
use Rattle.vpc_laws.specs.Types.{Description, End}
use Rattle.vpc_model.specs.Sound.{is_end}
use Rattle.vpc_model.specs.declared.places.End.TheVariants as places
use Rattle.command_job.specs.Lines.{line}
use Rattle.made_reach.specs.Made.{Adds, ArePairs, IsPair, IsSurvey, requests_to, to_host, to_internet}

-- ---- queries

host-end : (n j : ℕ) → j < n → is_end (made n) (places.Interface (record { 0 = j })) ≡ true
host-end n j below = ap (nat_lt j) (length-map-range_with_len made_interface 1 n) ∙ lt-ltb j n below

is-query : (n : ℕ) (goal : End) (addresses : ℕ × ℕ) → 1 ≤ n → is_end (made n) goal ≡ true → addresses.0 ≤ addresses.1 → IsQueryIn (made n) (requests_to goal addresses)
is-query n goal addresses some there range = record {
  start = host-end n 0 some;
  goal = there;
  sides = record { proto = le_refl 6; src = le_refl (host_address 1); dst = range; p = omega arith; q = omega arith };
  some = omega arith;
}

in-network : (d : Description) (n : ℕ) (query asked : Query) → d ≡ made n → query ≡ asked → IsQueryIn (made n) asked → IsQueryIn d query
in-network d n query asked same is it = subst (λ (x : Description). IsQueryIn x query) (sym same) (subst (IsQueryIn (made n)) (sym is) it)

pub asks_host : (d : Description) (n k : ℕ) (query : Query) → d ≡ made n → (2 ≤ k) × (k ≤ n) → query ≡ to_host k → IsQueryIn d query
asks_host d n k query same within is =
    let two = within.0 in
    let most = within.1 in
    in-network d n query (to_host k) same is
    (is-query n (places.Interface (record { 0 = k - 1 })) (host_address k, host_address k) (omega arith) (host-end n (k - 1) (omega arith)) (le_refl (host_address k)))

pub asks_internet : (d : Description) (n : ℕ) (query : Query) → d ≡ made n → 1 ≤ n → query ≡ to_internet → IsQueryIn d query
asks_internet d n query same some is =
    in-network d n query to_internet same is (is-query n places.Internet _ some refl (omega arith))

pub query_is : (k from address : ℕ) (query : Query) → from ≡ k → address ≡ host_address k → query ≡ requests_to (places.Interface (record { 0 = from - 1 })) (address, address) → query ≡ to_host k
query_is k from address query begins there is =
    is ∙ (ap (λ (j : ℕ). requests_to (places.Interface (record { 0 = j - 1 })) (address, address)) begins
    ∙ ap (λ (a : ℕ). requests_to (places.Interface (record { 0 = k - 1 })) (a, a)) there)

-- ---- lines

pairs-more : (d : Description) (ks : List ℕ) (k : ℕ) (text more : List ℕ) → ArePairs d ks text → IsPair d (to_host k) (interface_id k) more → ArePairs d (ks ++ k ∷ []) (text ++ more)
pairs-more d [] k text more are is = (more, ([], (is, (refl, ap (λ (t : List ℕ). t ++ more) are ∙ sym (append-nil more)))))
pairs-more d (j ∷ ks) k text more (first, (rest, (one, (others, e)))) is =
    (first, (rest ++ more, (one, (pairs-more d ks k rest more others is, ap (λ (t : List ℕ). t ++ more) e ∙ append_assoc first rest more))))

range-more : (a n : ℕ) → range_with_len a (n + 1) ≡ range_with_len a n ++ (a + n) ∷ []
range-more a n =
    sym (map-id (range_with_len a (n + 1)))
    ∙ (map-range_with_len_more (λ (j : ℕ). j) a n (a + n) refl ∙ ap (λ (js : List ℕ). js ++ (a + n) ∷ []) (map-id (range_with_len a n)))

-- one more line
pub pairs_and_one : (d : Description) (k : ℕ) (a b c : List ℕ) → 2 ≤ k → Adds (ArePairs d (range_with_len 2 (k - 2))) a b → Adds (IsPair d (to_host k) (interface_id k)) b c
    → Adds (ArePairs d (range_with_len 2 (k + 1 - 2))) a c
pairs_and_one d k a b c two (hosts, (are, before)) (one, (is, after)) =
    let added = pairs-more d (range_with_len 2 (k - 2)) (2 + (k - 2)) hosts one are (subst (λ (j : ℕ). IsPair d (to_host j) (interface_id j) one) (omega arith) is) in
    let numbers : range_with_len 2 (k + 1 - 2) ≡ range_with_len 2 (k - 2) ++ (2 + (k - 2)) ∷ [] = ap (range_with_len 2) (omega arith) ∙ range-more 2 (k - 2) in
    (hosts ++ one, (subst (λ (ks : List ℕ). ArePairs d ks (hosts ++ one)) (sym numbers) added, after ∙ (ap (λ (t : List ℕ). t ++ one) before ∙ append_assoc a hosts one)))

pub survey_is : (d : Description) (n : ℕ) (one two three : List ℕ) → d ≡ made n → one ≡ line (codes "make" ++ word (decimal n))
    → Adds (ArePairs d (range_with_len 2 (n - 1))) one two → Adds (IsPair d to_internet (codes "internet")) two three → IsSurvey n three
survey_is d n one two three same begun (hosts, (are, second)) (last, (is, third)) = record {
  hosts = hosts;
  internet = last;
  pairs = subst (λ (x : Description). ArePairs x (range_with_len 2 (n - 1)) hosts) same are;
  last = subst (λ (x : Description). IsPair x to_internet (codes "internet") last) same is;
  text_is = third ∙ ap (λ (t : List ℕ). t ++ last) (second ∙ ap (λ (t : List ℕ). t ++ hosts) begun);
}
