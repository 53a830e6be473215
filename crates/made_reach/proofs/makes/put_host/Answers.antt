use Rattle.std.proofs.Common.{◌∙◌, List, OnOk, subst, ℕ}
use Rattle.made_network.specs.Made.{interface_id}
use Rattle.query_words.specs.declared.queries.Query.{Query}
use Rattle.made_reach.specs.Made.{Adds, IsPair}
use Rattle.made_reach.proofs.MadeLemmas.{asks_host, query_is}
use Rattle.made_reach.proofs.makes.put_host.Goals as goal

pub put_pair-requires-clause-query : goal.put_pair-requires-clause-query
put_pair-requires-clause-query g c =
    asks_host c.args.f.now c.args.n c.args.k c.requests_to-query.result c.requires.made c.requires.number
    (query_is c.args.k c.from.result c.host_address-address.result c.requests_to-query.result c.from.ensures c.host_address-address.ensures c.requests_to-query.ensures)

pub returns : goal.returns
returns g c =
    let asks = query_is c.args.k c.from.result c.host_address-address.result c.requests_to-query.result c.from.ensures c.host_address-address.ensures c.requests_to-query.ensures in
    subst (λ (q : Query). OnOk c.put_pair.result (Adds (IsPair c.args.f.now q (interface_id c.args.k)) c.args.out.now.items c.put_pair.new.out.items)) asks
    (subst (λ (goal : List ℕ). OnOk c.put_pair.result (Adds (IsPair c.args.f.now c.requests_to-query.result goal) c.args.out.now.items c.put_pair.new.out.items))
    (c.as_bytes.ensures.value ∙ c.in_ok-goal.ensures.ok) c.put_pair.ensures)
