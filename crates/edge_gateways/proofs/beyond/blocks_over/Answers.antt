use Rattle.std.proofs.Common.{◌∙◌, ◌≡◌, List, Option, ap, subst, sym, true, ℕ}
use Rattle.vpc_laws.proofs.Numbering.{ids_are_found}
use Rattle.vpc_laws.specs.Types.{PeerNo}
use Rattle.vpc_model.specs.Far.{blocks_of_other}
use Rattle.vpc_model.specs.Lookup.{has_peering}
use Rattle.vpc_model.specs.Sound.{is_peering}
use Rattle.edge_gateways.proofs.FarBlocks.{no_pair}
use Rattle.edge_gateways.proofs.beyond.blocks_over.Goals as goal

pub peering_at-requires : goal.peering_at-requires
peering_at-requires c =
    subst (λ (x : PeerNo). is_peering c.args.n.now x ≡ true) (sym c.in-Some.ensures.number) ((ids_are_found c.args.n.now).peering c.bytes.result.now (sym c.in-Some.ensures.found)).0

pub returns-in-None : goal.returns-in-None
returns-in-None c =
    let d = c.args.n.now in
    let none = no_pair d c.args.far.now.id (ap (has_peering d) (sym c.bytes.ensures.value) ∙ sym c.in-None.ensures.found) in
    ap (λ (pair : Option (List ℕ × List ℕ)). blocks_of_other d pair c.args.requester.now c.args.accepter.now) (sym none)
