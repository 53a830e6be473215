use Rattle.std.proofs.Common.{◌∙◌, List, ap, arith, bytes_eq, length, sym, ℕ}
use Rattle.vpc_base.proofs.Positions.{position-nowhere}
use Rattle.vpc_model.specs.Lookup.{has_peering}
use Rattle.vpc_model.specs.declared.numbers.PeerNo.{PeerNo}
use Rattle.vpc_model.specs.declared.rows.Description.{Description}
use Rattle.vpc_model.specs.declared.rows.Peering.{Peering}
use Rattle.reference_check.proofs.Accepted.{accepted_is_counted}
use Rattle.reference_check.proofs.Firsts.{missing-length}
use Rattle.reference_check.proofs.network.Network.peering_number.Goals as goal

pub overflow_cast-result : goal.overflow_cast-result
overflow_cast-result c =
    let d = c.args.self.now in
    let same = ap (λ (rows : List Peering). length rows) (c.as_slice.ensures ∙ ap (λ (x : Description). x.peerings) c.description.ensures.value) in
    let few = (accepted_is_counted d c.description.ensures.accepted).peerings in
    omega (arith, few)

pub returns-in-None : goal.returns-in-None
returns-in-None c =
    let d = c.args.self.now in
    let own = λ (row : Peering). bytes_eq row.id c.args.id.now in
    let same = ap (λ (rows : List Peering). length rows) (c.as_slice.ensures ∙ ap (λ (x : Description). x.peerings) c.description.ensures.value) in
    let none = ap (has_peering d) (sym c.bytes.ensures.value) ∙ sym c.in-None.ensures.found in
    let numbered : ℕ → PeerNo = λ n. record { 0 = n } in
    ap numbered (same ∙ sym (missing-length own d.peerings (position-nowhere own d.peerings none)))
