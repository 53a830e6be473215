use Rattle.std.proofs.Common.{◌∙◌, ap, bytes_eq, position}
use Rattle.number_tables.specs.Entries.{value_at}
use Rattle.vpc_laws.proofs.Lengths.{accepted_has_short_lists}
use Rattle.vpc_laws.specs.Types.{Attachment, Description}
use Rattle.transit_gateway.specs.Gateways.{AreGateways}
use Rattle.transit_gateway.proofs.Entering.{has_gateways_of}
use Rattle.transit_gateway.proofs.KeyLemmas.{number-short}
use Rattle.transit_gateway.proofs.gateways.Gateways.of.Goals as goal

pub attachment_entries-requires : goal.attachment_entries-requires
attachment_entries-requires c = λ id.
    c.in_ok-numbers.ensures id
    ∙ ap (position (λ (a : Attachment). bytes_eq a.gateway id)) (c.as_slice.ensures ∙ ap (λ (d : Description). d.attachments) c.description-d.ensures.value)

pub returns-clause-gateways : goal.returns-clause-gateways
returns-clause-gateways c =
    has_gateways_of c.args.n.now c.in_ok-numbers.numbers c.in_ok-attachments.attachments c.description-d.ensures.accepted
    (λ id.
    c.in_ok-numbers.ensures id
    ∙ ap (position (λ (a : Attachment). bytes_eq a.gateway id)) (c.as_slice.ensures ∙ ap (λ (d : Description). d.attachments) c.description-d.ensures.value))
    (λ k. c.in_ok-attachments.ensures k ∙ ap (value_at k) c.in_ok-entries.ensures)

pub returns-clause-short : goal.returns-clause-short
returns-clause-short c = λ id k told.
    let are : AreGateways c.args.n.now c.in_ok-numbers.numbers = λ i.
    c.in_ok-numbers.ensures i
    ∙ ap (position (λ (a : Attachment). bytes_eq a.gateway i)) (c.as_slice.ensures ∙ ap (λ (d : Description). d.attachments) c.description-d.ensures.value) in
    number-short (λ (a : Attachment). a.gateway) c.args.n.now.attachments c.in_ok-numbers.numbers id k are (accepted_has_short_lists c.args.n.now c.description-d.ensures.accepted).attachments told
