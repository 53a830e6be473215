use Rattle.header_boxes.proofs.division.aligned.Goals as goal

pub returns-then-are_addresses_aligned : goal.returns-then-are_addresses_aligned
returns-then-are_addresses_aligned c =
    let proto = rw c.of_protocols.ensures at (c.is_side_aligned8.ensures.0 c.if-is_side_aligned8.true) in
    let addresses = rw c.of_addresses.ensures at (c.are_addresses_aligned.ensures.0 c.if-are_addresses_aligned.true) in (
      (λ t. let ports = c.are_ports_aligned.ensures.0 t in record { proto = proto; src = addresses.0; dst = addresses.1; p = ports.0; q = ports.1 }),
      (λ all. c.are_ports_aligned.ensures.1 (all.p, all.q)),
    )
