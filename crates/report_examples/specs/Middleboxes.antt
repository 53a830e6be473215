-- What is printed of packets that an appliance forwards, or drops.
use Rattle.std.specs.Prelude.{◌∷◌, ◌≡◌, [], codes}
use Rattle.vpc_model.specs.declared.rows.ApplianceKind.TheVariants as forwards
use Rattle.vpc_model.specs.declared.rows.Target.TheVariants as targets
use Rattle.vpc_examples.specs.Networks.{block, local_1, route, subnet_table, v4}
use Rattle.report_examples.specs.Printed.{lines, text_of}
use Rattle.vpc_examples.specs.Middleboxes.{over_appliance, over_appliance_back, service, with_appliance}

-- the appliance forwards its service's port, and what it drops has passed its groups
abbrev pub PrintsAppliance : Type 0
PrintsAppliance =
    (text_of (service 443) (over_appliance (service 443))
    ≡ lines (codes "hop 1 out eni-a tcp 10.0.1.10 10.0.2.20 5000 443 by sg-a out 1"
    ∷ codes "hop 2 router subnet-a tcp 10.0.1.10 10.0.2.20 5000 443"
    ∷ codes "hop 3 in eni-f tcp 10.0.1.10 10.0.2.20 5000 443 by none"
    ∷ codes "hop 4 out eni-f tcp 10.0.1.10 10.0.2.20 5000 443 by none"
    ∷ codes "hop 5 router subnet-f tcp 10.0.1.10 10.0.2.20 5000 443"
    ∷ codes "hop 6 in eni-b tcp 10.0.1.10 10.0.2.20 5000 443 by sg-b in 1"
    ∷ codes "arrived eni-b"
    ∷ []))
    × (text_of (service 80) (over_appliance (service 80))
    ≡ lines (codes "hop 1 out eni-a tcp 10.0.1.10 10.0.2.20 5000 443 by sg-a out 1"
    ∷ codes "hop 2 router subnet-a tcp 10.0.1.10 10.0.2.20 5000 443"
    ∷ codes "hop 3 in eni-f tcp 10.0.1.10 10.0.2.20 5000 443 by none"
    ∷ codes "stopped ApplianceDrop eni-f -"
    ∷ []))

-- the reply goes back straight, or through the appliance where a route sends it there
abbrev pub PrintsReplyThroughAppliance : Type 0
PrintsReplyThroughAppliance =
    let d = with_appliance (forwards.Service 443 443) (subnet_table (codes "rtb-b") (codes "vpc-1") (codes "subnet-b") (local_1 ∷ route (block (v4 10 0 1 0) 24) (targets.Interface (codes "eni-f")) ∷ []) ∷ []) in
    (text_of (service 443) (over_appliance_back (service 443))
    ≡ lines (codes "hop 1 out eni-b tcp 10.0.2.20 10.0.1.10 443 5000 by tracked"
    ∷ codes "hop 2 router subnet-b tcp 10.0.2.20 10.0.1.10 443 5000"
    ∷ codes "hop 3 in eni-a tcp 10.0.2.20 10.0.1.10 443 5000 by tracked"
    ∷ codes "arrived eni-a"
    ∷ []))
    × (text_of d (over_appliance_back d)
    ≡ lines (codes "hop 1 out eni-b tcp 10.0.2.20 10.0.1.10 443 5000 by tracked"
    ∷ codes "hop 2 router subnet-b tcp 10.0.2.20 10.0.1.10 443 5000"
    ∷ codes "hop 3 in eni-f tcp 10.0.2.20 10.0.1.10 443 5000 by none"
    ∷ codes "hop 4 out eni-f tcp 10.0.2.20 10.0.1.10 443 5000 by none"
    ∷ codes "hop 5 router subnet-f tcp 10.0.2.20 10.0.1.10 443 5000"
    ∷ codes "hop 6 in eni-a tcp 10.0.2.20 10.0.1.10 443 5000 by tracked"
    ∷ codes "arrived eni-a"
    ∷ []))
