-- Attachments by their gateways and VPCs (EC2 API, DescribeTransitGatewayVpcAttachments).
use Rattle.std.specs.Prelude.{◌&&◌, ◌∷◌, ◌++◌, ◌+◌, ◌<◌, ◌^◌, ◌≡◌, [], if◌then◌else◌, List, Option, Some, bytes_eq, option_and_then, option_map, position, true, ℕ}
use Rattle.std.specs.List.{position_or_len}
use Rattle.number_tables.specs.Entries.{value_at}
use Rattle.number_tables.specs.declared.tables.Entry.{Entry}
use Rattle.vpc_laws.specs.Types.{AttNo, Attachment, Description, VpcNo}
use Rattle.vpc_model.specs.Lookup.{has_vpc, vpc_no}
use Rattle.reference_check.specs.FirstNumbers.{number_in}
use Rattle.number_tables.specs.Keys.{key_of}

-- a gateway by the number of its first attachment
abbrev pub gateway_no : Description → List ℕ → ℕ
gateway_no d id = position_or_len (λ a. bytes_eq a.gateway id) d.attachments

-- the numbers are those of the gateways
abbrev pub AreGateways : Description → List (List ℕ × ℕ) → Type 0
AreGateways d numbers = (id : List ℕ) → number_in numbers id ≡ position (λ a. bytes_eq a.gateway id) d.attachments

-- the numbers have 32 bits
abbrev pub AreShort : List (List ℕ × ℕ) → Type 0
AreShort numbers = (id : List ℕ) (k : ℕ) → number_in numbers id ≡ Some k → k < 2 ^ 32

-- an attachment by its gateway and its VPC, where that is described
abbrev pub attachment_entry : Description → ℕ → Attachment → List (Entry AttNo)
attachment_entry d k a =
    let v = vpc_no d a.vpc in
    if has_vpc d a.vpc then record { key = key_of (gateway_no d a.gateway) v.0; value = record { 0 = k } } ∷ [] else []

-- the attachments that are numbered from a number on
abbrev pub attachment_entries : Description → ℕ → List Attachment → List (Entry AttNo)
attachment_entries d k [] = []
attachment_entries d k (a ∷ rest) = attachment_entry d k a ++ attachment_entries d (k + 1) rest

-- the attachment that the two tables tell of a gateway and a VPC
abbrev pub attachment_in : List (List ℕ × ℕ) → List (Entry AttNo) → List ℕ → VpcNo → Option AttNo
attachment_in gateways attachments gateway v =
    option_and_then (λ g. value_at (key_of g v.0) attachments) (number_in gateways gateway)

-- the first attachment of a gateway to a VPC
abbrev pub attachment_to : Description → List ℕ → List ℕ → Option AttNo
attachment_to d gateway vpc =
    option_map (λ k. record { 0 = k }) (position (λ a. bytes_eq a.gateway gateway && bytes_eq a.vpc vpc) d.attachments)

-- the tables tell of each gateway and each VPC the first attachment of the one to the other
abbrev pub HasGatewaysOf : Description → List (List ℕ × ℕ) → List (Entry AttNo) → Type 0
HasGatewaysOf d gateways attachments =
    (gateway vpc : List ℕ) → has_vpc d vpc ≡ true
    → attachment_in gateways attachments gateway (vpc_no d vpc) ≡ attachment_to d gateway vpc
