-- The tables of attachments.
use Rattle.std.specs.Prelude.{◌≡◌, List, Option, bytes_eq, position, ℕ}
use Rattle.reference_check.specs.FirstNumbers.{number_in}
use Rattle.vpc_laws.specs.Types.{Attachment, Description, Far, TgwTableNo}
use Rattle.vpc_model.specs.Far.{table_of_attachment_id}

-- the numbers are those of the associations, by their attachments
abbrev pub AreAssociated : Description → List (List ℕ × ℕ) → Type 0
AreAssociated d numbers = (id : List ℕ) → number_in numbers id ≡ position (λ x. bytes_eq x.attachment id) d.associations

-- the described table that a VPC attachment is associated with (EC2 API, DescribeTransitGatewayAttachments)
abbrev pub table_of_row : Description → Attachment → Option TgwTableNo
table_of_row d att = table_of_attachment_id d att.id

-- that of the attachment that leads to a network that isn't described
abbrev pub table_behind : Description → Far → Option TgwTableNo
table_behind d f = table_of_attachment_id d f.id
