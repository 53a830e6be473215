-- For which requests of a query a rule may decide anything: those that it may match, and those whose replies it may.
use Rattle.std.specs.Prelude.{◌&&◌, ◌==◌, ◌-◌, ◌≡◌, Bool, IfSome, None, Option, Some, cond, false, option_map, slice_get, true, ℕ}
use Rattle.header_boxes.specs.Boxes.{IsWithin, holds, low_of}
use Rattle.header_boxes.specs.Rows.{IsFirst}
use Rattle.query_words.specs.declared.queries.Query.{Query}
use Rattle.vpc_base.specs.Header.{order_of}
use Rattle.std.specs.declared.cmp.Ordering.{Ordering}
use Rattle.std.specs.declared.cmp.Ordering.TheVariants as orderings
use Rattle.vpc_laws.specs.Types.{AclRow, Box5, Description, Header, Permission}
use Rattle.vpc_model.specs.Filter.{is_between, matches_proto}
use Rattle.vpc_model.specs.Groups.{permissions_of}
use Rattle.vpc_model.specs.Lookup.{acl_at, group_at}
use Rattle.unused_rules.specs.Needed.{StaysTheSame}
use Rattle.unused_rules.specs.declared.concerned.Concerned.{Concerned}
use Rattle.unused_rules.specs.declared.concerned.Filter.{Filter}
use Rattle.unused_rules.specs.declared.rules.RuleName.{RuleName}
use Rattle.unused_rules.specs.declared.rules.RuleName.TheVariants as rules

-- ---- what a rule matches by protocol and q

abbrev pub filter_of_permission : Permission → Filter
filter_of_permission p = record { proto = p.proto; from = p.q_from; to = p.q_to }

abbrev pub filter_of_row : AclRow → Filter
filter_of_row r = record { proto = r.proto; from = r.q_from; to = r.q_to }

-- that of a rule, if there is one by the name
abbrev pub filter_of : Description → RuleName → Option Filter
filter_of d (rules.Permission r) = option_map filter_of_permission (slice_get (permissions_of r.dir (group_at d r.group)) (r.number - 1))
filter_of d (rules.AclRow a k) = let acl = acl_at d a in option_map filter_of_row (slice_get acl.rows k)

abbrev pub matches_ports : Filter → Header → Bool
matches_ports f h = matches_proto f.proto h.proto && is_between f.from f.to h.q

-- ---- requests of some sides

-- one protocol, or those of a side
abbrev pub proto_side : Option ℕ → ℕ × ℕ → ℕ × ℕ
proto_side None side = side
proto_side (Some n) side = (n, n)

-- those that it may match
abbrev pub asked_box : Box5 → Filter → Box5
asked_box b f = record { proto = proto_side f.proto b.proto; src = b.src; dst = b.dst; p = b.p; q = (f.from, f.to) }

-- those whose replies it may match: their q is the request's p, but for an echo reply, whose q is 0
abbrev pub answered_box : Box5 → Filter → Box5
answered_box b f = record { proto = proto_side f.proto b.proto; src = b.src; dst = b.dst; p = cond (f.from == 0) b.p (f.from, f.to); q = b.q }

-- ---- parts of a query

-- the header is in the part, if there is one
abbrev pub is_in_part : Option Box5 → Header → Bool
is_in_part None h = false
is_in_part (Some b) h = holds h b

-- parts of the query outside which the rule decides nothing
pub record DecidesWithin (d : Description) (rule : RuleName) (query : Query) (parts : Concerned) : Type 0 where
  pub asked : IfSome parts.asked (λ b. IsWithin b query.sides)
  pub answered : IfSome parts.answered (λ b. IsWithin b query.sides)
  pub outside : (h : Header) → holds h query.sides ≡ true → is_in_part parts.asked h ≡ false → is_in_part parts.answered h ≡ false
      → StaysTheSame d rule query.start query.goal h

-- ---- the first of two

abbrev pub first_by : Ordering → Header → Header → Header
first_by orderings.Less h k = k
first_by orderings.Equal h k = h
first_by orderings.Greater h k = h

abbrev pub first_of : Option Header → Option Header → Option Header
first_of None other = other
first_of (Some h) None = Some h
first_of (Some h) (Some k) = Some (first_by (order_of k h) h k)

-- a part that begins before a header, if one was found
abbrev pub kept_by : Ordering → Box5 → Option Box5
kept_by orderings.Less b = Some b
kept_by orderings.Equal b = None
kept_by orderings.Greater b = None

abbrev pub part_before : Option Box5 → Option Header → Option Box5
part_before None found = None
part_before (Some b) None = Some b
part_before (Some b) (Some h) = kept_by (order_of (low_of b) h) b

-- the first header of the part that gets through; none where there is no part
abbrev pub IsFirstIn : {W : Type 0} → (Header → Option W) → Option Box5 → Option Header → Type 0
IsFirstIn meaning None found = found ≡ None
IsFirstIn meaning (Some b) found = IsFirst meaning b found

-- the first of those that each part has first; the second part isn't asked where it begins after what the first one has
pub record IsFirstOf {W : Type 0} (meaning : Header → Option W) (parts : Concerned) (found : Option Header) : Type 0 where
  pub asked : Option Header
  pub answered : Option Header
  pub is_asked : IsFirstIn meaning parts.asked asked
  pub is_answered : IsFirstIn meaning (part_before parts.answered asked) answered
  pub found_is : found ≡ first_of asked answered
