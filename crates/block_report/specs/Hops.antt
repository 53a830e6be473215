-- How hops are printed: a numbered line for each place that a packet comes to.
use Rattle.std.specs.Prelude.{◌++◌, ◌∷◌, ◌+◌, ◌-◌, [], List, codes, decimal, slice_index_or, unwrap_or, ℕ}
use Rattle.vpc_laws.specs.Types.{By, Description, Dir, Header, Hop, Permission, Place, RuleRef}
use Rattle.vpc_model.specs.declared.outcomes.By.TheVariants as bys
use Rattle.vpc_base.specs.declared.headers.Dir.TheVariants as dirs
use Rattle.vpc_model.specs.declared.places.Place.TheVariants as places
use Rattle.vpc_model.specs.Groups.{no_permission, permissions_of}
use Rattle.vpc_model.specs.Lookup.{group_at}
use Rattle.vpc_model.specs.Told.{place_id}
use Rattle.block_report.specs.Words.{header_text, line_end, word}

-- the kind of a place
abbrev pub place_kind : Place → List ℕ
place_kind (places.OutOf i) = codes "out"
place_kind (places.Router s came) = codes "router"
place_kind (places.Enter v by) = codes "enter"
place_kind (places.Into i) = codes "in"
place_kind (places.IgwOut v) = codes "igw-out"
place_kind places.Internet = codes "internet"
place_kind (places.IgwIn v) = codes "igw-in"
place_kind (places.NatOut n) = codes "nat-out"
place_kind (places.NatIn n) = codes "nat-in"
place_kind (places.Peer x v) = codes "peer"
place_kind (places.Tgw a s) = codes "tgw"
place_kind (places.TgwLeave a s) = codes "tgw-leave"
place_kind (places.FarOut k) = codes "far-out"
place_kind (places.FarIn k) = codes "far-in"
place_kind (places.Inspect e) = codes "inspect"

-- the direction of a rule
abbrev pub dir_text : Dir → List ℕ
dir_text dirs.Inward = codes "in"
dir_text dirs.Outward = codes "out"

-- the rule that is told by a number, from 1
abbrev pub rule_at : Description → RuleRef → Permission
rule_at d r = let g = group_at d r.group in slice_index_or (permissions_of r.dir g) (r.number - 1) no_permission

-- the id of a rule that was told with one, else its number
abbrev pub rule_name : Description → RuleRef → List ℕ
rule_name d r = let p = rule_at d r in unwrap_or p.id (decimal r.number)

-- by a rule of a group, which the rule's name follows
abbrev pub by_group : List ℕ → Dir → List ℕ
by_group id dir = codes " by" ++ word id ++ word (dir_text dir)

-- by what the packet passed groups, if it did
abbrev pub by_text : Description → By → List ℕ
by_text d bys.Nothing = []
by_text d bys.NoGroups = codes " by none"
by_text d bys.Tracked = codes " by tracked"
by_text d (bys.Rule r) = let g = group_at d r.group in by_group g.id r.dir ++ word (rule_name d r)

-- what each hop's line has before what the packet passed: its number, from 1, the kind and id of the place, and the header
abbrev pub place_line : ℕ → List ℕ → List ℕ → Header → List ℕ
place_line n kind id h = codes "hop" ++ word (decimal n) ++ word kind ++ word id ++ word (header_text h)

-- the place of the hop with this number, and the header there
abbrev pub hop_place : Description → ℕ → Hop → List ℕ
hop_place d n h = place_line n (place_kind h.place) (place_id d h.place) h.header

-- the line of the hop with this number
abbrev pub hop_line : Description → ℕ → Hop → List ℕ
hop_line d n h = hop_place d n h ++ by_text d h.by ++ line_end

-- the lines of hops, from a number on
abbrev pub hop_lines_from : Description → ℕ → List Hop → List ℕ
hop_lines_from d n [] = []
hop_lines_from d n (h ∷ hs) = hop_line d n h ++ hop_lines_from d (n + 1) hs

-- the lines of all hops
abbrev pub hop_lines : Description → List Hop → List ℕ
hop_lines d hops = hop_lines_from d 1 hops
