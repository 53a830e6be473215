-- What is told of a stop is on one line.
use Rattle.std.proofs.Common.{All, Bool, IfSome, List, None, Option, Some, [], arith, codes, decimal, false, if◌then◌else◌, length, length-append, nat_lt, ne_eqb, refl, slice_index_or, suc, true, unwrap_or, zero, ℕ, ◌%◌, ◌++◌, ◌+◌, ◌/◌, ◌==◌, ◌∷◌, ◌≡◌, ◌≤◌}
use Rattle.std.specs.Fmt.{digit_glyph, digits, digits_onto}
use Rattle.std.proofs.lemmas.List.Elements.{All-append, All-cons, All-head, All-nil, All-tail}
use Rattle.block_report.specs.Terms.{phase_text, stop_text, word}
use Rattle.listing_reader.specs.ReadsBack.{IsOneLine}
use Rattle.prefix_text.specs.Terms.{Block, addr_text, block_text}
use Rattle.vpc_laws.specs.Types.{Access, Acl, AclNo, AttNo, Attachment, Component, Description, End, EniNo, FarNo, FirewallEndpoint, FirewallNo, Foreign, IgwNo, InternetGateway, NatGateway, NatNo, PeerNo, Peering, Subnet, SubnetNo, Vpc, Phase, Place, Reach, Route, RouteTable, Stop, StopRule, TableNo, TgwRoute, TgwTable, TgwTableNo, VpcNo}
use Rattle.vpc_model.specs.Terms.{access_of, access_text, acl_at, attachment_at, component_id, component_of, end_id, foreign_id, igw_at, interface_at, is_id, name_of, name_text, nat_at, no_route, no_tgw_route, peering_at, place_id, reach_text, route_target_id, rule_of, rule_text, stop_id, stop_rule, subnet_at, table_at, target_id, tgw_route_attachment, tgw_table_at, vpc_at}
use Rattle.vpc_model.specs.Lookup.{far_at, firewall_at}
use Rattle.vpc_model.specs.declared.outcomes.Phase.TheVariants as phases
use Rattle.vpc_model.specs.declared.places.Place.TheVariants as places
use Rattle.vpc_model.specs.declared.rows.Access.TheVariants as modes
use Rattle.vpc_model.specs.declared.rows.Reach.TheVariants as reaches
use Rattle.vpc_model.specs.declared.stops.Foreign.TheVariants as foreign
use Rattle.vpc_model.specs.declared.stops.Component.TheVariants as at
use Rattle.vpc_model.specs.declared.stops.StopRule.TheVariants as rules
use Rattle.vpc_model.proofs.Names.{visible_name}
use Rattle.listing_laws.proofs.ShortWords.{IsShortWord, IsShortWord-id}
use Rattle.listing_laws.specs.Typed.{HasListId, HasTypedRows, IsTypedRoute, IsTypedTable, IsTypedTgwRoute, IsTypedTgwTable}
use Rattle.listing_laws.proofs.Typing.{IsShortWord-end_id, IsShortWord-far, known}

-- ---- texts

-- on one line, with so many bytes at most
pub record IsShortLine (most : ℕ) (text : List ℕ) : Type 0 where
  pub line : IsOneLine text
  pub short : length text ≤ most

pub line_word : (m n k : ℕ) (before own : List ℕ) → IsShortLine m before → IsShortLine n own → m + (n + 1) ≤ k
    → IsShortLine k (before ++ word own)
line_word m n k before own first second fits =
    let apart = λ (c : ℕ). (c == 10) ≡ false in
    let size = length-append before (word own) in
    let a = first.short in
    let b = second.short in
    record {
      line = All-append apart before (word own) first.line (All-cons apart 32 own refl second.line);
      short = omega (arith, size, a, b, fits);
    }

-- an id, a number or a block
abbrev pub IsPiece : List ℕ → Type 0
IsPiece text = IsShortLine 400 text

no_piece : IsPiece []
no_piece = record { line = All-nil (λ c. (c == 10) ≡ false); short = omega arith }

pub word_piece : (w : List ℕ) → IsShortWord w → IsPiece w
word_piece w h = let short = h.short in record { line = h.no_newline; short = omega (arith, short) }

pub id_piece : (w : List ℕ) → is_id w ≡ true → IsPiece w
id_piece w id = word_piece w (IsShortWord-id w id)

-- ---- numbers

glyph_apart : (n : ℕ) → (digit_glyph false n == 10) ≡ false
glyph_apart n = by (nat_lt n 10)
  where
    by : (b : Bool) → ((if b then 48 + n else (if false then 55 + n else 87 + n)) == 10) ≡ false
    by true = ne_eqb (48 + n) 10 (λ same. omega (arith, same))
    by false = ne_eqb (87 + n) 10 (λ same. omega (arith, same))

either_line : (b : Bool) (most : ℕ) (first second : List ℕ) → IsShortLine most first → IsShortLine most second
    → IsShortLine most (if b then first else second)
either_line true most first second one two = one
either_line false most first second one two = two

-- digits before others
onto_line : (k n most : ℕ) (acc : List ℕ) → IsOneLine acc → k + length acc ≡ most → IsShortLine most (digits_onto k 10 false n acc)
onto_line zero n most acc line size = record { line = line; short = omega (arith, size) }
onto_line (suc k) n most acc line size =
    let digit = digit_glyph false (n % 10) in
    let more = All-cons (λ c. (c == 10) ≡ false) (digit_glyph false (n % 10)) acc (glyph_apart (n % 10)) line in
    either_line (n / 10 == 0) most (digit ∷ acc) (digits_onto k 10 false (n / 10) (digit ∷ acc))
    (record { line = more; short = omega (arith, size) }) (onto_line k (n / 10) most (digit ∷ acc) more (omega (arith, size)))

decimal_line : (n : ℕ) → IsShortLine 64 (decimal n)
unfolding digits
decimal_line n = onto_line 64 n 64 [] (All-nil (λ c. (c == 10) ≡ false)) refl

decimal_piece : (n : ℕ) → IsPiece (decimal n)
decimal_piece n = let h = decimal_line n in let short = h.short in record { line = h.line; short = omega (arith, short) }

both_lines : (m n k : ℕ) (a b : List ℕ) → IsShortLine m a → IsShortLine n b → m + n ≤ k → IsShortLine k (a ++ b)
both_lines m n k a b first second fits =
    let size = length-append a b in
    let x = first.short in
    let y = second.short in
    record { line = All-append (λ c. (c == 10) ≡ false) a b first.line second.line; short = omega (arith, size, x, y, fits) }

mark_line : (w : List ℕ) → is_id w ≡ true → length w ≤ 1 → IsShortLine 1 w
mark_line w id one = let word = IsShortWord-id w id in record { line = word.no_newline; short = one }

-- a number after others and a mark
number_more : (m k : ℕ) (before mark : List ℕ) (n : ℕ) → IsShortLine m before → is_id mark ≡ true → length mark ≤ 1 → m + 65 ≤ k
    → IsShortLine k ((before ++ mark) ++ decimal n)
number_more m k before mark n first id one fits =
    both_lines (m + 1) 64 k (before ++ mark) (decimal n) (both_lines m 1 (m + 1) before mark first (mark_line mark id one) (omega arith))
    (decimal_line n) (omega (arith, fits))

addr_line : (a : ℕ) → IsShortLine 259 (addr_text a)
addr_line a =
    number_more 194 259 _ (codes ".") _
    (number_more 129 194 _ (codes ".") _ (number_more 64 129 _ (codes ".") _ (decimal_line _) refl (omega arith) (omega arith)) refl
    (omega arith) (omega arith)) refl (omega arith) (omega arith)

block_piece : (b : Block) → IsPiece (block_text b)
block_piece b = number_more 259 400 (addr_text b.first) (codes "/") b.length (addr_line b.first) refl (omega arith) (omega arith)

-- ---- rows

at_or : {X : Type 0} (P Q : X → Type 0) (xs : List X) (k : ℕ) (other : X) → ((x : X) → P x → Q x) → All P xs → Q other
    → Q (slice_index_or xs k other)
at_or P Q [] k other leads all last = last
at_or P Q (x ∷ xs) zero other leads all last = leads x (All-head P x xs all)
at_or P Q (x ∷ xs) (suc k) other leads all last = at_or P Q xs k other leads (All-tail P x xs all) last

id_at : {X : Type 0} (id : X → List ℕ) (xs : List X) (k : ℕ) (other : X) → All (λ x. is_id (id x) ≡ true) xs → IsPiece (id other)
    → IsPiece (id (slice_index_or xs k other))
id_at id xs k other all last = at_or (λ x. is_id (id x) ≡ true) (λ x. IsPiece (id x)) xs k other (λ x is. id_piece (id x) is) all last

record HasRouteLines (r : Route) : Type 0 where
  reach : IsPiece (reach_text r.reach)
  target : IsPiece (target_id r.target)

reach_line : (r : Reach) → HasListId r → IsPiece (reach_text r)
reach_line (reaches.Block b) typed = block_piece b
reach_line (reaches.List id) typed = id_piece id typed

route_lines : (r : Route) → IsTypedRoute r → HasRouteLines r
route_lines r typed = record { reach = reach_line r.reach typed.reach; target = id_piece (target_id r.target) typed.target }

no_route_lines : HasRouteLines no_route
no_route_lines = record { reach = no_piece; target = id_piece (codes "local") refl }

-- the id of a table, and a route of it
record HasTableLines (t : RouteTable) : Type 0 where
  id : IsPiece t.id
  routes : (k : ℕ) → HasRouteLines (slice_index_or t.routes k no_route)

table_lines : (d : Description) (t : TableNo) → HasTypedRows d → HasTableLines (table_at d t)
table_lines d t typed =
    at_or IsTypedTable HasTableLines d.tables t.0 _
    (λ x is. record {
      id = id_piece x.id is.id;
      routes = λ k. at_or IsTypedRoute HasRouteLines x.routes k no_route route_lines is.routes no_route_lines;
    })
    typed.tables (record { id = no_piece; routes = λ k. no_route_lines })

given_line : (o : Option (List ℕ)) → IfSome o (λ id. is_id id ≡ true) → IsPiece (unwrap_or o [])
given_line None typed = no_piece
given_line (Some id) typed = id_piece id typed

abbrev HasFarLine : TgwRoute → Type 0
HasFarLine r = IsPiece (unwrap_or r.attachment [])

record HasTgwLines (t : TgwTable) : Type 0 where
  id : IsPiece t.id
  routes : (k : ℕ) → HasFarLine (slice_index_or t.routes k no_tgw_route)

tgw_lines : (d : Description) (t : TgwTableNo) → HasTypedRows d → HasTgwLines (tgw_table_at d t)
tgw_lines d t typed =
    at_or IsTypedTgwTable HasTgwLines d.tgw_tables t.0 _
    (λ x is. record {
      id = id_piece x.id is.id;
      routes = λ k. at_or IsTypedTgwRoute HasFarLine x.routes k no_tgw_route
          (λ r far. given_line r.attachment far) is.routes no_piece;
    })
    typed.tgw_tables (record { id = no_piece; routes = λ k. no_piece })

-- ---- components

module _ (d : Description) (typed : HasTypedRows d) where
  vpc_line : (v : VpcNo) → (let row = vpc_at d v in IsPiece row.id)
  vpc_line v = id_at (λ (x : Vpc). x.id) d.vpcs v.0 _ typed.vpcs no_piece

  subnet_line : (s : SubnetNo) → (let row = subnet_at d s in IsPiece row.id)
  subnet_line s = id_at (λ (x : Subnet). x.id) d.subnets s.0 _ typed.subnets no_piece

  interface_line : (i : EniNo) → (let e = interface_at d i in IsPiece e.id)
  interface_line i = let k = known d i typed.interfaces in word_piece _ k.id

  acl_line : (a : AclNo) → (let row = acl_at d a in IsPiece row.id)
  acl_line a = id_at (λ (x : Acl). x.id) d.acls a.0 _ typed.acls no_piece

  igw_line : (g : IgwNo) → (let row = igw_at d g in IsPiece row.id)
  igw_line g = id_at (λ (x : InternetGateway). x.id) d.igws g.0 _ typed.igws no_piece

  nat_line : (n : NatNo) → (let row = nat_at d n in IsPiece row.id)
  nat_line n = id_at (λ (x : NatGateway). x.id) d.nats n.0 _ typed.nats no_piece

  peering_line : (x : PeerNo) → (let row = peering_at d x in IsPiece row.id)
  peering_line x = id_at (λ (p : Peering). p.id) d.peerings x.0 _ typed.peerings no_piece

  attachment_line : (a : AttNo) → (let row = attachment_at d a in IsPiece row.id)
  attachment_line a = id_at (λ (x : Attachment). x.id) d.attachments a.0 _ typed.attachments no_piece

  table_line : (t : TableNo) → (let row = table_at d t in IsPiece row.id)
  table_line t = let lines = table_lines d t typed in lines.id

  tgw_table_line : (t : TgwTableNo) → (let row = tgw_table_at d t in IsPiece row.id)
  tgw_table_line t = let lines = tgw_lines d t typed in lines.id

  target_line : (t : TableNo) (k : ℕ) → IsPiece (route_target_id d t k)
  target_line t k = let lines = table_lines d t typed in let route = lines.routes k in route.target

  named_line : (t : TgwTableNo) (k : ℕ) → IsPiece (tgw_route_attachment d t k)
  named_line t k = let lines = tgw_lines d t typed in lines.routes k

  far_line : (k : FarNo) → (let row = far_at d k in IsPiece row.id)
  far_line k = word_piece _ (IsShortWord-far d k typed.fars)

  firewall_line : (e : FirewallNo) → (let row = firewall_at d e in IsPiece row.id)
  firewall_line e = id_at (λ (x : FirewallEndpoint). x.id) d.firewalls e.0 _ typed.firewalls no_piece

  pub end_line : (e : End) → IsPiece (end_id d e)
  end_line e = word_piece _ (IsShortWord-end_id d e typed.interfaces typed.fars)

  place_line : (p : Place) → IsPiece (place_id d p)
  place_line (places.OutOf i) = interface_line i
  place_line (places.Router s came) = subnet_line s
  place_line (places.Enter v by) = vpc_line v
  place_line (places.Into i) = interface_line i
  place_line (places.IgwOut v) = igw_line _
  place_line places.Internet = id_piece (codes "internet") refl
  place_line (places.IgwIn v) = igw_line _
  place_line (places.NatOut n) = nat_line n
  place_line (places.NatIn n) = nat_line n
  place_line (places.Peer x v) = peering_line x
  place_line (places.Tgw a s) = attachment_line a
  place_line (places.TgwLeave a s) = attachment_line a
  place_line (places.FarOut k) = far_line k
  place_line (places.FarIn k) = far_line k
  place_line (places.Inspect e) = firewall_line e

  foreign_line : (f : Foreign) → IsPiece (foreign_id d f)
  foreign_line (foreign.Target t k) = target_line t k
  foreign_line (foreign.Nat n) = nat_line n
  foreign_line (foreign.Peering x) = peering_line x
  foreign_line (foreign.Attachment a) = attachment_line a
  foreign_line (foreign.Table t) = tgw_table_line t
  foreign_line (foreign.FarAttachment t k) = named_line t k

  component_line : (c : Component) → IsPiece (component_id d c)
  component_line (at.Interface i) = interface_line i
  component_line (at.Table t) = table_line t
  component_line (at.Target t k) = target_line t k
  component_line (at.Acl a) = acl_line a
  component_line (at.Vpc v) = vpc_line v
  component_line (at.Subnet s) = subnet_line s
  component_line (at.InternetGateway g) = igw_line g
  component_line (at.NatGateway n) = nat_line n
  component_line (at.Peering x) = peering_line x
  component_line (at.Attachment a) = attachment_line a
  component_line (at.TransitTable t) = tgw_table_line t
  component_line (at.Foreign f) = foreign_line f
  component_line (at.Place p) = place_line p
  component_line (at.End e) = end_line e

  access_piece : (a : Access) → IsPiece (access_text a)
  access_piece modes.Off = id_piece (codes "off") refl
  access_piece modes.BlockIngress = id_piece (codes "block-ingress") refl
  access_piece modes.BlockBidirectional = id_piece (codes "block-bidirectional") refl

  rule_line : (r : StopRule) → IsPiece (rule_text d r)
  rule_line rules.None = id_piece (codes "-") refl
  rule_line (rules.AclRow n) = decimal_piece n
  rule_line (rules.Route t k) = let lines = table_lines d t typed in let route = lines.routes k in route.reach
  rule_line (rules.TransitRoute t k) = block_piece _
  rule_line (rules.Access s) = access_piece (access_of d s)

  -- ---- stops

  pub stop_line : (s : Stop) → IsShortLine 1202 (stop_text d s)
  stop_line s =
      let name = name_text (name_of s) in
      line_word 801 400 1202 (name ++ word (stop_id d s)) (stop_rule d s)
      (line_word 400 400 801 name (stop_id d s) (id_piece name (visible_name (name_of s))) (component_line (component_of s)) (omega arith)) (rule_line (rule_of s))
      (omega arith)

pub phase_line : (p : Phase) → IsPiece (phase_text p)
phase_line phases.Request = id_piece (codes "request") refl
phase_line phases.Reply = id_piece (codes "reply") refl
