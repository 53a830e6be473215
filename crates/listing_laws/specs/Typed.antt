-- What the types of rows alone know of a description: ids are visible, and addresses have 32 bits.
use Rattle.std.specs.List.{flat_map}
use Rattle.std.specs.Prelude.{◌≡◌, ◌<◌, ◌^◌, All, IfSome, true}
use Rattle.prefix_text.specs.Block.{last_of}
use Rattle.vpc_laws.specs.Types.{Description, Interface, Reach, Route, RouteTable, TgwRoute, TgwTable}
use Rattle.vpc_model.specs.Id.{is_id}
use Rattle.vpc_model.specs.Lookup.{both_addresses}
use Rattle.vpc_model.specs.Told.{target_id}
use Rattle.vpc_model.specs.declared.rows.Reach.TheVariants as reaches

-- ---- interfaces

pub record IsTyped (e : Interface) : Type 0 where
  pub id : is_id e.id ≡ true
  pub primary : IfSome e.primary (λ a. a < 2 ^ 32)
  pub addresses : All (λ a. a < 2 ^ 32) (flat_map both_addresses e.addresses)
  pub prefixes : All (λ b. last_of b < 2 ^ 32) e.prefixes

abbrev pub HasTypedInterfaces : Description → Type 0
HasTypedInterfaces d = All IsTyped d.interfaces

-- ---- networks that aren't described

abbrev pub HasTypedFars : Description → Type 0
HasTypedFars d = All (λ f. is_id f.id ≡ true) d.fars

-- ---- routes

-- the id of a prefix list
abbrev pub HasListId : Reach → Type 0
HasListId (reaches.Block b) = Unit {0}
HasListId (reaches.List id) = is_id id ≡ true

pub record IsTypedRoute (r : Route) : Type 0 where
  pub reach : HasListId r.reach
  pub target : is_id (target_id r.target) ≡ true

pub record IsTypedTable (t : RouteTable) : Type 0 where
  pub id : is_id t.id ≡ true
  pub routes : All IsTypedRoute t.routes

abbrev pub IsTypedTgwRoute : TgwRoute → Type 0
IsTypedTgwRoute r = IfSome r.attachment (λ id. is_id id ≡ true)

pub record IsTypedTgwTable (t : TgwTable) : Type 0 where
  pub id : is_id t.id ≡ true
  pub routes : All IsTypedTgwRoute t.routes

-- ---- all rows that a stop can name

pub record HasTypedRows (d : Description) : Type 0 where
  pub vpcs : All (λ v. is_id v.id ≡ true) d.vpcs
  pub subnets : All (λ s. is_id s.id ≡ true) d.subnets
  pub interfaces : HasTypedInterfaces d
  pub tables : All IsTypedTable d.tables
  pub acls : All (λ a. is_id a.id ≡ true) d.acls
  pub igws : All (λ g. is_id g.id ≡ true) d.igws
  pub nats : All (λ n. is_id n.id ≡ true) d.nats
  pub peerings : All (λ x. is_id x.id ≡ true) d.peerings
  pub attachments : All (λ a. is_id a.id ≡ true) d.attachments
  pub tgw_tables : All IsTypedTgwTable d.tgw_tables
  pub fars : HasTypedFars d
  pub firewalls : All (λ e. is_id e.id ≡ true) d.firewalls
