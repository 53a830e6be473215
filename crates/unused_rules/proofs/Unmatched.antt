-- What a rule decides that matches neither a request by protocol and q, nor its reply: nothing.
use Rattle.std.proofs.Common.{◌≡◌, ◌∙◌, ◌-◌, ◌&&◌, [], Bool, List, None, Option, Some, ap, ap₂, false, refl, sym, subst, true, ℕ}
use Rattle.std.specs.List.{list_any, slice_get}
use Rattle.std.specs.Prelude.{option_map}
use Rattle.vpc_base.specs.Header.{reply_of}
use Rattle.vpc_base.specs.declared.headers.Dir.TheVariants as dirs
use Rattle.copied_rows.specs.Filters.{with_filters}
use Rattle.vpc_laws.proofs.Lemmas.{by_memory}
use Rattle.vpc_laws.proofs.Telling.{start-sound}
use Rattle.vpc_laws.specs.Types.{AclNo, AclRow, Description, Dir, End, Group, Header, Label, Permission, Place, RuleRef}
use Rattle.vpc_model.specs.Acls.{is_of_dir}
use Rattle.vpc_model.specs.Filter.{far_address, is_between, matches_proto}
use Rattle.prefix_text.specs.Block.{holds as holds_address}
use Rattle.vpc_model.specs.Terms.{Appliances, IsAccepted, Moment, Step, acl_at, appliances_of, group_at, is_end, is_sound, permissions_of, step_at, step_of}
use Rattle.vpc_base.proofs.Lemmas.{none-some, same_Some}
use Rattle.unused_rules.proofs.AclSteps.{JudgeTheSame, judges_the_same, same_by_acls}
use Rattle.unused_rules.proofs.Alike.{Alike, alike_set}
use Rattle.unused_rules.proofs.Allowing.{LosesUnmatched, and-later, loses_nothing, none_allowed, none_allows}
use Rattle.unused_rules.proofs.Chunking.{one_less}
use Rattle.unused_rules.proofs.NestedSteps.{IsSameStep, itself-step}
use Rattle.unused_rules.proofs.Ports.{HasPortsOf, goes_on_sound, has_its_own, has_through}
use Rattle.unused_rules.proofs.Removed.{any-removed, verdict-removed}
use Rattle.unused_rules.proofs.SameSteps.{LetPassTheSame, same-into, same-out}
use Rattle.unused_rules.proofs.SameWalks.{same_verdicts}
use Rattle.unused_rules.specs.Concerned.{filter_of, filter_of_permission, filter_of_row, matches_ports}
use Rattle.unused_rules.specs.Needed.{StaysTheSame}
use Rattle.unused_rules.specs.Without.{acls_without, groups_without, without, without_permission, without_row}
use Rattle.unused_rules.specs.declared.concerned.Filter.{Filter}
use Rattle.unused_rules.specs.declared.rules.RuleName.{RuleName}
use Rattle.unused_rules.specs.declared.rules.RuleName.TheVariants as rules
use Rattle.vpc_base.specs.declared.headers.Label.TheVariants as labels

-- ---- permissions

-- the item whose filter it is
found : {X : Type 0} (f : X → Filter) (o : Option X) (filter : Filter) → option_map f o ≡ Some filter → (x : X) × (o ≡ Some x) × (f x ≡ filter)
found f None filter is = absurd (none-some filter is)
found f (Some x) filter is = (x, refl, same_Some (f x) filter is)

module _ (h : Header) (g : Group) (number : ℕ) (p : Permission) (fails : matches_ports (filter_of_permission p) h ≡ false) where
  loses-inward : slice_get g.inward (number - 1) ≡ Some p → LosesUnmatched h g (without_permission dirs.Inward number g)
  loses-inward at = record { back = back }
    where
      back : (dir : Dir) (test : Permission → Bool) → ((r : Permission) → matches_ports (filter_of_permission r) h ≡ false → test r ≡ false)
          → list_any test (permissions_of dir (without_permission dirs.Inward number g)) ≡ false → list_any test (permissions_of dir g) ≡ false
      back dirs.Inward test unmatched none = sym (any-removed test g.inward (number - 1) p at (unmatched p fails)) ∙ none
      back dirs.Outward test unmatched none = none

  loses-outward : slice_get g.outward (number - 1) ≡ Some p → LosesUnmatched h g (without_permission dirs.Outward number g)
  loses-outward at = record { back = back }
    where
      back : (dir : Dir) (test : Permission → Bool) → ((r : Permission) → matches_ports (filter_of_permission r) h ≡ false → test r ≡ false)
          → list_any test (permissions_of dir (without_permission dirs.Outward number g)) ≡ false → list_any test (permissions_of dir g) ≡ false
      back dirs.Inward test unmatched none = none
      back dirs.Outward test unmatched none = sym (any-removed test g.outward (number - 1) p at (unmatched p fails)) ∙ none

loses : (h : Header) (g : Group) (dir : Dir) (number : ℕ) (p : Permission) → matches_ports (filter_of_permission p) h ≡ false
    → slice_get (permissions_of dir g) (number - 1) ≡ Some p → LosesUnmatched h g (without_permission dir number g)
loses h g dirs.Inward number p fails at = loses-inward h g number p fails at
loses h g dirs.Outward number p fails at = loses-outward h g number p fails at

same-by_groups : (d : Description) (groups : List Group) (appliances : Appliances) (label : Label) (m : Moment)
    → LetPassTheSame d (with_filters d d.acls groups) m.header → (p : Place)
    → IsSameStep (step_at (with_filters d d.acls groups) appliances label p m) (step_at d appliances label p m)
same-by_groups d groups appliances label m pass p =
    by_memory (λ q. IsSameStep (step_at (with_filters d d.acls groups) appliances label q m) (step_at d appliances label q m))
    (λ i. same-out d d.acls d.acls d.groups groups label i m pass)
    (λ i. same-into d d.acls d.acls d.groups groups appliances label i m pass)
    (λ n. itself-step _)
    (λ q rest. equal-steps _ _ (rest.groups d groups appliances label m)) p
  where
    equal-steps : (s t : Step) → s ≡ t → IsSameStep s t
    equal-steps s t same = record { next = ap (λ (x : Step). x.next) same; conns = ap (λ (x : Step). x.conns) same; nats = ap (λ (x : Step). x.nats) same }

permission-same : (d : Description) (r : RuleRef) (p : Permission) (appliances : Appliances) (label : Label) (m : Moment)
    → slice_get (permissions_of r.dir (group_at d r.group)) (r.number - 1) ≡ Some p → matches_ports (filter_of_permission p) m.header ≡ false
    → IsSameStep (step_of (without d (rules.Permission r)) appliances label m) (step_of d appliances label m)
permission-same d r p appliances label m at fails =
    let g = group_at d r.group in
    let less = groups_without d r in
    let lost : Alike (LosesUnmatched m.header) d.groups less =
    alike_set (LosesUnmatched m.header) (loses_nothing m.header) d.groups r.group.0 _ (without_permission r.dir r.number g)
    (loses m.header g r.dir r.number p fails at) in
    same-by_groups d less appliances label m (record {
      first = λ e dir none. none_allows d d.groups less (one_less d r) e dir m.header none;
      second = λ e dir none. none_allowed d d.groups less (one_less d r) m.header lost e dir none;
    }) m.place

-- ---- rows of ACLs

row-fails : (dir : Dir) (h : Header) (row : AclRow) → matches_ports (filter_of_row row) h ≡ false
    → (matches_proto row.proto h.proto && (is_between row.q_from row.q_to h.q && holds_address (far_address dir h) row.block)) ≡ false
row-fails dir h row fails = and-later (matches_proto row.proto h.proto) (is_between row.q_from row.q_to h.q) (holds_address (far_address dir h) row.block) fails

and-second : (a b : Bool) → b ≡ false → (a && b) ≡ false
and-second true b e = e
and-second false b e = refl

row-same : (d : Description) (a : AclNo) (k : ℕ) (row : AclRow) (appliances : Appliances) (label : Label) (m : Moment)
    → (let acl = acl_at d a in slice_get acl.rows k ≡ Some row) → matches_ports (filter_of_row row) m.header ≡ false
    → IsSameStep (step_of (without d (rules.AclRow a k)) appliances label m) (step_of d appliances label m)
row-same d a k row appliances label m at fails =
    let acl = acl_at d a in
    same_by_acls d (acls_without d a k) appliances label m.place m
    (alike_set (JudgeTheSame m.header) (judges_the_same m.header) d.acls a.0 _ (without_row k acl) (record {
      subnets = refl;
      verdict = λ dir. verdict-removed acl.rows k row dir m.header at (and-second (is_of_dir dir row) _ (row-fails dir m.header row fails));
    }))

-- ---- a rule

pub rule-same : (d : Description) (rule : RuleName) (f : Filter) (appliances : Appliances) (label : Label) (m : Moment) → filter_of d rule ≡ Some f
    → matches_ports f m.header ≡ false → IsSameStep (step_of (without d rule) appliances label m) (step_of d appliances label m)
rule-same d (rules.Permission r) f appliances label m is fails =
    let it = found filter_of_permission (slice_get (permissions_of r.dir (group_at d r.group)) (r.number - 1)) f is in
    permission-same d r it.0 appliances label m it.1 (subst (λ (x : Filter). matches_ports x m.header ≡ false) (sym it.2) fails)
rule-same d (rules.AclRow a k) f appliances label m is fails =
    let acl = acl_at d a in
    let it = found filter_of_row (slice_get acl.rows k) f is in
    row-same d a k it.0 appliances label m it.1 (subst (λ (x : Filter). matches_ports x m.header ≡ false) (sym it.2) fails)

matches-same : (f : Filter) (h k : Header) → HasPortsOf h k → matches_ports f h ≡ false → matches_ports f k ≡ false
matches-same f h k has fails =
    ap₂ (λ (proto q : ℕ). matches_proto f.proto proto && is_between f.from f.to q) has.proto has.q ∙ fails

-- a request of which it matches neither the header, nor that of its reply, has the same verdict without it
pub unmatched_decides_nothing : (d : Description) (rule : RuleName) (f : Filter) (start goal : End) (h : Header) → IsAccepted d → d.nats ≡ []
    → filter_of d rule ≡ Some f → is_end d start ≡ true → is_end d goal ≡ true → matches_ports f h ≡ false
    → ((k r : Header) → HasPortsOf h k → reply_of k ≡ Some r → matches_ports f r ≡ false) → StaysTheSame d rule start goal h
unmatched_decides_nothing d rule f start goal h accepted none is from there fails answers =
    same_verdicts d (without d rule) (appliances_of d) start goal h (λ p. is_sound d p ≡ true) (HasPortsOf h) (λ k. matches_ports f k ≡ false)
    (record {
      same = λ m at has. rule-same d rule f (appliances_of d) labels.Opening m is (matches-same f h m.header has fails);
      leads = λ m at has. goes_on_sound d (appliances_of d) labels.Opening (HasPortsOf h) accepted none m at (λ j kept. has_through h m.header j has kept);
    })
    (record {
      same = λ m at unmatched. rule-same d rule f (appliances_of d) labels.Answer m is unmatched;
      leads = λ m at unmatched. goes_on_sound d (appliances_of d) labels.Answer (λ k. matches_ports f k ≡ false) accepted none m at
          (λ j kept. matches-same f m.header j kept unmatched);
    })
    (start-sound d start from) (start-sound d goal there) (has_its_own h) answers
