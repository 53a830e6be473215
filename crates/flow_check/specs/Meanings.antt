-- When lines agree, in a sentence each.
use Rattle.std.specs.Prelude.{◌≡◌, ◌⊎◌, ◌↔◌, Bool, None, is_some, true}
use Rattle.vpc_laws.specs.Types.{Description, Dir, EniNo, Header}
use Rattle.flow_check.specs.Rules.{border_stop, groups_pass, other_way_passes}
use Rattle.flow_check.specs.Sorts.{judged_at}
use Rattle.flow_check.specs.declared.records.Action.TheVariants as actions
use Rattle.flow_check.specs.declared.sorts.Sort.TheVariants as sorts

-- ACCEPT agrees where the ACL lets the packet pass, and the groups let it pass or its reply the other way
abbrev pub AcceptMeans : Type 0
AcceptMeans =
    (d : Description) (i : EniNo) (dir : Dir) (h : Header) (inside : Bool)
    → (judged_at d i dir h actions.Accept inside ≡ sorts.Agrees)
    ↔ ((border_stop d i dir h inside ≡ None) × ((is_some (groups_pass d i dir h) ≡ true) ⊎ (other_way_passes d i dir h ≡ true)))

-- REJECT agrees where not both the ACL and the groups let it pass
abbrev pub RejectMeans : Type 0
RejectMeans =
    (d : Description) (i : EniNo) (dir : Dir) (h : Header) (inside : Bool)
    → (judged_at d i dir h actions.Reject inside ≡ sorts.Agrees)
    ↔ ¬ ((border_stop d i dir h inside ≡ None) × (is_some (groups_pass d i dir h) ≡ true))
