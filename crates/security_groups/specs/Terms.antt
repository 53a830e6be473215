-- The definitions that longer pages take, from one place.
pub use Rattle.security_groups.specs.Alike.{BothGroups, GroupsLetInSame}
pub use Rattle.security_groups.specs.Asking.{first_in_group, first_of, least, lesser, no_rules, rules_of}
pub use Rattle.security_groups.specs.Dividing.{AllowsNone, DivideAt, DivideGroups, HasRuleCuts, IsAllowedOn, IsLeftWith, IsStretchOf, any_group_allows, rule_at, rules_in}
pub use Rattle.security_groups.specs.Index.{GroupLists, HasRulesOf, allowed}
pub use Rattle.security_groups.specs.Joined.{AreAlike, IsJoint, SayTheSame}
pub use Rattle.security_groups.specs.Lists.{HasEntriesOf}
pub use Rattle.security_groups.specs.Members.{AreDelegated, AreFit, AreMore, HasBlocksOf, HasGroupsOf, HasMembersOf, MemberSets, all_members, groups_with, holds_for, key_with, keys_with, number_of}
pub use Rattle.security_groups.specs.Once.{once}
pub use Rattle.security_groups.specs.Ids.{HasIds, KeepsNumbers, is_number, place_of}
pub use Rattle.security_groups.specs.Naming.{ArePeers, AreAttached, HasOwn, HasPlace, HasVpcsOf, IsNaming, IsVpcNumber, TellsOfGroup, TellsOfVpcs, further_of, over_transit}
pub use Rattle.security_groups.specs.Sharing.{AnyShares, Shares, has_pair}
pub use Rattle.security_groups.specs.Sets.{AreSetKeys, AreSetsFor, IsFurther, IsSetFor, IsSetKey, IsSetNumber, KeepsSets}
pub use Rattle.security_groups.specs.Resolved.{AreAsked, AreRulesOf, AreSets, HasListsOf, HasRulesFor, HasRulesIn, IsResolved, IsRuleOf, IsSetOf, counted, list_no}
pub use Rattle.security_groups.specs.Rules.{DivideMember, DivideRule, DivideRules, allows, any_allows, has_block, has_entry, has_key, has_member, names}
pub use Rattle.security_groups.specs.Tables.{AreBegun, AreEnded, AreLasts, BeginAfter, EndBy, run_of}
pub use Rattle.security_groups.specs.declared.groups.GroupRules.{GroupRules}
pub use Rattle.security_groups.specs.declared.rules.Rule.{Rule}
