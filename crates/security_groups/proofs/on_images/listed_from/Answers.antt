use Rattle.std.proofs.Common.{Bool, List, subst, ℕ}
use Rattle.std.specs.List.{list_any}
use Rattle.security_groups.specs.Dividing.{IsStretchOf}
use Rattle.security_groups.specs.Rules.{DivideRule, has_entry, has_member}
use Rattle.security_groups.proofs.AskingOn.{DivideEntries, DivideMembers}
use Rattle.security_groups.proofs.Stretching.{stretch-first, stretch-more, stretch-neither, stretch-second}
use Rattle.security_groups.proofs.on_images.listed_from.Goals as goal

pub returns-then-entry : goal.returns-then-entry
returns-then-entry c =
    let lists = c.args.lists.now in
    let members = c.args.members.now in
    let r = c.args.rule.now in
    let a = c.args.address in
    let x = c.any_entry_from-entry.result in
    let entries : ℕ → Bool = λ b. list_any (has_entry lists b) r.lists in
    let groups : ℕ → Bool = λ b. list_any (has_member members b) r.groups in
    stretch-first (DivideRule lists members r) entries groups a x c.if-entry.true
    (stretch-more (DivideEntries lists r.lists) (DivideRule lists members r) entries a x (λ cuts d. d.entries)
    (subst (λ (ns : List ℕ). IsStretchOf (DivideEntries lists ns) (λ b. list_any (has_entry lists b) ns) a x) c.as_slice.ensures c.any_entry_from-entry.ensures))

pub returns-then-member : goal.returns-then-member
returns-then-member c =
    let lists = c.args.lists.now in
    let members = c.args.members.now in
    let r = c.args.rule.now in
    let a = c.args.address in
    let x = c.any_member_from-member.result in
    let entries : ℕ → Bool = λ b. list_any (has_entry lists b) r.lists in
    let groups : ℕ → Bool = λ b. list_any (has_member members b) r.groups in
    stretch-second (DivideRule lists members r) entries groups a x c.if-member.true
    (stretch-more (DivideMembers members r.groups) (DivideRule lists members r) groups a x (λ cuts d. d.groups)
    (subst (λ (ns : List ℕ). IsStretchOf (DivideMembers members ns) (λ b. list_any (has_member members b) ns) a x) c.as_slice-2.ensures c.any_member_from-member.ensures))

pub returns : goal.returns
returns c =
    let lists = c.args.lists.now in
    let members = c.args.members.now in
    let r = c.args.rule.now in
    let a = c.args.address in
    let x = c.any_entry_from-entry.result in
    let y = c.any_member_from-member.result in
    let entries : ℕ → Bool = λ b. list_any (has_entry lists b) r.lists in
    let groups : ℕ → Bool = λ b. list_any (has_member members b) r.groups in
    stretch-neither (DivideRule lists members r) entries groups a c.min.result x y c.if-entry.false c.if-member.false c.min.ensures
    (stretch-more (DivideEntries lists r.lists) (DivideRule lists members r) entries a x (λ cuts d. d.entries)
    (subst (λ (ns : List ℕ). IsStretchOf (DivideEntries lists ns) (λ b. list_any (has_entry lists b) ns) a x) c.as_slice.ensures c.any_entry_from-entry.ensures))
    (stretch-more (DivideMembers members r.groups) (DivideRule lists members r) groups a y (λ cuts d. d.groups)
    (subst (λ (ns : List ℕ). IsStretchOf (DivideMembers members ns) (λ b. list_any (has_member members b) ns) a y) c.as_slice-2.ensures c.any_member_from-member.ensures))
