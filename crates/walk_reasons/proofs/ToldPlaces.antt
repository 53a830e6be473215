-- What is told at places, by what look-ups say.
use Rattle.std.proofs.Common.{◌≡◌, ◌++◌, ◌∙◌, ◌∷◌, [], Bool, List, None, Option, Some, ap, append-nil, cond, false, sym, true, ℕ}
use Rattle.fabric.specs.Indexes.{IsAclIndex}
use Rattle.network_acls.specs.Tried.{TriedRows, rows_tried}
use Rattle.vpc_base.specs.declared.headers.Dir.TheVariants.{Inward, Outward}
use Rattle.vpc_laws.specs.Types.{AclNo, Description, Dir, EnterBy, Header, SubnetNo, TableNo, VpcNo}
use Rattle.vpc_model.specs.Terms.{acl_at, acl_of, acl_verdict, chosen_route, table_at, table_of}
use Rattle.vpc_model.specs.Firewalls.{entrance_table}
use Rattle.vpc_model.specs.Connections.{same_header}
use Rattle.walk_reasons.specs.Decisions.{at_entry, at_router, at_table, becomes, by_entrance, by_route, judged, judged_in, judged_out, judgement, verdict_at}
use Rattle.walk_reasons.specs.Reasons.{acl_words, decision_line, decision_lines, rewritten}
use Rattle.walk_reasons.specs.declared.borders.Borders.{Borders}

-- ---- ACLs

module _ (d n : Description) (s : SubnetNo) (a : AclNo) (dir : Dir) (h : Header) (verdict : Bool × ℕ) (x : TriedRows)
    (same : n ≡ d) (is : a ≡ acl_of n s) (index : IsAclIndex (acl_at d a) x) (told : verdict ≡ acl_verdict (rows_tried dir x) dir h) where
  own-acl : a ≡ acl_of d s
  own-acl = is ∙ ap (λ (m : Description). acl_of m s) same

  -- the verdict of the index is that of the subnet's ACL
  pub verdict-is : verdict ≡ verdict_at d dir h s
  verdict-is = told ∙ index.verdicts dir h ∙ ap (λ (b : AclNo). acl_verdict (acl_at d b).rows dir h) own-acl

  -- and so its line
  pub judgement-line : (id : List ℕ) → id ≡ (acl_at n a).id → acl_words id dir verdict ≡ decision_line d (judgement d dir h s)
  judgement-line id own =
      ap (λ (v : Bool × ℕ). acl_words id dir v) verdict-is
      ∙ ap (λ (i : List ℕ). acl_words i dir (verdict_at d dir h s)) (own ∙ ap (λ (m : Description). (acl_at m a).id) same ∙ ap (λ (b : AclNo). (acl_at d b).id) own-acl)

pub judged_in-some : (d : Description) (h : Header) (t : SubnetNo) (entered : Option SubnetNo) → entered ≡ Some t
    → decision_line d (judgement d Inward h t) ≡ decision_lines d (judged_in d h entered)
judged_in-some d h t entered is = sym (append-nil (decision_line d (judgement d Inward h t))) ∙ ap (λ (o : Option SubnetNo). decision_lines d (judged_in d h o)) (sym is)

pub judged-inside : (d : Description) (h : Header) (b : Borders) → b.left ≡ None → decision_lines d (judged_in d h b.entered) ≡ decision_lines d (judged d h b)
judged-inside d h b is = ap (λ (o : Option SubnetNo). decision_lines d (judged_out d h o (judged_in d h b.entered))) (sym is)

pub judged-passed : (d : Description) (h : Header) (s : SubnetNo) (b : Borders) → b.left ≡ Some s → (verdict_at d Outward h s).0 ≡ true
    → decision_line d (judgement d Outward h s) ++ decision_lines d (judged_in d h b.entered) ≡ decision_lines d (judged d h b)
judged-passed d h s b is passes =
    ap (λ (p : Bool). decision_line d (judgement d Outward h s) ++ decision_lines d (cond p (judged_in d h b.entered) [])) (sym passes)
    ∙ ap (λ (o : Option SubnetNo). decision_lines d (judged_out d h o (judged_in d h b.entered))) (sym is)

pub judged-refused : (d : Description) (h : Header) (s : SubnetNo) (b : Borders) → b.left ≡ Some s → (verdict_at d Outward h s).0 ≡ false
    → decision_line d (judgement d Outward h s) ≡ decision_lines d (judged d h b)
judged-refused d h s b is refuses =
    sym (append-nil (decision_line d (judgement d Outward h s)))
    ∙ ap (λ (p : Bool). decision_line d (judgement d Outward h s) ++ decision_lines d (cond p (judged_in d h b.entered) [])) (sym refuses)
    ∙ ap (λ (o : Option SubnetNo). decision_lines d (judged_out d h o (judged_in d h b.entered))) (sym is)

-- ---- places

pub router-lines : (d n : Description) (s : SubnetNo) (h : Header) (t : TableNo) (o : Option ℕ) → n ≡ d → t ≡ table_of n s → o ≡ chosen_route d (table_at d t).routes h.dst
    → decision_lines d (by_route d s h t o) ≡ decision_lines d (at_router d s h)
router-lines d n s h t o same is told =
    ap (λ (x : Option ℕ). decision_lines d (by_route d s h t x)) told
    ∙ ap (λ (u : TableNo). decision_lines d (by_route d s h u (chosen_route d (table_at d u).routes h.dst))) (is ∙ ap (λ (m : Description). table_of m s) same)

pub table-lines : (d : Description) (v : VpcNo) (h : Header) (t : TableNo) (o : Option ℕ) → o ≡ chosen_route d (table_at d t).routes h.dst
    → decision_lines d (by_entrance d v h t o) ≡ decision_lines d (at_table d v h (Some t))
table-lines d v h t o told = ap (λ (x : Option ℕ). decision_lines d (by_entrance d v h t x)) told

pub entry-lines : (d : Description) (v : VpcNo) (by : EnterBy) (h : Header) (o : Option TableNo) → o ≡ entrance_table d v by
    → decision_lines d (at_table d v h o) ≡ decision_lines d (at_entry d v by h)
entry-lines d v by h o is = ap (λ (x : Option TableNo). decision_lines d (at_table d v h x)) is

-- ---- headers

pub rewritten-none : (d : Description) (before h : Header) → same_header before h ≡ true → [] ≡ decision_lines d (rewritten before h)
rewritten-none d before h is = ap (λ (b : Bool). decision_lines d (cond b [] (becomes h ∷ []))) (sym is)

pub rewritten-other : (d : Description) (before h : Header) → same_header before h ≡ false → decision_line d (becomes h) ≡ decision_lines d (rewritten before h)
rewritten-other d before h is = sym (append-nil (decision_line d (becomes h))) ∙ ap (λ (b : Bool). decision_lines d (cond b [] (becomes h ∷ []))) (sym is)
