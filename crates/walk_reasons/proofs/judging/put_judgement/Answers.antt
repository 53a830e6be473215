use Rattle.std.proofs.Common.{◌≡◌, ◌++◌, ◌∙◌, Bool, List, ap, subst, sym, true, ℕ}
use Rattle.fabric.proofs.RowFacts.{acl-lies}
use Rattle.vpc_laws.specs.Types.{Acl, Description}
use Rattle.vpc_model.specs.Sound.{is_acl}
use Rattle.walk_reasons.proofs.ToldPlaces.{judgement-line, verdict-is}
use Rattle.walk_reasons.proofs.judging.put_judgement.Goals as goal

pub acl-requires : goal.acl-requires
acl-requires c = acl-lies c.args.f.now c.network-n.result.now c.args.s c.acl_of-a.result c.network-n.ensures c.description.ensures.accepted c.requires c.acl_of-a.ensures

pub acl_at-requires : goal.acl_at-requires
acl_at-requires c =
    subst (λ (d : Description). is_acl d c.acl_of-a.result ≡ true) (sym c.network-n.ensures)
    (acl-lies c.args.f.now c.network-n.result.now c.args.s c.acl_of-a.result c.network-n.ensures c.description.ensures.accepted c.requires c.acl_of-a.ensures)

pub returns-clause-text : goal.returns-clause-text
returns-clause-text c =
    c.in_ok-put_acl_line.ensures
    ∙ ap (λ (t : List ℕ). c.args.out.now.items ++ t)
    (judgement-line c.args.f.now c.network-n.result.now c.args.s c.acl_of-a.result c.args.dir c.args.h.now c.decide-verdict.result c.acl.result.now c.network-n.ensures c.acl_of-a.ensures c.acl.ensures c.decide-verdict.ensures _ (c.bytes.ensures.value ∙ ap (λ (x : Acl). x.id) c.acl_at.ensures))

pub returns-clause-passes : goal.returns-clause-passes
returns-clause-passes c =
    ap (λ (v : Bool × ℕ). v.0)
    (verdict-is c.args.f.now c.network-n.result.now c.args.s c.acl_of-a.result c.args.dir c.args.h.now c.decide-verdict.result c.acl.result.now c.network-n.ensures c.acl_of-a.ensures c.acl.ensures c.decide-verdict.ensures)
