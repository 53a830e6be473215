use Rattle.std.proofs.Common.{◌∙◌, ap}
use Rattle.vpc_model.specs.Names.{name_text}
use Rattle.vpc_model.specs.Told.{name_of, stop_id, stop_rule}
use Rattle.diff_check.proofs.Pieces.{none_after_two, same_after_two}
use Rattle.diff_check.proofs.texts.is_stop.Goals as goal

pub returns-in-Some : goal.returns-in-Some
returns-in-Some c =
    let n = c.args.n.now in
    let s = c.args.s.now in
    same_after_two c.args.text.now c.in-Some.rest.now (stop_rule n s) c.is_rule.result c.name_text.result.now (name_text (name_of s)) c.stop_id.result.now (stop_id n s)
    (c.name_text.ensures ∙ ap name_text c.name.ensures) c.stop_id.ensures.value c.in-Some.ensures c.is_rule.ensures

pub returns-in-None : goal.returns-in-None
returns-in-None c =
    let n = c.args.n.now in
    let s = c.args.s.now in
    none_after_two c.args.text.now (stop_rule n s) c.name_text.result.now (name_text (name_of s)) c.stop_id.result.now (stop_id n s)
    (c.name_text.ensures ∙ ap name_text c.name.ensures) c.stop_id.ensures.value c.in-None.ensures
