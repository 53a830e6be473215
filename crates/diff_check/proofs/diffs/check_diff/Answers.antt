use Rattle.std.proofs.Common.{◌∙◌, sym}
use Rattle.vpc_base.proofs.Results.{if_ok}
use Rattle.diff_check.specs.Diffs as diffs
use Rattle.diff_check.proofs.Checking.{diff_answers}
use Rattle.diff_check.proofs.diffs.check_diff.Goals as goal

pub returns-in-Ok-true : goal.returns-in-Ok-true
returns-in-Ok-true c =
    if_ok _ _ c.check_listing.result (λ a told. diff_answers c.args.before c.args.after c.args.bytes.now a.status a.text.items (sym c.in-Ok-true.ensures ∙ c.in-Ok-true.field-0-test) told) c.check_listing.ensures

pub returns-in-Ok-false : goal.returns-in-Ok-false
returns-in-Ok-false c = if_ok _ _ c.refuse_line.result (λ a h. diffs.no_diff (sym c.in-Ok-false.ensures ∙ c.in-Ok-false.field-0-test) h.0 h.1) c.refuse_line.ensures
