use Rattle.std.proofs.Common.{Err}
use Rattle.serde_json.specs.View.{view}
use Rattle.bundle.proofs.MeaningLemmas.{described_if_meant}
use Rattle.vpc_commands.proofs.Taken.{is_refused}
use Rattle.vpc_commands.proofs.files.describe_value.Goals as goal

pub returns-in-Ok : goal.returns-in-Ok
returns-in-Ok c = λ bytes few json. record { few = few; value = view c.args.bundle.now; json = json; accepted = c.in-Ok.ensures }

pub returns-in_ok-refuse_bundle-in-Err : goal.returns-in_ok-refuse_bundle-in-Err
returns-in_ok-refuse_bundle-in-Err c = λ bytes few json.
    is_refused c.args.which bytes c.in-Err.cause _ _
    (described_if_meant bytes (view c.args.bundle.now) (Err c.in-Err.cause) json c.in-Err.ensures)
    c.in_ok-refuse_bundle-in-Err.ensures.line c.in_ok-refuse_bundle-in-Err.ensures.cause
