use Rattle.serde_json.specs.View.{view}
use Rattle.bundle.proofs.MeaningLemmas.{described_if_meant}
use Rattle.bundle.proofs.reader.read_bundle.Goals as goal

pub returns : goal.returns
returns c =
    described_if_meant c.args.bytes.now (view c.in_ok-bundle.bundle) c.network_of.result c.in_ok-bundle.ensures.value c.network_of.ensures
