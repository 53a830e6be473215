use Rattle.std.proofs.Common.{◌∙◌, ap, sym}
use Rattle.prefix_text.specs.Block.{prefix_of}
use Rattle.read_network.proofs.FaultLemmas.{bad_text_told}
use Rattle.read_network.proofs.prefix_lists.ipv4_block.Goals as goal

pub returns-in-None : goal.returns-in-None
returns-in-None c =
    bad_text_told c.args.path.now (prefix_of c.args.text.now) c.bad_text_of.result
    (sym (c.in-None.ensures ∙ ap prefix_of c.as_bytes.ensures.value))
    c.bad_text_of.ensures
