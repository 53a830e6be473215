use Rattle.std.proofs.Common.{◌≡◌, ◌∙◌, ap}
use Rattle.vpc_laws.specs.Types.{Description}
use Rattle.vpc_model.specs.Accepted.{refusals_of}
use Rattle.unused_rules.proofs.Chunking.{without_chunk_is_accepted}
use Rattle.unused_rules.specs.Chunks.{without_chunk}
use Rattle.unused_rules.proofs.removal.network_without_chunk.Goals as goal

pub accepted-requires : goal.accepted-requires
accepted-requires c =
    let same : c.in_ok-without_chunk.field-0 ≡ without_chunk c.args.n.now c.args.c.now =
    c.in_ok-without_chunk.ensures ∙ ap (λ (d : Description). without_chunk d c.args.c.now) c.description.ensures.value in
    ap refusals_of same ∙ without_chunk_is_accepted c.args.n.now c.args.c.now c.description.ensures.accepted
