use Rattle.std.proofs.Common.{◌∷◌, [], codes, map}
use Rattle.query_words.proofs.EventLemmas.{read-holds, read-meant}
use Rattle.query_words.specs.Events.{StartsWell}
use Rattle.query_words.specs.Packet.{packet_of}
use Rattle.query_words.proofs.events.event_of_words.Goals as goal

pub returns-clause-event : goal.returns-clause-event
returns-clause-event c =
    read-meant (packet_of c.args.n.now (codes "trace" ∷ [] ∷ map (λ w. w.now) c.args.words.now)) c.read_event.result c.unless_memory.result
    c.read_event.ensures.answer c.unless_memory.ensures.value c.unless_memory.ensures.told

pub returns-clause-start : goal.returns-clause-start
returns-clause-start c = read-holds (StartsWell c.args.n.now) c.read_event.result c.unless_memory.result c.read_event.ensures.described c.unless_memory.ensures.value
