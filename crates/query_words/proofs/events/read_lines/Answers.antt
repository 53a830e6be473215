use Rattle.std.proofs.Common.{◌∙◌, All, Ok, Option, ap, is_none, map, refl, subst, sym}
use Rattle.std.proofs.lemmas.List.Elements.{All-push}
use Rattle.std.specs.Prelude.{IfSome, List}
use Rattle.vpc_laws.specs.Types.{Event}
use Rattle.query_words.specs.Events.{StartsWell, event_of, events_in}
use Rattle.query_words.proofs.EventLemmas.{number-end, number-here, number-step, packets-end, packets-step}
use Rattle.query_words.proofs.events.read_lines.Goals as goal

pub loop-k-preserved : goal.loop-k-preserved
loop-k-preserved c =
    let d = c.args.n.now in
    let says = sym c.in_ok-event.ensures.event ∙ c.in-Some.is in
    let starts = subst (λ (o : Option Event). IfSome o (StartsWell d)) c.in-Some.is c.in_ok-event.ensures.start in
    let pushed = c.in_ok-push-in-Some.ensures.items in
    record {
      packets = packets-step (event_of d) c.args.lines.now c.loop-k.k _ _ c.in-Some.event c.push.new.self.items c.loop-k.events.items _
          c.loop-k-test.true refl says pushed c.loop-k.invariant.packets;
      bad = number-step (λ t. is_none (event_of d t)) c.args.lines.now c.loop-k.k _ _ _ c.loop-k-test.true refl (ap is_none says) c.loop-k.invariant.bad;
      starts = subst (λ (es : List Event). All (StartsWell d) es) (sym pushed) (All-push (StartsWell d) c.loop-k.events.items c.in-Some.event c.loop-k.invariant.starts starts);
    }

pub returns-in-None-clause-events : goal.returns-in-None-clause-events
returns-in-None-clause-events c =
    let d = c.args.n.now in
    let says = sym c.in_ok-event.ensures.event ∙ c.in-None.is in
    ap (events_in d (map (λ l. l.now) c.args.lines.now))
    (number-here (λ t. is_none (event_of d t)) c.args.lines.now c.loop-k.k _ _ _ c.loop-k-test.true refl (ap is_none says) c.loop-k.invariant.bad)

pub returns-clause-events : goal.returns-clause-events
returns-clause-events c =
    let d = c.args.n.now in
    ap (events_in d (map (λ l. l.now) c.args.lines.now))
    (number-end (λ t. is_none (event_of d t)) c.args.lines.now c.loop-k.k _ c.loop-k-test.false c.loop-k.invariant.bad)
    ∙ ap Ok (sym (packets-end (event_of d) c.args.lines.now c.loop-k.k c.loop-k.events.items _ c.loop-k-test.false c.loop-k.invariant.packets))
