use Rattle.std.proofs.Common.{◌≡◌, ◌∙◌, ◌∷◌, [], Bor, List, None, Option, ap, codes, length, map, subst, sym, take, ℕ}
use Rattle.std.proofs.lemmas.List.{length-map}
use Rattle.std.specs.Prelude.{IfOk}
use Rattle.std.specs.Result.{result_ok}
use Rattle.vpc_laws.specs.Types.{Event}
use Rattle.query_words.specs.Events.{words_of}
use Rattle.query_words.specs.Packet.{packet_of}
use Rattle.query_words.proofs.EventLemmas.{eight-words, other-words}
use Rattle.query_words.proofs.events.event_of.Goals as goal

pub returns-then-len-eq8-clause-event : goal.returns-then-len-eq8-clause-event
returns-then-len-eq8-clause-event c =
    let words = c.as_slice.result.now in
    let given : List (List ℕ) = map (λ w. w.now) words in
    let are : given ≡ take 9 (words_of c.args.line.now) = ap (λ (ws : List (Bor (List ℕ))). map (λ w. w.now) ws) c.as_slice.ensures.value ∙ c.in_ok-words.ensures in
    let eight : length given ≡ 8 = length-map words (λ w. w.now) ∙ (ap length c.as_slice.ensures.value ∙ (sym c.in_ok-words.words.ok.0 ∙ (sym c.len.ensures ∙ c.if-len-eq8.true))) in
    subst (λ (e : Option Event). IfOk c.event_of_words.result (λ o. o ≡ e))
    (sym (eight-words (λ ws. result_ok (packet_of c.args.n.now (codes "trace" ∷ [] ∷ ws))) (words_of c.args.line.now) given None are eight))
    c.event_of_words.ensures.event

pub returns-clause-event : goal.returns-clause-event
returns-clause-event c =
    let words = c.in_ok-words.words.items in
    let given : List (List ℕ) = map (λ w. w.now) words in
    sym
    (other-words (λ ws. result_ok (packet_of c.args.n.now (codes "trace" ∷ [] ∷ ws))) (words_of c.args.line.now) given None c.in_ok-words.ensures
    (λ is. c.if-len-eq8.false (c.len.ensures ∙ (c.in_ok-words.words.ok.0 ∙ (sym (length-map words (λ w. w.now)) ∙ is)))))
