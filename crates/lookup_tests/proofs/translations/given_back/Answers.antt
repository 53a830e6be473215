use Rattle.std.proofs.Common.{◌∷◌, [], List, arith, refl, ℕ}
use Rattle.box_images.specs.Images.{IsImageOfOpen}
use Rattle.conn_tracking.proofs.ReplyLemmas.{known_of_some}
use Rattle.lookup_tests.proofs.translations.given_back.Goals as goal

pub outward_on-sent-requires-clause-kinds : goal.outward_on-sent-requires-clause-kinds
outward_on-sent-requires-clause-kinds c = ([], c.of-before.ensures.kind [])

pub answered-requires-clause-kind_before : goal.answered-requires-clause-kind_before
answered-requires-clause-kind_before c =
    let addresses : List ℕ = 7 ∷ 150 ∷ [] in
    (c.within.ensures.kind addresses).of_open (c.of-before.ensures.kind addresses)

pub answered-requires-clause-kind_after : goal.answered-requires-clause-kind_after
answered-requires-clause-kind_after c =
    let addresses : List ℕ = 7 ∷ 150 ∷ [] in
    let sent = c.outward_on-sent in
    known_of_some sent.result.told c.in-Some.after (IsImageOfOpen addresses) (sent.ensures.kind addresses (0, omega arith, refl) (c.of-before.ensures.kind addresses)) c.in-Some.is
