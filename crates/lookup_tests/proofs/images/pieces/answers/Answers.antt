use Rattle.std.proofs.Common.{◌∙◌, [], ap, inr, ℕ}
use Rattle.header_boxes.specs.Boxes.{in_range}
use Rattle.header_boxes.specs.declared.boxes.Box5.{Box5}
use Rattle.header_boxes.proofs.Held.{within_itself}
use Rattle.box_images.proofs.TranslateLemmas.{valid_exchanged}
use Rattle.lookup_tests.proofs.images.pieces.answers.Goals as goal

pub returns-clause-valid : goal.returns-clause-valid
returns-clause-valid c =
    let i = c.of-asked.result in
    valid_exchanged i i.part c.of-asked.ensures.valid (within_itself i.part c.of-asked.ensures.valid.part)

pub returns-clause-walk : goal.returns-clause-walk
returns-clause-walk c =
    let asked = c.of-asked.ensures.kind [] in (
      [],
      inr (inr (record {
        other = ap (λ (b : Box5). in_range b.proto 1) c.of-asked.ensures.part ∙ ap (λ (r : ℕ × ℕ). in_range r 1) c.requires.tcp;
        proto = asked.proto;
        src = asked.dst;
        dst = asked.src;
        p = asked.q;
        q = asked.p;
      })),
    )
