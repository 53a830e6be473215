-- One question about two networks.
use Rattle.std.proofs.Common.{◌≡◌, ◌∙◌, Err, None, Ok, Option, Some, ap, refl, subst, sym}
use Rattle.box_images.proofs.BodyLemmas.{body_through}
use Rattle.box_images.specs.Answers.{Answers}
use Rattle.box_images.specs.declared.images.Part.{Part}
use Rattle.cut_laws.proofs.Among.{among_through, left_among, right_among}
use Rattle.header_boxes.proofs.BoxLaws.{within_holds}
use Rattle.header_boxes.proofs.CellNumbers.{aligned_through}
use Rattle.header_boxes.specs.Boxes.{low_of}
use Rattle.header_boxes.specs.declared.boxes.Box5.{Box5}
use Rattle.vpc_base.specs.Cuts.{AreAmong}
use Rattle.vpc_base.specs.declared.headers.Header.{Header}
use Rattle.vpc_laws.specs.Types.{Description, End}
use Rattle.journey_changes.specs.Changes.{change_by, change_cuts, change_of}
use Rattle.journey_changes.specs.Fates.{Fate, reached_by}
use Rattle.journey_changes.specs.Joined.{ReachBoth, closed_at, opened_at}
use Rattle.journey_changes.specs.Sent.{Sent, fate, near, reached}
use Rattle.journey_changes.specs.declared.changes.Change.{Change}

-- ---- fates by the ends that are reached

pub ok_if_reached : (x : Fate) (e : End) → reached_by x ≡ Some e → x ≡ Ok e
ok_if_reached (Ok end) e is = cc
ok_if_reached (Err b) e is = absurd (cc)

pub none_changes : (before after : Description) (x y : Fate) → reached_by x ≡ None → reached_by y ≡ None → change_by before after x y ≡ None
none_changes before after (Ok e) y none other = absurd (cc)
none_changes before after (Err b) (Ok f) none other = absurd (cc)
none_changes before after (Err b) (Err a) none other = refl

-- ---- the answer of one network

pub opened_answers : (before after : Sent) (end : End) (part : Box5) (x : Part Fate) (told : Option Change) → told ≡ change_by before.network after.network x.told (Ok end)
    → Answers (AreAmong (near before (low_of part))) (fate before) part x
    → Answers (AreAmong (near before (low_of part))) (opened_at before after end) part (record { body = x.body; told = told })
opened_answers before after end part x told is k = record {
  told = λ h i. is ∙ ap (λ (y : Fate). change_by before.network after.network y (Ok end)) (k.told h i);
  body = k.body;
  aligned = k.aligned;
}

pub closed_answers : (before after : Sent) (end : End) (part : Box5) (x : Part Fate) (told : Option Change) → told ≡ change_by before.network after.network (Ok end) x.told
    → Answers (AreAmong (near after (low_of part))) (fate after) part x
    → Answers (AreAmong (near after (low_of part))) (closed_at before after end) part (record { body = x.body; told = told })
closed_answers before after end part x told is k = record {
  told = λ h i. is ∙ ap (change_by before.network after.network (Ok end)) (k.told h i);
  body = k.body;
  aligned = k.aligned;
}

-- ---- two answers

module _ (before after : Sent) (sides : Box5) where
  pub reach_both : (first second : Part (Option End)) → Answers (AreAmong (near before (low_of sides))) (reached before) sides first
      → Answers (AreAmong (near after (low_of first.body))) (reached after) first.body second → ReachBoth before after sides second.body first.told second.told
  reach_both first second a b = record {
    first = λ h i. sym (a.told h (within_holds second.body first.body h b.body.within i));
    second = λ h i. sym (b.told h i);
    inside = body_through second.body first.body sides b.body a.body;
    aligned = λ cuts e.
        let near_a = near before (low_of sides) in
        let near_b = near after (low_of sides) in
        let low : AreAmong (near after (low_of first.body)) cuts = subst (λ (h : Header). AreAmong (near after h) cuts) (sym a.body.low) (among_through near_b (change_cuts before after (low_of sides)) cuts (right_among near_a near_b) e) in
        aligned_through cuts second.body first.body sides (b.aligned cuts low)
        (a.aligned cuts (among_through near_a (change_cuts before after (low_of sides)) cuts (left_among near_a near_b) e));
  }

  module _ (body : Box5) where
    -- neither reaches an end
    pub both_kept : (e f : Option End) → e ≡ None → f ≡ None → ReachBoth before after sides body e f
        → Answers (AreAmong (change_cuts before after (low_of sides))) (change_of before after) sides (record { body = body; told = None })
    both_kept e f neither nor k = record {
      told = λ h i. sym (none_changes before.network after.network (fate before h) (fate after h) (k.first h i ∙ neither) (k.second h i ∙ nor));
      body = k.inside;
      aligned = k.aligned;
    }

    -- both do
    pub both_reach : (e f : Option End) (one other : End) (told : Option Change) → e ≡ Some one → f ≡ Some other → told ≡ change_by before.network after.network (Ok one) (Ok other)
        → ReachBoth before after sides body e f
        → Answers (AreAmong (change_cuts before after (low_of sides))) (change_of before after) sides (record { body = body; told = told })
    both_reach e f one other told is also by k = record {
      told = λ h i.
          by ∙ (ap (λ (x : Fate). change_by before.network after.network x (Ok other)) (sym (ok_if_reached (fate before h) one (k.first h i ∙ is)))
          ∙ ap (change_by before.network after.network (fate before h)) (sym (ok_if_reached (fate after h) other (k.second h i ∙ also))));
      body = k.inside;
      aligned = k.aligned;
    }

    -- the later one alone
    pub later_reaches : (e f : Option End) (end : End) (x : Part (Option Change)) → f ≡ Some end → ReachBoth before after sides body e f
        → Answers (AreAmong (near before (low_of body))) (opened_at before after end) body x
        → Answers (AreAmong (change_cuts before after (low_of sides))) (change_of before after) sides x
    later_reaches e f end x also k a = record {
      told = λ h i.
          a.told h i
          ∙ ap (change_by before.network after.network (fate before h)) (sym (ok_if_reached (fate after h) end (k.second h (within_holds x.body body h a.body.within i) ∙ also)));
      body = body_through x.body body sides a.body k.inside;
      aligned = λ cuts c.
          let near_a = near before (low_of sides) in
          let near_b = near after (low_of sides) in
          aligned_through cuts x.body body sides
          (a.aligned cuts (subst (λ (h : Header). AreAmong (near before h) cuts) (sym k.inside.low) (among_through near_a (change_cuts before after (low_of sides)) cuts (left_among near_a near_b) c)))
          (k.aligned cuts c);
    }

    -- the earlier one alone
    pub earlier_reaches : (e f : Option End) (end : End) (x : Part (Option Change)) → e ≡ Some end → ReachBoth before after sides body e f
        → Answers (AreAmong (near after (low_of body))) (closed_at before after end) body x
        → Answers (AreAmong (change_cuts before after (low_of sides))) (change_of before after) sides x
    earlier_reaches e f end x is k a = record {
      told = λ h i.
          a.told h i
          ∙ ap (λ (y : Fate). change_by before.network after.network y (fate after h)) (sym (ok_if_reached (fate before h) end (k.first h (within_holds x.body body h a.body.within i) ∙ is)));
      body = body_through x.body body sides a.body k.inside;
      aligned = λ cuts c.
          let near_a = near before (low_of sides) in
          let near_b = near after (low_of sides) in
          aligned_through cuts x.body body sides
          (a.aligned cuts (subst (λ (h : Header). AreAmong (near after h) cuts) (sym k.inside.low) (among_through near_b (change_cuts before after (low_of sides)) cuts (right_among near_a near_b) c)))
          (k.aligned cuts c);
    }
