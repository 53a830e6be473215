-- Walks of opens that miss the goal.
use Rattle.std.proofs.Common.{◌≡◌, ◌∙◌, ◌++◌, ◌+◌, ◌∷◌, [], List, None, Option, Some, ap, false, subst, sym, true, ℕ}
use Rattle.vpc_base.specs.declared.headers.Label.TheVariants as labels
use Rattle.header_boxes.proofs.BoxLaws.{within_holds}
use Rattle.header_boxes.specs.Boxes.{low_of}
use Rattle.box_images.proofs.BodyLemmas.{body_through}
use Rattle.box_images.specs.Answers.{Answers}
use Rattle.box_steps.specs.Terms.{AtPlace, HoldsOver, IsStepOn, misses_at, moment_at}
use Rattle.box_steps.specs.declared.moment.BoxMoment.{BoxMoment}
use Rattle.box_steps.specs.declared.onward.Onward.TheVariants as onwards
use Rattle.cut_laws.proofs.Among.{among_through}
use Rattle.vpc_laws.proofs.Lemmas.{hop_at}
use Rattle.vpc_laws.specs.Types.{Box5, Description, End, Place, Stop}
use Rattle.vpc_model.specs.Terms.{Appliances, Walk, cuts_at, cuts_of_hops}
use Rattle.box_walk.proofs.OneRest.{first_among, is_visited-at, pushed_at}
use Rattle.box_walk.proofs.Rests.{rest_aligned, rest_goes_on, rest_of-goes_on, walk_from_rest}
use Rattle.box_walk.specs.Terms.{IsRestMissed, IsRestOn, IsRestSought, IsWalkSought, arrives_at, is_among, rest_of}
use Rattle.box_walk.specs.declared.walks.Ending.TheVariants as endings
use Rattle.box_walk.proofs.Missed.{misses_never_arrive}

-- given up at once
pub missed_here : (d : Description) (a : Appliances) (goal : End) (left n : ℕ) (places : List Place) (old : BoxMoment) (x : Option Box5) (body : Box5)
    → left ≡ n + 1 → is_among places old.place ≡ false → x ≡ Some body
    → HoldsOver (AtPlace d old.place) (λ h. misses_at d a goal (moment_at h old)) old.header.part x
    → IsRestMissed d a goal left places old body
missed_here d a goal left n places old x body one fresh is over =
    let k : Answers (AtPlace d old.place) (λ h. misses_at d a goal (moment_at h old)) old.header.part (record { body = body; told = true })
    = subst (HoldsOver (AtPlace d old.place) (λ h. misses_at d a goal (moment_at h old)) old.header.part) is over in
    record {
      misses = λ h inside hops at. misses_never_arrive d a goal left hops (moment_at h old) (sym (k.told h inside));
      inside = k.body;
      aligned = λ cuts hops at among.
          let m = moment_at (low_of old.header.part) old in
          let w = rest_of d a labels.Opening left hops m in
          k.aligned cuts (among_through (cuts_at d old.place) (cuts_of_hops d w.hops) cuts (first_among d a labels.Opening left n hops m one (is_visited-at hops places old.place false at fresh)) among);
    }

-- stopped on the way
pub missed_by_stop : (d : Description) (a : Appliances) (goal : End) (left : ℕ) (places : List Place) (old new : BoxMoment) (s : Stop)
    → IsRestOn d a labels.Opening left places old new (endings.Stopped s) → IsRestMissed d a goal left places old new.header.part
missed_by_stop d a goal left places old new s rest = record {
  misses = λ h inside hops at. ap (arrives_at goal) (rest.walk h inside hops at).outcome;
  inside = rest.body;
  aligned = rest.aligned;
}

-- given up later
missed_later : (d : Description) (a : Appliances) (goal : End) (left n : ℕ) (places longer : List Place) (old mid : BoxMoment) (body : Box5) (p : Place)
    → left ≡ n + 1 → is_among places old.place ≡ false → IsStepOn d a labels.Opening old mid (onwards.Go p)
    → longer ≡ places ++ old.place ∷ [] → IsRestMissed d a goal n longer mid body → IsRestMissed d a goal left places old body
missed_later d a goal left n places longer old mid body p one fresh step are rest = record {
  misses = λ h inside hops at.
      ap (λ (w : Walk). arrives_at goal w.outcome)
      (rest_of-goes_on d a labels.Opening left n places old mid p h hops one fresh step (within_holds body mid.header.part h rest.inside.within inside) at)
      ∙ rest.misses h inside (hops ++ hop_at d a labels.Opening (moment_at h old) ∷ []) (pushed_at d a labels.Opening hops places (moment_at h old) at ∙ sym are);
  inside = body_through body mid.header.part old.header.part rest.inside step.body;
  aligned = rest_aligned d a labels.Opening left n places longer old mid body p one fresh step are rest.aligned;
}

-- followed to its end, or given up later
pub sought_later : (d : Description) (a : Appliances) (goal : End) (left n : ℕ) (places longer : List Place) (old mid new : BoxMoment) (p : Place) (found : Option End)
    → left ≡ n + 1 → is_among places old.place ≡ false → IsStepOn d a labels.Opening old mid (onwards.Go p)
    → longer ≡ places ++ old.place ∷ [] → IsRestSought d a goal n longer mid new found → IsRestSought d a goal left places old new found
sought_later d a goal left n places longer old mid new p (Some end) one fresh step are rest =
    rest_goes_on d a labels.Opening left n places longer old mid new p (endings.Arrived end) one fresh step are rest
sought_later d a goal left n places longer old mid new p None one fresh step are rest =
    missed_later d a goal left n places longer old mid new.header.part p one fresh step are rest

-- a whole walk
pub sought_from_rest : (d : Description) (a : Appliances) (goal : End) (places : List Place) (old new : BoxMoment) (found : Option End)
    → places ≡ [] → IsRestSought d a goal 64 places old new found → IsWalkSought d a goal old new found
sought_from_rest d a goal places old new (Some end) none rest = walk_from_rest d a labels.Opening places old new (endings.Arrived end) none rest
sought_from_rest d a goal places old new None none rest = record {
  misses = λ h inside. rest.misses h inside [] (sym none);
  inside = rest.inside;
  aligned = λ cuts among. rest.aligned cuts [] (sym none) among;
}
