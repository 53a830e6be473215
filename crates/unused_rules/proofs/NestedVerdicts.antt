-- Verdicts in three descriptions that differ in the rules of their groups alone, each with fewer than the one before: where
-- the first and the last agree, so does the one between them.
use Rattle.std.proofs.Common.{◌≡◌, ◌∙◌, ◌&&◌, [], Bool, List, None, Option, Some, ap, ap₂, cond, false, refl, subst, sym, true}
use Rattle.std.proofs.lemmas.Bool.{cond_both}
use Rattle.copied_rows.specs.Filters.{with_filters}
use Rattle.vpc_base.specs.Header.{reply_of}
use Rattle.vpc_base.specs.declared.headers.Label.TheVariants as labels
use Rattle.vpc_laws.specs.Types.{Description, End, Group, Header, Outcome, Phase, Place, Stop, Verdict}
use Rattle.vpc_model.specs.Terms.{Appliances, Connection, Moment, Translation, Walk, alone, is_header, reply_walk, request_walk, same_end, start_of, verdict_of, verdict_of_arrival, verdict_of_reply, verdict_of_request, walk_of}
use Rattle.vpc_model.specs.declared.outcomes.Outcome.TheVariants as outcomes
use Rattle.vpc_model.specs.declared.outcomes.Phase.TheVariants as phases
use Rattle.vpc_model.specs.declared.outcomes.Verdict.TheVariants as verdicts
use Rattle.vpc_model.specs.declared.stops.Stop.TheVariants as stops
use Rattle.unused_rules.proofs.Alike.{Alike}
use Rattle.unused_rules.proofs.Fewer.{FewerRules}
use Rattle.vpc_laws.specs.Onward.{door_of}
use Rattle.unused_rules.proofs.NestedSteps.{no-door}
use Rattle.unused_rules.proofs.NestedWalks.{AreNestedWalks, IsSameWalk, nested_walks, refused, same}

-- ---- verdicts that tell of groups

through-not_stopped : (phase : Phase) (s : Stop) → verdicts.Through ≡ verdicts.Stopped phase s → ⊥
through-not_stopped phase s e = cc

reply-not_request : (s t : Stop) → verdicts.Stopped phases.Reply s ≡ verdicts.Stopped phases.Request t → ⊥
reply-not_request s t e = cc

stop-same : (phase : Phase) (s t : Stop) → verdicts.Stopped phase s ≡ verdicts.Stopped phase t → s ≡ t
stop-same phase s t e = cc

no-stop_of_groups : (phase : Phase) (t s : Stop) (p : Place) → door_of s ≡ Some p → door_of t ≡ None
    → verdicts.Stopped phase t ≡ verdicts.Stopped phase s → ⊥
no-stop_of_groups phase t s p door none e = no-door s p (subst (λ (x : Stop). door_of x ≡ None) (stop-same phase t s e) none) door

-- a reply that groups stop was stopped on its walk
stopped-reply : (start : End) (h : Header) (s : Stop) (p : Place) → door_of s ≡ Some p → (o : Outcome)
    → verdict_of_reply (alone start) h o ≡ verdicts.Stopped phases.Reply s → o ≡ outcomes.Stopped s
stopped-reply start h s p door (outcomes.Stopped t) e = ap outcomes.Stopped (stop-same phases.Reply t s e)
stopped-reply start h s p door (outcomes.Arrived end k) e =
    absurd (cond_both (same_end end start && is_header k (reply_of h)) verdicts.Through
    (verdicts.Stopped phases.Reply (stops.WrongReturn end))
    (λ (v : Verdict). v ≡ verdicts.Stopped phases.Reply s → ⊥) (λ _. through-not_stopped phases.Reply s)
    (λ _. no-stop_of_groups phases.Reply (stops.WrongReturn end) s p door refl) e)

reply-no_request : (start : End) (h : Header) (s : Stop) (o : Outcome) → verdict_of_reply (alone start) h o ≡ verdicts.Stopped phases.Request s → ⊥
reply-no_request start h s (outcomes.Stopped t) = reply-not_request t s
reply-no_request start h s (outcomes.Arrived end k) =
    cond_both (same_end end start && is_header k (reply_of h)) verdicts.Through (verdicts.Stopped phases.Reply (stops.WrongReturn end))
    (λ (v : Verdict). v ≡ verdicts.Stopped phases.Request s → ⊥) (λ _. through-not_stopped phases.Request s)
    (λ _. reply-not_request (stops.WrongReturn end) s)

arrival-no_request : (d : Description) (appliances : Appliances) (start goal : End) (h : Header) (request : Walk) (s : Stop)
    (r : Option Header)
    → verdict_of_arrival d appliances (alone start) goal h request r ≡ verdicts.Stopped phases.Request s → ⊥
arrival-no_request d appliances start goal h request s None = reply-not_request (stops.NoReply goal) s
arrival-no_request d appliances start goal h request s (Some r) =
    let reply = reply_walk d appliances goal r request in reply-no_request start h s reply.outcome

-- a request that groups stop was stopped on its walk
stopped-request : (d : Description) (appliances : Appliances) (start goal : End) (h : Header) (request : Walk) (s : Stop) (p : Place)
    → door_of s ≡ Some p
    → (o : Outcome) → verdict_of_request d appliances (alone start) goal h request o ≡ verdicts.Stopped phases.Request s → o ≡ outcomes.Stopped s
stopped-request d appliances start goal h request s p door (outcomes.Stopped t) e = ap outcomes.Stopped (stop-same phases.Request t s e)
stopped-request d appliances start goal h request s p door (outcomes.Arrived end k) e =
    absurd (cond_both (same_end end goal) (verdict_of_arrival d appliances (alone start) goal h request (reply_of k))
    (verdicts.Stopped phases.Request (stops.WrongPlace end))
    (λ (v : Verdict). v ≡ verdicts.Stopped phases.Request s → ⊥)
    (λ _. arrival-no_request d appliances start goal h request s (reply_of k))
    (λ _. no-stop_of_groups phases.Request (stops.WrongPlace end) s p door refl) e)

-- by the walks of the reply
between-replies : (start : End) (h : Header) (more between fewer : Walk) → AreNestedWalks more between fewer
    → verdict_of_reply (alone start) h fewer.outcome ≡ verdict_of_reply (alone start) h more.outcome
    → verdict_of_reply (alone start) h between.outcome ≡ verdict_of_reply (alone start) h more.outcome
between-replies start h more between fewer (same first second) e = ap (λ (o : Outcome). verdict_of_reply (alone start) h o) first.outcome
between-replies start h more between fewer (refused s p door goes stopped) e =
    absurd (goes (stopped-reply start h s p door more.outcome (sym e ∙ ap (λ (o : Outcome). verdict_of_reply (alone start) h o) stopped)))

-- ---- in three descriptions

module _ (d : Description) (more between fewer : List Group) (first : Alike FewerRules more between)
    (second : Alike FewerRules between fewer) (appliances : Appliances) (start goal : End) (h : Header) where
  abbrev most : Description
  most = with_filters d d.acls more

  abbrev middle : Description
  middle = with_filters d d.acls between

  abbrev fewest : Description
  fewest = with_filters d d.acls fewer

  -- the verdict by the walk of a reply, after a request that left these
  abbrev replied : Description → Header → List Connection → List Translation → Verdict
  replied x r conns nats =
      let w = walk_of x appliances labels.Answer (record { place = start_of goal; header = r; conns = conns; nats = nats }) in
      verdict_of_reply (alone start) h w.outcome

  between-arrivals : (one two three : Walk) → IsSameWalk two one → IsSameWalk three one → (r : Option Header)
      → verdict_of_arrival fewest appliances (alone start) goal h three r ≡ verdict_of_arrival most appliances (alone start) goal h one r
      → verdict_of_arrival middle appliances (alone start) goal h two r ≡ verdict_of_arrival most appliances (alone start) goal h one r
  between-arrivals one two three alike other None e = refl
  between-arrivals one two three alike other (Some r) e =
      let m : Moment = record { place = start_of goal; header = r; conns = one.conns; nats = one.nats } in
      ap₂ (replied middle r) alike.conns alike.nats
      ∙ between-replies start h (walk_of most appliances labels.Answer m) (walk_of middle appliances labels.Answer m)
      (walk_of fewest appliances labels.Answer m)
      (nested_walks d more between fewer first second appliances labels.Answer m)
      (sym (ap₂ (replied fewest r) other.conns other.nats) ∙ e)

  -- where it arrived, by whether that is at the target
  abbrev ended_at : Description → Walk → End → Bool → Option Header → Verdict
  ended_at x request end arrived r =
      cond arrived (verdict_of_arrival x appliances (alone start) goal h request r) (verdicts.Stopped phases.Request (stops.WrongPlace end))

  between-ends : (one two three : Walk) → IsSameWalk two one → IsSameWalk three one → (end : End) (arrived : Bool) (r : Option Header)
      → ended_at fewest three end arrived r ≡ ended_at most one end arrived r
      → ended_at middle two end arrived r ≡ ended_at most one end arrived r
  between-ends one two three alike other end true r e = between-arrivals one two three alike other r e
  between-ends one two three alike other end false r e = refl

  between-outcomes : (one two three : Walk) → IsSameWalk two one → IsSameWalk three one → (o : Outcome)
      → verdict_of_request fewest appliances (alone start) goal h three o ≡ verdict_of_request most appliances (alone start) goal h one o
      → verdict_of_request middle appliances (alone start) goal h two o ≡ verdict_of_request most appliances (alone start) goal h one o
  between-outcomes one two three alike other (outcomes.Stopped s) e = refl
  between-outcomes one two three alike other (outcomes.Arrived end k) e =
      between-ends one two three alike other end (same_end end goal) (reply_of k) e

  between-requests : (one two three : Walk) → AreNestedWalks one two three
      → verdict_of_request fewest appliances (alone start) goal h three three.outcome
      ≡ verdict_of_request most appliances (alone start) goal h one one.outcome
      → verdict_of_request middle appliances (alone start) goal h two two.outcome
      ≡ verdict_of_request most appliances (alone start) goal h one one.outcome
  between-requests one two three (same first second) e =
      ap (λ (o : Outcome). verdict_of_request middle appliances (alone start) goal h two o) first.outcome
      ∙ between-outcomes one two three first second one.outcome
      (sym (ap (λ (o : Outcome). verdict_of_request fewest appliances (alone start) goal h three o) second.outcome) ∙ e)
  between-requests one two three (refused s p door goes stopped) e =
      absurd (goes (stopped-request most appliances start goal h one s p door one.outcome
      (sym e ∙ ap (λ (o : Outcome). verdict_of_request fewest appliances (alone start) goal h three o) stopped)))

  pub nested_verdicts : verdict_of fewest appliances start goal h ≡ verdict_of most appliances start goal h
      → verdict_of middle appliances start goal h ≡ verdict_of most appliances start goal h
  nested_verdicts e =
      between-requests (request_walk most appliances start h) (request_walk middle appliances start h)
      (request_walk fewest appliances start h)
      (nested_walks d more between fewer first second appliances labels.Opening
      (record { place = start_of start; header = h; conns = []; nats = [] })) e
