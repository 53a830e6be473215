-- What is asked of requests from one end to another.
use Rattle.std.specs.Prelude.{◌≡◌, List, None, Option, Some, true}
use Rattle.vpc_base.specs.Cuts.{AreAmong, CutLists}
use Rattle.vpc_base.specs.declared.headers.Header.{Header}
use Rattle.header_boxes.specs.Boxes.{low_of}
use Rattle.box_images.specs.Answers.{Answers}
use Rattle.box_images.specs.declared.images.Part.{Part}
use Rattle.vpc_laws.specs.Types.{Box5, Description, End, FarNo, Phase, Stop, Verdict}
use Rattle.vpc_model.specs.Appliances.{appliances_of}
use Rattle.vpc_model.specs.Near.{near_cuts}
use Rattle.vpc_model.specs.Sound.{is_end}
use Rattle.vpc_model.specs.Verdict.{Homes, alone, verdict_by}
use Rattle.vpc_model.specs.declared.outcomes.Verdict.TheVariants as verdicts

-- replies may arrive at the start, and at these links to the network behind it
abbrev pub homes_by : List FarNo → End → Homes
homes_by links start = record { start = start; links = links }

-- a described network, where requests start and their replies may arrive, and where requests should
pub record Asking : Type 0 where
  pub network : Description
  pub homes : Homes
  pub goal : End

abbrev pub asked_by : Description → Homes → End → Asking
asked_by d homes goal = record { network = d; homes = homes; goal = goal }

-- replies may arrive at the start alone
abbrev pub asked : Description → End → End → Asking
asked d start goal = asked_by d (alone start) goal

-- both ends are described
pub record IsAsking (a : Asking) : Type 0 where
  pub start : is_end a.network a.homes.start ≡ true
  pub goal : is_end a.network a.goal ≡ true

-- what stops a request or its reply, and in which phase; none where the request gets through
abbrev pub stop_of : Verdict → Option (Phase × Stop)
stop_of verdicts.Through = None
stop_of (verdicts.Stopped phase s) = Some (phase, s)

-- what stops a request with this header or its reply, and in which phase
abbrev pub word_of : Asking → Header → Option (Phase × Stop)
word_of a h = stop_of (verdict_by a.network (appliances_of a.network) a.homes a.goal h)

-- whether something stops a request or its reply; none where it gets through
abbrev pub whether : Option (Phase × Stop) → Option (Unit {0})
whether None = None
whether (Some told) = Some tt

abbrev pub stopped_of : Asking → Header → Option (Unit {0})
stopped_of a h = whether (word_of a h)

-- cuts that have those of the places which the first request of the sides passes, and its reply
abbrev pub AreNear : Asking → Box5 → CutLists → Type 0
AreNear a sides = AreAmong (near_cuts a.network (appliances_of a.network) a.homes.start a.goal (low_of sides))

-- what stops the requests of a part of the sides, or their replies
abbrev pub AnswersWord : Asking → Box5 → Part (Option (Phase × Stop)) → Type 0
AnswersWord a sides told = Answers (AreNear a sides) (word_of a) sides told

-- whether something stops the requests of a part of the sides, or their replies
abbrev pub AnswersStopped : Asking → Box5 → Part (Option (Unit {0})) → Type 0
AnswersStopped a sides told = Answers (AreNear a sides) (stopped_of a) sides told
