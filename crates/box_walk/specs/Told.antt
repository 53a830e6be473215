-- What is told of the packets of a moment, by the part of a verdict that is still ahead of them.
use Rattle.std.specs.Prelude.{◌≡◌, [], List, Option}
use Rattle.vpc_base.specs.Cuts.{AreAmong, CutLists}
use Rattle.vpc_base.specs.declared.headers.Header.{Header}
use Rattle.vpc_base.specs.declared.headers.Label.TheVariants as labels
use Rattle.header_boxes.specs.Boxes.{low_of}
use Rattle.box_images.specs.Answers.{Answers}
use Rattle.box_images.specs.Images.{header_at}
use Rattle.box_steps.specs.Cuts.{Standing}
use Rattle.box_steps.specs.Moments.{moment_at, translations_at}
use Rattle.box_steps.specs.declared.moment.BoxMoment.{BoxMoment}
use Rattle.conn_tracking.specs.OnImages.{connections_at}
use Rattle.vpc_laws.specs.Types.{Description, End, Hop, Phase, Stop}
use Rattle.vpc_model.specs.Appliances.{Appliances}
use Rattle.vpc_model.specs.Near.{cuts_of_hops}
use Rattle.vpc_model.specs.Place.{start_of}
use Rattle.vpc_model.specs.Step.Words.{Moment}
use Rattle.vpc_model.specs.Verdict.{Homes, hops_after, verdict_of_reply, verdict_of_request}
use Rattle.vpc_model.specs.Walk.{Walk, ended, walk_of}
use Rattle.vpc_model.specs.declared.outcomes.Outcome.TheVariants as outcomes
use Rattle.box_walk.specs.Asking.{stop_of}

-- a word, of all packets of the later moment, whose part is a body of the earlier one's
abbrev pub Tells : (CutLists → Type 0) → (Header → Option (Phase × Stop)) → BoxMoment → BoxMoment → Option (Phase × Stop) → Type 0
Tells divide_enough word old new told = Answers divide_enough word old.header.part (record { body = new.header.part; told = told })

-- whether something stops them
abbrev pub TellsWhether : (CutLists → Type 0) → (Header → Option (Unit {0})) → BoxMoment → BoxMoment → Option (Unit {0}) → Type 0
TellsWhether divide_enough stopped old new told = Answers divide_enough stopped old.header.part (record { body = new.header.part; told = told })

-- ---- requests at the start

-- with nothing remembered
abbrev pub request_at : End → Header → Moment
request_at start h = record { place = start_of start; header = h; conns = []; nats = [] }

-- all packets of the moment are such requests
abbrev pub AreRequests : End → BoxMoment → Type 0
AreRequests start m = (h : Header) → moment_at h m ≡ request_at start h

-- ---- requests that have arrived at an end

-- what their walks have left, without the hops
abbrev pub arrival_at : End → BoxMoment → Header → Walk
arrival_at end m h = ended [] (outcomes.Arrived end (header_at m.header h)) (connections_at h m.conns.items) (translations_at h m.nats.items)

abbrev pub word_of_arrival : Description → Appliances → Homes → End → End → BoxMoment → Header → Option (Phase × Stop)
word_of_arrival d appliances homes goal end m h =
    let w = arrival_at end m h in
    stop_of (verdict_of_request d appliances homes goal h w w.outcome)

-- the hops of the low corner's reply
abbrev pub low_reply_hops : Description → Appliances → End → End → BoxMoment → List Hop
low_reply_hops d appliances goal end m =
    let w = arrival_at end m (low_of m.header.part) in
    hops_after d appliances goal w w.outcome

-- the standing cuts are among these, and those at the places of the low corner's reply
pub record DivideArrival (d : Description) (appliances : Appliances) (goal end : End) (m : BoxMoment) (cuts : CutLists) : Type 0 where
  pub standing : Standing d cuts
  pub reply : AreAmong (cuts_of_hops d (low_reply_hops d appliances goal end m)) cuts

-- ---- replies

-- the walk of one of them
abbrev pub reply_of_moment : Description → Appliances → BoxMoment → Header → Walk
reply_of_moment d appliances m h = walk_of d appliances labels.Answer (moment_at h m)

abbrev pub word_of_answer : Description → Appliances → Homes → BoxMoment → Header → Option (Phase × Stop)
word_of_answer d appliances homes m h =
    let w = reply_of_moment d appliances m h in
    stop_of (verdict_of_reply homes h w.outcome)

-- the cuts at the places of the low corner's walk are among these
abbrev pub DivideReply : Description → Appliances → BoxMoment → CutLists → Type 0
DivideReply d appliances m cuts =
    let w = reply_of_moment d appliances m (low_of m.header.part) in
    AreAmong (cuts_of_hops d w.hops) cuts

-- of replies that have arrived at an end
abbrev pub word_of_return : Homes → End → BoxMoment → Header → Option (Phase × Stop)
word_of_return homes end m h = stop_of (verdict_of_reply homes h (outcomes.Arrived end (header_at m.header h)))
