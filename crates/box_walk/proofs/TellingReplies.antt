-- What is told of replies, by what is told of those of a body.
use Rattle.std.proofs.Common.{◌≡◌, ◌∙◌, ◌&&◌, Bool, List, None, Option, Some, ap, cond, false, sym, true, ℕ}
use Rattle.box_images.specs.Terms.{header_at}
use Rattle.box_images.specs.declared.images.Image.{Image}
use Rattle.box_images.specs.declared.images.Part.{Part}
use Rattle.box_steps.specs.Terms.{moment_at}
use Rattle.box_steps.specs.declared.moment.BoxMoment.{BoxMoment}
use Rattle.conn_tracking.specs.OnImages.{TellsReply}
use Rattle.cut_laws.proofs.Lemmas.{among_through}
use Rattle.cut_laws.specs.Dividing.{DivideAddresses}
use Rattle.header_boxes.specs.Terms.{low_of}
use Rattle.vpc_base.specs.Terms.{reply_of}
use Rattle.vpc_base.specs.declared.headers.Label.TheVariants as labels
use Rattle.vpc_laws.specs.Types.{Description, End, Header, Outcome, Phase, Stop}
use Rattle.vpc_model.specs.Terms.{Appliances, Homes, addresses_in, cuts_of_hops, is_header, is_home, standing_cuts, verdict_of_reply, walk_of}
use Rattle.vpc_model.specs.declared.outcomes.Phase.TheVariants as phases
use Rattle.vpc_model.specs.declared.outcomes.Verdict.TheVariants as verdicts
use Rattle.vpc_model.specs.declared.stops.Stop.TheVariants as stops
use Rattle.box_walk.specs.Terms.{DivideReply, IsWalkOn, Tells, stop_of, word_of_answer, word_of_return}
use Rattle.box_walk.specs.declared.walks.Ending.TheVariants as endings
use Rattle.box_walk.proofs.TellingAll.{addresses_divided, standing_among, tells_after, tells_by}

-- at home, by whether they are the replies of the requests
abbrev returned : Bool → End → Option (Phase × Stop)
returned b end = stop_of (cond b verdicts.Through (verdicts.Stopped phases.Reply (stops.WrongReturn end)))

returns : (addresses : List ℕ) (homes : Homes) (end : End) (old new : BoxMoment) (sent : Image) (x : Part Bool) (b : Bool) → is_home homes end ≡ true → ((h : Header) → header_at sent h ≡ h)
    → TellsReply addresses old.header sent x → new.header.part ≡ x.body → x.told ≡ b
    → Tells (DivideAddresses addresses) (word_of_return homes end old) old new (returned b end)
returns addresses homes end old new sent x b there same k over is =
    tells_by (DivideAddresses addresses) (DivideAddresses addresses) (λ h. is_header (header_at old.header h) (reply_of (header_at sent h))) (word_of_return homes end old) old new x (returned b end) (λ cuts e. e) over
    (λ h e.
    ap (λ (v : Bool). returned v end) (sym is ∙ e)
    ∙ ap (λ (g : Header). returned (is_header (header_at old.header h) (reply_of g)) end) (same h)
    ∙ sym (ap (λ (v : Bool). stop_of (cond (v && is_header (header_at old.header h) (reply_of h)) verdicts.Through (verdicts.Stopped phases.Reply (stops.WrongReturn end)))) there))
    k

pub right_return : (addresses : List ℕ) (homes : Homes) (end : End) (old new : BoxMoment) (sent : Image) (x : Part Bool) → is_home homes end ≡ true → ((h : Header) → header_at sent h ≡ h)
    → TellsReply addresses old.header sent x → new.header.part ≡ x.body → x.told ≡ true → Tells (DivideAddresses addresses) (word_of_return homes end old) old new None
right_return addresses homes end old new sent x there same k over is = returns addresses homes end old new sent x true there same k over is

pub other_return : (addresses : List ℕ) (homes : Homes) (end : End) (old new : BoxMoment) (sent : Image) (x : Part Bool) → is_home homes end ≡ true → ((h : Header) → header_at sent h ≡ h)
    → TellsReply addresses old.header sent x → new.header.part ≡ x.body → x.told ≡ false
    → Tells (DivideAddresses addresses) (word_of_return homes end old) old new (Some (phases.Reply, stops.WrongReturn end))
other_return addresses homes end old new sent x there same k over is = returns addresses homes end old new sent x false there same k over is

-- stopped on the way
pub reply_stops : (d : Description) (appliances : Appliances) (homes : Homes) (old new : BoxMoment) (s : Stop)
    → IsWalkOn d appliances labels.Answer old new (endings.Stopped s)
    → Tells (DivideReply d appliances old) (word_of_answer d appliances homes old) old new (Some (phases.Reply, s))
reply_stops d appliances homes old new s w = record {
  told = λ h inside. sym (ap (λ (o : Outcome). stop_of (verdict_of_reply homes h o)) (w.walk h inside).outcome);
  body = w.body;
  aligned = w.aligned;
}

-- arrived
pub reply_arrives : (d : Description) (appliances : Appliances) (homes : Homes) (end : End) (old mid new : BoxMoment) (told : Option (Phase × Stop))
    → IsWalkOn d appliances labels.Answer old mid (endings.Arrived end)
    → Tells (DivideAddresses (addresses_in d)) (word_of_return homes end mid) mid new told
    → Tells (DivideReply d appliances old) (word_of_answer d appliances homes old) old new told
reply_arrives d appliances homes end old mid new told w k =
    let low = moment_at (low_of old.header.part) old in
    let walk = walk_of d appliances labels.Answer low in
    tells_after d appliances labels.Answer (DivideReply d appliances old) (DivideAddresses (addresses_in d)) (word_of_answer d appliances homes old) (word_of_return homes end mid) old mid new (endings.Arrived end) told w
    (λ cuts e. (e, addresses_divided d cuts (among_through (standing_cuts d) (cuts_of_hops d walk.hops) cuts (standing_among d appliances labels.Answer low) e)))
    (λ h inside. ap (λ (o : Outcome). stop_of (verdict_of_reply homes h o)) (w.walk h inside).outcome)
    k
