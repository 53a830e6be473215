-- A request that gets through arrives at the target, and its reply at the start.
use Rattle.std.proofs.Common.{All, Bool, List, None, Option, Some, [], ap, append_assoc, codes, cond, false, option_and_then, refl, subst, sym, true, ℕ, ◌&&◌, ◌++◌, ◌∙◌, ◌≡◌}
use Rattle.std.specs.List.{AllByRecursion}
use Rattle.vpc_base.proofs.Lemmas.{All-from_recursion, and_parts}
use Rattle.vpc_base.specs.Header.{reply_of}
use Rattle.vpc_base.specs.declared.headers.Label.TheVariants as labels
use Rattle.block_report.specs.Terms.{arrived_header, header_text, hop_lines, line_end, lines_of_walk, outcome_line, reachable_text, reply_lines, word}
use Rattle.vpc_laws.proofs.Telling.{start-sound, walks_are_sound}
use Rattle.vpc_laws.specs.Sound.{IsSoundHop}
use Rattle.vpc_laws.specs.Types.{Description, End, Header, Hop, Outcome, Phase, Stop, Verdict}
use Rattle.vpc_model.specs.Terms.{Appliances, IsAccepted, Walk, alone, ending_of, hops_after, hops_of_reply, is_end, is_header, reply_hops, reply_walk, request_walk, same_end, start_of, verdict_of, verdict_of_arrival, verdict_of_reply, verdict_of_request}
use Rattle.vpc_model.specs.declared.outcomes.Outcome.TheVariants as outcomes
use Rattle.vpc_model.specs.declared.outcomes.Phase.TheVariants as phases
use Rattle.vpc_model.specs.declared.outcomes.Verdict.TheVariants as verdicts
use Rattle.vpc_model.specs.declared.stops.Stop.TheVariants as stops
use Rattle.box_walk.proofs.JourneyLemmas.{same-itself, same-only}
use Rattle.network_reach.specs.Reachable.{arrival_text, packet_line, packet_text, phase_text}

-- ---- what a request that gets through has passed

-- a walk arrives at the end, with this header
pub record ArrivesAt (w : Walk) (end : End) : Type 0 where
  pub header : Header
  pub outcome : w.outcome ≡ outcomes.Arrived end header

-- the request arrives at the target, and its reply at the start
pub record GetsThrough (d : Description) (a : Appliances) (start goal : End) (h : Header) : Type 0 where
  pub request : ArrivesAt (request_walk d a start h) goal
  pub answer : Header
  pub replied : reply_of request.header ≡ Some answer
  pub reply : ArrivesAt (reply_walk d a goal answer (request_walk d a start h)) start

tested : (b : Bool) (v other : Verdict) → (other ≡ verdicts.Through → ⊥) → cond b v other ≡ verdicts.Through → (b ≡ true) × (v ≡ verdicts.Through)
tested true v other not is = (refl, is)
tested false v other not is = absurd (not is)

stopped : (phase : Phase) (s : Stop) → verdicts.Stopped phase s ≡ verdicts.Through → ⊥
stopped phase s is = cc

returned : (start : End) (h : Header) (o : Outcome) → verdict_of_reply (alone start) h o ≡ verdicts.Through → (k : Header) × (o ≡ outcomes.Arrived start k)
returned start h (outcomes.Stopped s) is = absurd (stopped phases.Reply s is)
returned start h (outcomes.Arrived end k) is =
    let through = tested (same_end end start && is_header k (reply_of h)) verdicts.Through (verdicts.Stopped phases.Reply (stops.WrongReturn end)) (stopped phases.Reply (stops.WrongReturn end)) is in
    let parts = and_parts (same_end end start) (is_header k (reply_of h)) through.0 in
    (k, ap (λ (e : End). outcomes.Arrived e k) (same-only end start parts.0))

answered : (d : Description) (a : Appliances) (start goal : End) (h : Header) (request : Walk) (o : Option Header) → verdict_of_arrival d a (alone start) goal h request o ≡ verdicts.Through
    → (r : Header) × ((o ≡ Some r) × ArrivesAt (reply_walk d a goal r request) start)
answered d a start goal h request None is = absurd (stopped phases.Reply (stops.NoReply goal) is)
answered d a start goal h request (Some r) is =
    let back = returned start h (let reply = reply_walk d a goal r request in reply.outcome) is in
    (r, (refl, record { header = back.0; outcome = back.1 }))

arrived : (d : Description) (a : Appliances) (start goal : End) (h : Header) (request : Walk) (o : Outcome) → request.outcome ≡ o → verdict_of_request d a (alone start) goal h request o ≡ verdicts.Through
    → (here : ArrivesAt request goal) × ((r : Header) × ((reply_of here.header ≡ Some r) × ArrivesAt (reply_walk d a goal r request) start))
arrived d a start goal h request (outcomes.Stopped s) at is = absurd (stopped phases.Request s is)
arrived d a start goal h request (outcomes.Arrived end k) at is =
    let through = tested (same_end end goal) (verdict_of_arrival d a (alone start) goal h request (reply_of k)) (verdicts.Stopped phases.Request (stops.WrongPlace end)) (stopped phases.Request (stops.WrongPlace end)) is in
    (record { header = k; outcome = at ∙ ap (λ (e : End). outcomes.Arrived e k) (same-only end goal through.0) }, answered d a start goal h request (reply_of k) through.1)

gets-through : (d : Description) (a : Appliances) (start goal : End) (h : Header) → verdict_of d a start goal h ≡ verdicts.Through → GetsThrough d a start goal h
gets-through d a start goal h is =
    let request = request_walk d a start h in
    let parts = arrived d a start goal h request request.outcome refl is in
    record { request = parts.0; answer = parts.1.0; replied = parts.1.1.0; reply = parts.1.1.1 }

pub nothing-stops : (d : Description) (v : Verdict) → ending_of d v ≡ None → v ≡ verdicts.Through
nothing-stops d verdicts.Through is = refl
nothing-stops d (verdicts.Stopped phase s) is = cc

-- ---- its hops

then-first : (b : Bool) (xs ys : List Hop) → b ≡ true → cond b xs ys ≡ xs
then-first true xs ys is = refl
then-first false xs ys is = absurd (cc)

reply-hops : (d : Description) (a : Appliances) (start goal : End) (h : Header) (x : GetsThrough d a start goal h)
    → reply_hops d a start goal h ≡ (let w = reply_walk d a goal x.answer (request_walk d a start h) in w.hops)
reply-hops d a start goal h x =
    let request = request_walk d a start h in
    ap (hops_after d a goal request) x.request.outcome
    ∙ (then-first (same_end goal goal) (hops_of_reply d a goal request (reply_of x.request.header)) _ (same-itself goal)
    ∙ ap (hops_of_reply d a goal request) x.replied)

-- all hops are sound
request-sound : (d : Description) (a : Appliances) (start : End) (h : Header) → IsAccepted d → is_end d start ≡ true → AllByRecursion (IsSoundHop d) (let w = request_walk d a start h in w.hops)
request-sound d a start h accepted is = (walks_are_sound d a labels.Opening (record { place = start_of start; header = h; conns = []; nats = [] }) accepted (start-sound d start is)).0

reply-sound : (d : Description) (a : Appliances) (goal : End) (r : Header) (request : Walk) → IsAccepted d → is_end d goal ≡ true → AllByRecursion (IsSoundHop d) (let w = reply_walk d a goal r request in w.hops)
reply-sound d a goal r request accepted is =
    (walks_are_sound d a labels.Answer (record { place = start_of goal; header = r; conns = request.conns; nats = request.nats }) accepted (start-sound d goal is)).0

-- in a network, whose description this is
in-network : (d n : Description) (hops walked : List Hop) → n ≡ d → hops ≡ walked → AllByRecursion (IsSoundHop d) walked → All (IsSoundHop n) hops
in-network d n hops walked same are sound =
    All-from_recursion (IsSoundHop n) hops
    (subst (λ (x : Description). AllByRecursion (IsSoundHop x) hops) (sym same) (subst (AllByRecursion (IsSoundHop d)) (sym are) sound))

pub request_hops_are_sound : (d n : Description) (a : Appliances) (start : End) (h : Header) (hops : List Hop) → IsAccepted n → n ≡ d → is_end d start ≡ true
    → hops ≡ (let w = request_walk d a start h in w.hops) → All (IsSoundHop n) hops
request_hops_are_sound d n a start h hops accepted same there are =
    in-network d n hops _ same are (request-sound d a start h (subst IsAccepted same accepted) there)

pub reply_hops_are_sound : (d n : Description) (a b : Appliances) (start goal : End) (h : Header) (hops : List Hop) → IsAccepted n → n ≡ d → a ≡ b → is_end d goal ≡ true
    → ending_of d (verdict_of d b start goal h) ≡ None → hops ≡ reply_hops d a start goal h → All (IsSoundHop n) hops
reply_hops_are_sound d n a b start goal h hops accepted same with there through are =
    let x = gets-through d b start goal h (nothing-stops d (verdict_of d b start goal h) through) in
    in-network d n hops _ same (are ∙ (ap (λ (y : Appliances). reply_hops d y start goal h) with ∙ reply-hops d b start goal h x))
    (reply-sound d b goal x.answer (request_walk d b start h) (subst IsAccepted same accepted) there)

-- ---- its text

arrival-lines : (d : Description) (w : Walk) (end : End) → ArrivesAt w end → arrival_text d w.hops end ≡ lines_of_walk d w
arrival-lines d w end x = ap (λ (o : Outcome). hop_lines d w.hops ++ outcome_line d o) (sym x.outcome)

reply-lines : (d : Description) (a : Appliances) (start goal : End) (h : Header) (x : GetsThrough d a start goal h)
    → arrival_text d (reply_hops d a start goal h) start ≡ (let w = request_walk d a start h in reply_lines d a goal w (option_and_then reply_of (arrived_header w.outcome)))
reply-lines d a start goal h x =
    let request = request_walk d a start h in
    ap (λ (l : List Hop). arrival_text d l start) (reply-hops d a start goal h x)
    ∙ (arrival-lines d (reply_walk d a goal x.answer request) start x.reply
    ∙ sym (ap (λ (o : Outcome). reply_lines d a goal request (option_and_then reply_of (arrived_header o))) x.request.outcome ∙ ap (reply_lines d a goal request) x.replied))

-- the text by its two walks
abbrev by-walks : Header → List ℕ → List ℕ → List ℕ
by-walks h request reply =
    (codes "reachable" ++ line_end ++ (codes "packet" ++ word (header_text h) ++ line_end)) ++ (codes "request" ++ line_end ++ request) ++ (codes "reply" ++ line_end ++ reply)

text-is : (d : Description) (a : Appliances) (start goal : End) (h : Header) → GetsThrough d a start goal h
    → packet_text h ++ phase_text d (codes "request") (let w = request_walk d a start h in w.hops) goal ++ phase_text d (codes "reply") (reply_hops d a start goal h) start ≡ reachable_text d a start goal h
unfolding packet_line packet_text phase_text
text-is d a start goal h x =
    let request = request_walk d a start h in
    ap (λ (t : List ℕ). by-walks h t (arrival_text d (reply_hops d a start goal h) start)) (arrival-lines d request goal x.request)
    ∙ ap (by-walks h (lines_of_walk d request)) (reply-lines d a start goal h x)

-- what is printed of hops in a network, with the described appliances
abbrev printed : Description → Description → Header → List Hop → List Hop → End → End → List ℕ
printed d n h request reply goal start = packet_text h ++ phase_text n (codes "request") request goal ++ phase_text n (codes "reply") reply start

pub reachable_is : (d n : Description) (a b : Appliances) (start goal : End) (h : Header) (request reply : List Hop) → n ≡ d → a ≡ b
    → ending_of d (verdict_of d b start goal h) ≡ None
    → request ≡ (let w = request_walk d a start h in w.hops) → reply ≡ reply_hops d a start goal h
    → packet_text h ++ phase_text n (codes "request") request goal ++ phase_text n (codes "reply") reply start ≡ reachable_text d b start goal h
reachable_is d n a b start goal h request reply same with through out back =
    ap (λ (x : Description). printed d x h request reply goal start) same
    ∙ (ap (λ (l : List Hop). printed d d h l reply goal start) (out ∙ ap (λ (y : Appliances). let w = request_walk d y start h in w.hops) with)
    ∙ (ap (λ (l : List Hop). printed d d h (let w = request_walk d b start h in w.hops) l goal start) (back ∙ ap (λ (y : Appliances). reply_hops d y start goal h) with)
    ∙ text-is d b start goal h (gets-through d b start goal h (nothing-stops d (verdict_of d b start goal h) through))))

-- parts that are added one after the other
pub printed_is : (old one two packet request reply whole : List ℕ) → one ≡ old ++ packet → two ≡ one ++ request → packet ++ request ++ reply ≡ whole → two ++ reply ≡ old ++ whole
printed_is old one two packet request reply whole first second is =
    ap (λ (t : List ℕ). t ++ reply) (second ∙ (ap (λ (t : List ℕ). t ++ request) first ∙ append_assoc old packet request))
    ∙ (append_assoc old (packet ++ request) reply ∙ ap (λ (t : List ℕ). old ++ t) is)
