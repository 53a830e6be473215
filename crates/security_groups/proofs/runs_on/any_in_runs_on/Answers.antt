use Rattle.std.proofs.Common.{arith, List, ◌+◌, get_or, subst, sym}
use Rattle.box_images.specs.Answers.{Answers}
use Rattle.box_images.specs.Images.{header_at}
use Rattle.security_groups.proofs.RunsOn.{IsInRuns, ports-above-rest, runs_allow, runs_ended, runs_next, runs_passed}
use Rattle.security_groups.proofs.runs_on.any_in_runs_on.Goals as goal
use Rattle.security_groups.proofs.runs_on.any_in_runs_on.Goals.{then-q-begun+else-allowed, else-q-begun}
use Rattle.security_groups.specs.Rules.{DivideRules, any_allows}
use Rattle.security_groups.specs.declared.rules.Rule.{Rule}

pub loop-k-init : goal.loop-k-init
loop-k-init c =
    runs_ended c.args.lists.now c.args.members.now c.args.dir c.args.begun.now.rules.now c.args.begun.now.lasts.now c.args.i.now c.args.q c.args.begun.now.ended c.requires.valid c.requires.walk c.requires.above c.requires.runs c.requires.ended
    c.args.begun.now.ended (omega arith)

pub loop-k-preserved : goal.loop-k-preserved
loop-k-preserved c =
    let lists = c.args.lists.now in
    let members = c.args.members.now in
    let rules = c.args.begun.now.rules.now in
    let dir = c.args.dir in
    let i = c.args.i.now in
    let k = c.loop-k.k in
    let rest = c.loop-k.rest in
    elim c.if-q-begun.branch [
      | then-q-begun+else-allowed w ↦
          let x = w.any_in_on-allowed.result in
          subst (IsInRuns lists members dir rules i (k + 1)) (sym w.rest-is)
          (runs_next lists members dir rules i rest w.within-rest.result k x w.if-allowed.false w.within-rest.ensures.image w.within-rest.ensures.valid w.within-rest.ensures.kind
          c.loop-k.invariant
          (subst (λ (rs : List Rule). Answers (DivideRules lists members rs) (λ h. any_allows lists members dir rs (header_at rest h)) rest.part x) w.run_of.ensures w.any_in_on-allowed.ensures))
      | else-q-begun w ↦
          let last = get_or c.args.begun.now.lasts.now k 0 in
          subst (IsInRuns lists members dir rules i (k + 1)) (sym w.rest-is)
          (runs_passed lists members dir rules i rest k c.args.q last c.requires.above w.if-q-begun.false (c.requires.runs.ends k c.loop-k-test.true) c.loop-k.invariant)
    ]

pub returns-then-allowed : goal.returns-then-allowed
returns-then-allowed c =
    let lists = c.args.lists.now in
    let members = c.args.members.now in
    let rules = c.args.begun.now.rules.now in
    let dir = c.args.dir in
    let k = c.loop-k.k in
    let rest = c.loop-k.rest in
    let x = c.any_in_on-allowed.result in
    runs_allow lists members dir rules c.args.i.now rest k x c.if-allowed.true c.loop-k.invariant
    (subst (λ (rs : List Rule). Answers (DivideRules lists members rs) (λ h. any_allows lists members dir rs (header_at rest h)) rest.part x) c.run_of.ensures c.any_in_on-allowed.ensures)

pub any_in_on-allowed-requires-clause-above : goal.any_in_on-allowed-requires-clause-above
any_in_on-allowed-requires-clause-above c =
    let rest = c.loop-k.rest in
    ports-above-rest c.args.i.now rest c.args.q c.requires.above c.loop-k.invariant.image c.loop-k.invariant.left.inside.within
