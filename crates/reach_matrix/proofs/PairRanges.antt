-- The ranges of a pair.
use Rattle.std.proofs.Common.{Err, IfOk, None, Ok, Result, arith, refl, subst, sym, ℕ, ◌≡◌, ◌≤◌}
use Rattle.std.specs.Global.{Vec}
use Rattle.box_walk.specs.Asking.{Asking, asked, stop_of, stopped_of, whether}
use Rattle.header_boxes.specs.Boxes.{IsValid}
use Rattle.ordered_cover.specs.Ports.{AreOpenPorts}
use Rattle.vpc_laws.specs.Types.{Box5, Description, EniNo, Verdict}
use Rattle.vpc_model.specs.Terms.{appliances_of, ending_of, verdict_of}
use Rattle.vpc_model.specs.declared.outcomes.Verdict.TheVariants as verdicts
use Rattle.vpc_model.specs.declared.places.End.TheVariants as places
use Rattle.network_reach.specs.Reached.{meaning_in}
use Rattle.reach_matrix.specs.Pairs.{address_of, query_between, requests_between}
use Rattle.reach_matrix.specs.Ranges.{ArePairRanges}
use Rattle.reach_matrix.proofs.PortLemmas.{open_by}

unstopped : (d : Description) (v : Verdict) → whether (stop_of v) ≡ None → ending_of d v ≡ None
unstopped d verdicts.Through e = refl
unstopped d (verdicts.Stopped phase s) e = absurd cc

unended : (d : Description) (v : Verdict) → ending_of d v ≡ None → whether (stop_of v) ≡ None
unended d verdicts.Through e = refl
unended d (verdicts.Stopped phase s) e = absurd cc

-- what a search finds by whether anything stops requests
pub pair_ranges : {E : Type 0} (d : Description) (ports : ℕ × ℕ) (pair : EniNo × EniNo) (a : Asking) (sides : Box5) (r : Result (Vec (ℕ × ℕ)) E)
    → a ≡ asked d (places.Interface pair.0) (places.Interface pair.1) → sides ≡ requests_between (address_of d pair.0) (address_of d pair.1) ports
    → IfOk r (λ v. AreOpenPorts (stopped_of a) sides v.items) → IfOk r (λ v. ArePairRanges d ports pair v.items)
pair_ranges d ports pair a sides (Ok v) is box found =
    let query = query_between d pair ports in
    let verdict = verdict_of d (appliances_of d) query.start query.goal in
    open_by (stopped_of (asked d query.start query.goal)) (meaning_in d query) query.sides v.items (λ h. unstopped d (verdict h)) (λ h. unended d (verdict h))
    (subst (λ (b : Box5). AreOpenPorts (stopped_of (asked d query.start query.goal)) b v.items) box (subst (λ (b : Asking). AreOpenPorts (stopped_of b) sides v.items) is found))
pair_ranges d ports pair a sides (Err e) is box found = tt

pub valid_between : (src dst : ℕ) (ports : ℕ × ℕ) (sides : Box5) → ports.0 ≤ ports.1 → sides ≡ requests_between src dst ports → IsValid sides
valid_between src dst ports sides some is =
    subst IsValid (sym is) (record { proto = omega arith; src = omega arith; dst = omega arith; p = omega arith; q = some })
