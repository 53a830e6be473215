use Rattle.std.proofs.Common.{◌++◌, ◌≡◌, ◌∙◌, List, Option, ap, map, sym, ℕ}
use Rattle.vpc_base.proofs.Results.{if_ok}
use Rattle.prefix_text.specs.Block.{Block}
use Rattle.address_sets.specs.Runs.{is_in, run_of}
use Rattle.reference_check.specs.Claimed.{claim_of, own_claims, run_at}
use Rattle.reference_check.specs.Taken.{AreTaken}
use Rattle.reference_check.proofs.OwnClaims.{own-free, own_runs, taken-own}
use Rattle.reference_check.proofs.clashes.take_own.Goals as goal

pub take_runs-requires-clause-free : goal.take_runs-requires-clause-free
take_runs-requires-clause-free c = λ a has taken.
    let e = c.args.interface.now in
    let items = c.in_ok-runs.ensures
    ∙ ap (λ (xs : List (ℕ × Option ℕ)). map (λ x. run_at x.0) xs ++ map run_of c.as_slice-2.result.now) c.as_slice.ensures
    ∙ ap (λ (bs : List Block). map (λ x. run_at x.0) e.addresses ++ map run_of bs) c.as_slice-2.ensures in
    let same : is_in a c.runs.result.now ≡ is_in a (own_runs e.addresses e.prefixes) = ap (is_in a) c.runs.ensures.same ∙ c.in_ok-set.ensures a ∙ ap (is_in a) items in
    own-free c.args.taken.now c.args.v e.addresses e.prefixes c.requires.alone c.requires.blocks a (sym same ∙ has) taken

pub returns : goal.returns
returns c = λ claims are.
    let e = c.args.interface.now in
    let d = c.args.d.now in
    let vpc = c.args.vpc.now in
    let new = c.take_runs.new.taken in
    let rs = c.runs.result.now in
    let items = c.in_ok-runs.ensures
    ∙ ap (λ (xs : List (ℕ × Option ℕ)). map (λ x. run_at x.0) xs ++ map run_of c.as_slice-2.result.now) c.as_slice.ensures
    ∙ ap (λ (bs : List Block). map (λ x. run_at x.0) e.addresses ++ map run_of bs) c.as_slice-2.ensures in
    let same : (a : ℕ) → is_in a rs ≡ is_in a (own_runs e.addresses e.prefixes) = λ a. ap (is_in a) c.runs.ensures.same ∙ c.in_ok-set.ensures a ∙ ap (is_in a) items in
    if_ok (λ u. AreTaken d (claims ++ map (claim_of vpc) rs) new) (λ u. AreTaken d (claims ++ own_claims vpc e) new) c.take_runs.result
    (λ u taken. taken-own d claims new vpc e.addresses e.prefixes rs are.some same taken) (c.take_runs.ensures claims are)
