use Rattle.std.proofs.Common.{◌++◌, ◌≡◌, ◌∙◌, Err, List, None, Option, ap, arith, rules, subst, sym, take, ℕ}
use Rattle.std.proofs.lemmas.List.{append-nil, drop_all, map_more}
use Rattle.std.proofs.lemmas.List.Elements.{All-more}
use Rattle.vpc_base.proofs.Steps.{All-whole}
use Rattle.vpc_model.specs.Accepted.{Claim, address_clashes, first_cause}
use Rattle.reference_check.specs.Claimed.{alone, alone_in, run_at}
use Rattle.reference_check.specs.Taken.{AreTaken, IsFree}
use Rattle.reference_check.specs.Told.{IsTold, Tells}
use Rattle.reference_check.proofs.Adding.{taken-none}
use Rattle.reference_check.proofs.OwnClaims.{addresses-next, addresses-told}
use Rattle.reference_check.proofs.clashes.check_addresses.Goals as goal

pub loop-address-init : goal.loop-address-init
loop-address-init c = record {
  own = taken-none c.args.d.now c.new-own.result c.new-own.ensures;
  free = λ k d within. absurd (omega arith);
  rest = λ claims are. ap (λ (cs : List Claim). address_clashes cs (alone_in c.args.vpc.now c.args.addresses.now)) (append-nil claims);
}

pub loop-address-preserved : goal.loop-address-preserved
loop-address-preserved c =
    let i = c.loop-address.address-index in
    let xs = c.args.addresses.now in
    let vpc = c.args.vpc.now in
    let inv = c.loop-address.invariant in
    let within = c.loop-address-test.true in
    record {
      own = subst (λ cs. AreTaken c.args.d.now cs c.add_own.new.own) (sym (map_more (λ (x : ℕ × Option ℕ). alone (vpc, x.0)) xs i (0, None) within))
          (c.in_ok-add_own.ensures.added (alone_in vpc (take i xs)) inv.own);
      free = All-more (λ x. IsFree c.args.taken.now c.args.v (run_at x.0)) xs i (0, None) within inv.free c.in_ok-add_own.ensures.free;
      rest = λ claims are.
          sym (addresses-next vpc claims xs i (0, None) within (c.in_ok-add_own.ensures.told claims (alone_in vpc (take i xs)) are inv.own)) ∙ inv.rest claims are;
    }

pub returns-in_err-add_own-clause-told : goal.returns-in_err-add_own-clause-told
returns-in_err-add_own-clause-told c = λ claims are.
    let i = c.loop-address.address-index in
    let xs = c.args.addresses.now in
    let vpc = c.args.vpc.now in
    let inv = c.loop-address.invariant in
    let cause = c.in_err-add_own.field-0.0 in
    let e : c.from_residual.result ≡ Err cause = search rules in
    subst (Tells (address_clashes claims (alone_in vpc xs))) (sym e)
    (subst (λ causes. IsTold (first_cause causes) cause) (inv.rest claims are)
    (addresses-told vpc claims xs i (0, None) cause c.loop-address-test.true (c.in_err-add_own.ensures.told claims (alone_in vpc (take i xs)) are inv.own)))

pub returns-clause-told : goal.returns-clause-told
returns-clause-told c = λ claims are.
    let i = c.loop-address.address-index in
    let xs = c.args.addresses.now in
    let vpc = c.args.vpc.now in
    sym (c.loop-address.invariant.rest claims are)
    ∙ ap (λ (ys : List (ℕ × Option ℕ)). address_clashes (claims ++ alone_in vpc (take i xs)) (alone_in vpc ys)) (drop_all i xs c.loop-address-test.false)

pub returns-clause-free : goal.returns-clause-free
returns-clause-free c =
    All-whole (λ x. IsFree c.args.taken.now c.args.v (run_at x.0)) c.args.addresses.now c.loop-address.address-index c.loop-address-test.false c.loop-address.invariant.free
