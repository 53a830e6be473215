use Rattle.std.proofs.Common.{◌≡◌, ◌∙◌, ap₂}
use Rattle.vpc_base.proofs.Results.{if_ok}
use Rattle.changed_ends.specs.Asked.{AreAllStarts, starts_among}
use Rattle.changed_ends.proofs.starts.all_starts.Goals as goal

pub returns : goal.returns
returns c =
    let before = c.args.before.now in
    let after = c.args.after.now in
    if_ok (λ v. v.items ≡ starts_among before after c.args.src c.args.goal c.as_slice.result.now c.as_slice-2.result.now) (λ v. AreAllStarts before after c.args.src c.args.goal v.items) c.starts_among.result
    (λ v is. record {
      hosts = c.in_ok-hosts.hosts.items;
      outside = c.in_ok-outside.outside.items;
      hosts_are = c.in_ok-hosts.ensures;
      outside_are = c.in_ok-outside.ensures;
      are = is ∙ ap₂ (starts_among before after c.args.src c.args.goal) c.as_slice.ensures.value c.as_slice-2.ensures.value;
    })
    c.starts_among.ensures
