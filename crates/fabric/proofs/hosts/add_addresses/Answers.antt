use Rattle.std.proofs.Common.{◌<◌, ◌^◌, None, Option, arith, get_or, ℕ}
use Rattle.std.proofs.lemmas.List.{get_or_default}
use Rattle.vpc_base.proofs.Steps.{All-one_more}
use Rattle.fabric.proofs.HostRows.{addresses_next}
use Rattle.fabric.proofs.hosts.add_addresses.Goals as goal

pub loop-address-preserved : goal.loop-address-preserved
loop-address-preserved c =
    let xs = c.args.addresses.now in
    let k = c.loop-address.address-index in
    let x = get_or xs k (0, None) in
    let read = get_or_default xs k (0, None) x (omega arith) in (
      addresses_next c.args.v c.args.i c.args.entries.now.items c.loop-address.entries.items c.push.new.self.items xs k x c.entry_of.result (omega arith) read
          c.loop-address.invariant.0 c.in_ok-push.ensures.items c.entry_of.ensures.entry,
      All-one_more (λ (y : ℕ × Option ℕ). y.0 < 2 ^ 32) xs k x (omega arith) read c.loop-address.invariant.1 c.entry_of.ensures.fits,
    )
