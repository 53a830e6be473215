use Rattle.std.proofs.Common.{◌<◌, ◌∙◌, Some, ap, arith, length, option_map, rules, sym, ℕ}
use Rattle.vpc_model.specs.declared.numbers.EniNo.{EniNo}
use Rattle.reference_check.specs.Hosts.{is_assigned_in}
use Rattle.reference_check.proofs.Maps.{found_number}
use Rattle.reference_check.proofs.Owners.{host-found, host-missing, owner-within}
use Rattle.reference_check.proofs.hosts.Hosts.assigned.Goals as goal

pub index-requires : goal.index-requires
index-requires c =
    let within : c.in-Some.k < length c.args.self.now.owners.items = owner-within c.args.d.now c.args.self.now.keys c.args.self.now.owners.items c.in-Some.k c.requires.hosts.addresses c.requires.hosts.owners c.in-Some.ensures.within in
    search rules

pub overflow_cast-result : goal.overflow_cast-result
overflow_cast-result c =
    let small : c.args.address < 4294967296 = omega arith in
    let found = host-found c.args.d.now c.args.self.now.keys c.args.self.now.owners.items c.args.v c.args.address c.in-Some.k c.index.result.now c.requires.hosts.addresses c.requires.hosts.owners c.requires.differ c.requires.within small (sym c.in-Some.ensures.number) in
    let row = found_number (is_assigned_in c.args.d.now c.args.v c.args.address) c.args.d.now.interfaces c.index.result.now (found ∙ ap (λ (n : ℕ). Some n) (sym c.index.ensures)) in
    let within : c.index.result.now < length c.args.d.now.interfaces = row.within in
    omega arith

pub returns-in-Some : goal.returns-in-Some
returns-in-Some c =
    let small : c.args.address < 4294967296 = omega arith in
    let found = host-found c.args.d.now c.args.self.now.keys c.args.self.now.owners.items c.args.v c.args.address c.in-Some.k c.index.result.now c.requires.hosts.addresses c.requires.hosts.owners c.requires.differ c.requires.within small (sym c.in-Some.ensures.number) in
    let numbered : ℕ → EniNo = λ n. record { 0 = n } in
    ap (λ (n : ℕ). Some (numbered n)) c.index.ensures ∙ ap (option_map numbered) (sym found)

pub returns-in-None : goal.returns-in-None
returns-in-None c =
    let small : c.args.address < 4294967296 = omega arith in
    let missing = host-missing c.args.d.now c.args.self.now.keys c.args.v c.args.address c.requires.hosts.addresses c.requires.differ c.requires.within small (sym c.in-None.ensures.number) in
    let numbered : ℕ → EniNo = λ n. record { 0 = n } in
    ap (option_map numbered) (sym missing)
