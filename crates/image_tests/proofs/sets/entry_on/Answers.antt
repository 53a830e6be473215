use Rattle.std.proofs.Common.{List, ap, map, subst, ◌∙◌, ℕ}
use Rattle.number_tables.specs.Entries.{value_at}
use Rattle.number_tables.specs.Keys.{key_of}
use Rattle.number_tables.specs.Next.{IsNext}
use Rattle.image_tests.proofs.Stretches.{entry-answers}
use Rattle.image_tests.proofs.sets.entry_on.Goals as goal

pub key_stretch-last-requires : goal.key_stretch-last-requires
key_stretch-last-requires g c =
    let keys : List ℕ = map (λ e. e.key) c.args.table.now in
    (keys, subst (λ k. IsNext keys k c.next_key.result) c.key_of-key.ensures c.next_key.ensures)

pub up_to-requires-clause-ordered : goal.up_to-requires-clause-ordered
up_to-requires-clause-ordered g c =
    let keys : List ℕ = map (λ e. e.key) c.args.table.now in
    let next : IsNext keys (key_of c.args.high c.low_on-low.result) c.next_key.result = subst (λ k. IsNext keys k c.next_key.result) c.key_of-key.ensures c.next_key.ensures in
    (c.key_stretch-last.ensures keys next).from

pub returns : goal.returns
returns g c =
    let keys : List ℕ = map (λ e. e.key) c.args.table.now in
    let next : IsNext keys (key_of c.args.high c.low_on-low.result) c.next_key.result = subst (λ k. IsNext keys k c.next_key.result) c.key_of-key.ensures c.next_key.ensures in
    entry-answers c.args.i.now c.args.side c.args.table.now c.args.high c.low_on-low.result c.key_stretch-last.result c.get.result c.up_to.result
    c.low_on-low.ensures (c.get.ensures ∙ ap (λ (k : ℕ). value_at k c.args.table.now) c.key_of-key.ensures) (c.key_stretch-last.ensures keys next) c.up_to.ensures
