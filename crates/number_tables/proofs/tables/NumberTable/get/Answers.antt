use Rattle.std.proofs.Common.{◌∙◌, ap, arith, nat_lt, rules, sym}
use Rattle.std.specs.List.Sorted.{IsPartitionedBy}
use Rattle.std.proofs.lemmas.List.{get_or_default}
use Rattle.std.proofs.lemmas.List.Sorted.{IsPartitionPoint-from_clause, IsPartitionedBy-ltb}
use Rattle.number_tables.specs.declared.tables.Entry.{Entry}
use Rattle.number_tables.proofs.Searching.{value_at-found, value_at-none}
use Rattle.number_tables.proofs.tables.NumberTable.get.Goals as goal
use Rattle.number_tables.proofs.tables.NumberTable.get.Goals.{then-below-len+else-entry-key, else-below-len}

pub returns-then-entry-key : goal.returns-then-entry-key
returns-then-entry-key g c =
    let parted = IsPartitionedBy-ltb (λ e. e.key) c.self.inside.entries.items c.args.key c.self.invariant in
    let seen : IsPartitionedBy (λ e. nat_lt e.key c.args.key) c.deref.result.now = rw c.deref.ensures.value parted in
    value_at-found c.args.key c.self.inside.entries.items c.deref.result.now c.args.self.now c.partition_point-below.result c.index-entry.result.now c.deref.ensures.value c.self.view_is
    (omega (arith, c.self.inside.entries.ok.0))
    (IsPartitionPoint-from_clause (λ e. nat_lt e.key c.args.key) _ _ c.partition_point-below.ensures.partitioned seen (λ a r q k. search rules)) c.index-entry.ensures c.if-entry-key.true

pub returns : goal.returns
returns g c =
    let es = c.self.inside.entries.items in
    let parted = IsPartitionedBy-ltb (λ e. e.key) c.self.inside.entries.items c.args.key c.self.invariant in
    let seen : IsPartitionedBy (λ e. nat_lt e.key c.args.key) c.deref.result.now = rw c.deref.ensures.value parted in
    value_at-none c.args.key c.self.inside.entries.items c.deref.result.now c.args.self.now c.partition_point-below.result c.deref.ensures.value c.self.view_is c.self.invariant
    (IsPartitionPoint-from_clause (λ e. nat_lt e.key c.args.key) _ _ c.partition_point-below.ensures.partitioned seen (λ a r q k. search rules))
    (λ d within has.
    elim c.if-below-len.branch [
      | then-below-len+else-entry-key w ↦
          let same = get_or_default c.self.inside.entries.items c.partition_point-below.result d w.index-entry.result.now within in
          let key : (Entry _ → _) = λ e. e.key in
          w.if-entry-key.false (ap key (w.index-entry.ensures ∙ sym same) ∙ has)
      | else-below-len w ↦ absurd (omega (arith, c.self.inside.entries.ok.0, w.if-below-len.false))
    ])
