use Rattle.std.proofs.Common.{◌<◌, ◌∙◌, List, Option, ap, arith, get_or, length, sym, unwrap_or, ℕ}
use Rattle.std.proofs.lemmas.List.{get_or-map}
use Rattle.vpc_model.specs.Accepted.{is_main_of, is_table_of}
use Rattle.vpc_model.specs.declared.numbers.TableNo.{TableNo}
use Rattle.reference_check.specs.Attached.{chosen_table}
use Rattle.reference_check.proofs.Firsts.{or_else-within}
use Rattle.reference_check.proofs.subnets.Attached.table_of.Goals as goal
use Rattle.vpc_model.specs.Lookup.{no_subnet}

pub overflow_cast-result : goal.overflow_cast-result
overflow_cast-result c =
    let row = get_or c.args.d.now.subnets c.args.s.0 no_subnet in
    let chosen = c.index.ensures ∙ ap (λ (os : List (Option ℕ)). get_or os c.args.s.0 c.index.result.now) c.requires.attached.chosen ∙ get_or-map (chosen_table c.args.d.now) c.args.d.now.subnets c.args.s.0 no_subnet c.index.result.now c.requires.within in
    let within : c.in-Some.table < length c.args.d.now.tables = or_else-within (is_table_of row.id) (is_main_of row.vpc) c.args.d.now.tables c.in-Some.table (sym chosen ∙ c.in-Some.is) in
    omega arith

pub returns-in-Some : goal.returns-in-Some
returns-in-Some c =
    let chosen = c.index.ensures ∙ ap (λ (os : List (Option ℕ)). get_or os c.args.s.0 c.index.result.now) c.requires.attached.chosen ∙ get_or-map (chosen_table c.args.d.now) c.args.d.now.subnets c.args.s.0 no_subnet c.index.result.now c.requires.within in
    let numbered : ℕ → TableNo = λ n. record { 0 = n } in
    ap (λ (o : Option ℕ). numbered (unwrap_or o (length c.args.d.now.tables))) (sym c.in-Some.is ∙ chosen)

pub returns-in-None : goal.returns-in-None
returns-in-None c =
    let chosen = c.index.ensures ∙ ap (λ (os : List (Option ℕ)). get_or os c.args.s.0 c.index.result.now) c.requires.attached.chosen ∙ get_or-map (chosen_table c.args.d.now) c.args.d.now.subnets c.args.s.0 no_subnet c.index.result.now c.requires.within in
    let numbered : ℕ → TableNo = λ n. record { 0 = n } in
    ap (λ tables. numbered (length tables)) c.as_slice.ensures
    ∙ ap (λ (o : Option ℕ). numbered (unwrap_or o (length c.args.d.now.tables))) (sym c.in-None.is ∙ chosen)
