use Rattle.std.proofs.Common.{◌∙◌, ◌≡◌, ap, sym, map, None}
use Rattle.std.specs.Map.{lookup}
use Rattle.std.specs.Prelude.{bytes_eq}
use Rattle.std.proofs.lemmas.List.{map-append}
use Rattle.indexmap.proofs.CallerLemmas.{insert_entry-new}
use Rattle.reference_check.specs.FirstNumbers.{number_in}
use Rattle.reference_check.proofs.NumberLemmas.{number_in-map}
use Rattle.reference_check.proofs.first_numbers.FirstNumbers.append.Goals as goal

pub returns : goal.returns
returns c =
    let given : number_in c.args.self.now c.args.id.items ≡ None = c.requires in
    let absent : lookup (λ k. bytes_eq c.args.id.items k.items) c.self.inside.numbers.entries ≡ None =
    sym (number_in-map (λ k. k.items) c.self.inside.numbers.entries c.args.id.items) ∙ ap (λ l. number_in l c.args.id.items) c.self.view_is ∙ given in
    rw (← c.self.view_is)
    (ap (map (λ e. (e.0.items, e.1))) (c.in_ok-insert.ensures.entries ∙ insert_entry-new (λ x y. bytes_eq x.items y.items) c.self.inside.numbers c.args.id c.args.number absent)
    ∙ map-append (λ e. (e.0.items, e.1)) c.self.inside.numbers.entries _)
