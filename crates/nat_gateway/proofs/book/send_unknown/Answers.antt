use Rattle.std.proofs.Common.{sym, subst, ◌∙◌}
use Rattle.vpc_laws.specs.Translations.{IsBook}
use Rattle.vpc_laws.proofs.Books.{new-book}
use Rattle.nat_gateway.proofs.book.send_unknown.Goals as goal

pub send_anew-requires-clause-in_order : goal.send_anew-requires-clause-in_order
send_anew-requires-clause-in_order g c = new-book _ _ _ _ c.known_port.ensures c.requires.translatable c.requires.unknown (sym c.is_full.ensures ∙ c.if-is_full.false) c.requires.in_order

pub returns-clause-in_order : goal.returns-clause-in_order
returns-clause-in_order g c = subst IsBook (sym c.send_anew.ensures.entries) (new-book _ _ _ _ c.known_port.ensures c.requires.translatable c.requires.unknown (sym c.is_full.ensures ∙ c.if-is_full.false) c.requires.in_order)
