-- How the rule that stops a packet is printed.
use Rattle.std.specs.Prelude.{List, codes, decimal, ℕ}
use Rattle.prefix_text.specs.Block.{block_text}
use Rattle.vpc_model.specs.Access.{access_text}
use Rattle.block_report.specs.declared.stops.RuleWord.{RuleWord}
use Rattle.block_report.specs.declared.stops.RuleWord.TheVariants as rules

abbrev pub rule_word : RuleWord → List ℕ
rule_word (rules.Row number) = decimal number
rule_word (rules.Block block) = block_text block.now
rule_word (rules.List id) = id.now
rule_word (rules.Access access) = access_text access
rule_word rules.None = codes "-"
