use Rattle.std.proofs.Common.{lit<}
use Rattle.piece_table.proofs.Halves.{few_steps}
use Rattle.piece_table.proofs.laws.few_steps.Goals as goal

pub returns-clause-few : goal.returns-clause-few
returns-clause-few c = few_steps

pub returns-clause-five : goal.returns-clause-five
returns-clause-five c = λ s few. few_steps 5 s 4 few (lit< tt)

pub returns-clause-many : goal.returns-clause-many
returns-clause-many c = λ s few. few_steps 200001 s 19 few (lit< tt)
