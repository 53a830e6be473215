use Rattle.outside_laws.proofs.Without.{differs-where-unknown}
use Rattle.outside_laws.proofs.differs_where_unknown.Goals as goal

pub returns : goal.returns
returns c = λ d appliances start goal h once from to. differs-where-unknown d once appliances start goal h from to
