-- What comes next at a step: which ones are the same, and where a step remembers nothing.
use Rattle.std.proofs.Common.{◌≡◌, Bool, cond, false, refl, true}
use Rattle.vpc_model.specs.Step.Words.{Moment, Next, go, plain, stop}
use Rattle.vpc_model.specs.Types.{Header, Place, Stop}

pub go≢stop : (p : Place) (h : Header) (s : Stop) → go p h ≡ stop s → ⊥
go≢stop p h s e = cc

pub go-header : (p q : Place) (h k : Header) → go p h ≡ go q k → h ≡ k
go-header p q h k e = cc

pub stop-same : (s t : Stop) → stop s ≡ stop t → s ≡ t
stop-same s t e = cc

pub plain-either : (m : Moment) (b : Bool) (x y : Next) → cond b (plain m x) (plain m y) ≡ plain m (cond b x y)
plain-either m true x y = refl
plain-either m false x y = refl
