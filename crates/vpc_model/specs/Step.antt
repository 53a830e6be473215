-- One step of a packet: what comes after each place. Connections change at OutOf and Into alone, and NAT
-- translations at NatOut alone.
pub mod Words
pub mod Crossing
pub mod Interface
pub mod Router
pub mod Enter
pub mod Internet
pub mod Nat
pub mod Peering
pub mod Transit
pub mod Far
pub mod Inspect
use Rattle.vpc_model.specs.Types.{Description, Label, Place}
use Rattle.vpc_model.specs.declared.places.Place.TheVariants as places
use Rattle.vpc_model.specs.Appliances.{Appliances}
use Rattle.vpc_model.specs.Step.Enter.{step_enter}
use Rattle.vpc_model.specs.Step.Far.{step_far_in, step_far_out}
use Rattle.vpc_model.specs.Step.Inspect.{step_inspect}
use Rattle.vpc_model.specs.Step.Interface.{step_into, step_out}
use Rattle.vpc_model.specs.Step.Internet.{step_igw_in, step_igw_out, step_internet}
use Rattle.vpc_model.specs.Step.Words.{Moment, Step}
use Rattle.vpc_model.specs.Step.Nat.{step_nat_in, step_nat_out}
use Rattle.vpc_model.specs.Step.Peering.{step_peer}
use Rattle.vpc_model.specs.Step.Router.{step_router}
use Rattle.vpc_model.specs.Step.Transit.{step_tgw, step_tgw_leave}

-- one equation for each place
abbrev pub step_at : Description → Appliances → Label → Place → Moment → Step
step_at d appliances label (places.OutOf i) m = step_out d label i m
step_at d appliances label (places.Router s came) m = step_router d s m
step_at d appliances label (places.Enter v by) m = step_enter d v by m
step_at d appliances label (places.Into i) m = step_into d appliances label i m
step_at d appliances label (places.IgwOut v) m = step_igw_out d v m
step_at d appliances label places.Internet m = step_internet d m
step_at d appliances label (places.IgwIn v) m = step_igw_in d v m
step_at d appliances label (places.NatOut n) m = step_nat_out d label n m
step_at d appliances label (places.NatIn n) m = step_nat_in d label n m
step_at d appliances label (places.Peer x v) m = step_peer d x v m
step_at d appliances label (places.Tgw a entered) m = step_tgw d a entered m
step_at d appliances label (places.TgwLeave a entered) m = step_tgw_leave d a entered m
step_at d appliances label (places.FarOut k) m = step_far_out d k m
step_at d appliances label (places.FarIn k) m = step_far_in d label k m
step_at d appliances label (places.Inspect e) m = step_inspect d e m

-- the step of a packet at a place
abbrev pub step_of : Description → Appliances → Label → Moment → Step
step_of d appliances label m = step_at d appliances label m.place m
