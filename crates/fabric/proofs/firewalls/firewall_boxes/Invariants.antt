use Rattle.std.proofs.Common.{◌≡◌, map, take}
use Rattle.fabric.specs.Outside.{boxes_of_firewall}
use Rattle.fabric.proofs.firewalls.firewall_boxes.Given as goal

abbrev pub invariant-loop-firewall : goal.invariant-loop-firewall
invariant-loop-firewall l = l.boxes.items ≡ map (boxes_of_firewall l.n) (take l.firewall-index l.firewalls)
