-- What comes after a place, in the words of the model.
use Rattle.packet_emulator.specs.declared.next.Next.{Next}
use Rattle.packet_emulator.specs.declared.next.Next.TheVariants as nexts
use Rattle.vpc_model.specs.Step.Words.{Next as Comes, arrive, go, stop}

abbrev pub comes : Next → Comes
comes (nexts.Go p h) = go p h
comes (nexts.Arrive e) = arrive e
comes (nexts.Stop s) = stop s
