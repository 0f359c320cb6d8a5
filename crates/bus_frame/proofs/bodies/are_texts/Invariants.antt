use Rattle.std.proofs.Common.{◌≡◌, ◌-◌, length}
use Rattle.std.specs.Prelude.{is_some}
use Rattle.bus_frame.specs.Places.{place_of}
use Rattle.bus_frame.specs.Bodies.{texts_at}
use Rattle.bus_frame.proofs.bodies.are_texts.Given as goal

abbrev pub invariant-loop : goal.invariant-loop
invariant-loop l =
    is_some (texts_at l.little (l.end - l.counter) (place_of l.next))
    ≡ is_some (texts_at l.little (length l.place.rest.now) (place_of l.place))
