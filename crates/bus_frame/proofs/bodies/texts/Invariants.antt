use Rattle.std.proofs.Common.{◌≡◌, ◌-◌, length}
use Rattle.bus_frame.specs.Places.{place_of}
use Rattle.bus_frame.specs.Bodies.{texts_at}
use Rattle.bus_frame.proofs.TextSteps.{with_front}
use Rattle.bus_frame.proofs.bodies.texts.Given as goal

abbrev pub invariant-loop : goal.invariant-loop
invariant-loop l =
    with_front l.texts.items (texts_at l.little (l.end - l.counter) (place_of l.next))
    ≡ texts_at l.little (length l.place.rest.now) (place_of l.place)
