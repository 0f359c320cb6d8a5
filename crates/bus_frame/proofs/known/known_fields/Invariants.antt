use Rattle.std.proofs.Common.{◌≡◌, ◌-◌, length}
use Rattle.bus_frame.specs.Places.{place_of}
use Rattle.bus_frame.specs.Fields.{known_of, none_known, fields_at}
use Rattle.bus_frame.proofs.known.known_fields.Given as goal

abbrev pub invariant-loop : goal.invariant-loop
invariant-loop l =
    fields_at l.little (l.end - l.counter) (known_of l.known) (place_of l.next)
    ≡ fields_at l.little (length l.place.rest.now) none_known (place_of l.place)
