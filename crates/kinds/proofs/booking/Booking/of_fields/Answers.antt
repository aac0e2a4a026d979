use Rattle.std.proofs.Common.{sym, ap, ◌∙◌}
use Rattle.kinds.specs.Bookings.{booking_from}
use Rattle.kinds.specs.Booked.{from_ok}
use Rattle.kinds.proofs.booking.Booking.of_fields.Goals as goal

pub returns : goal.returns
returns c = sym (ap (λ w. booking_from c.args.line c.args.first c.args.last w c.args.crew) c.in-Some.is ∙ from_ok _)
