-- `cab_rest`: the state with version and bookings.
use Rattle.buffer.proofs.Texts.{and_then}
use Rattle.text.proofs.cab_rest.Goals as goal

pub returns-then-works : goal.returns-then-works
returns-then-works c =
    rw (
      ← c.works.ensures,
      c.if-works.true,
      ← c.state_word.ensures,
      ← c.version_octet.ensures,
      ← c.booking.ensures,
      ← c.booking-then-works.ensures,
      ← c.booking-then-works-2.ensures,
    )
    (and_then c.put.ensures (and_then c.word.ensures (and_then (and_then c.put-then-works.ensures c.put-then-works-2.ensures)
    (and_then (and_then c.number.ensures c.number-then-works.ensures) c.number-then-works-2.ensures))))
