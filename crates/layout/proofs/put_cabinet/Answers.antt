-- `put_cabinet`: the first two octets alone, or with the rest.
use Rattle.buffer.proofs.Texts.{and_then}
use Rattle.layout.specs.Layout.{cabinet_octets, detail_octets}
use Rattle.layout.proofs.put_cabinet.Goals as goal

pub returns-then-works : goal.returns-then-works
unfolding cabinet_octets detail_octets
returns-then-works c =
    let version = rw c.version_octet.ensures at c.put-then-works.ensures in
    let coordinator = rw (c.numbered.ensures, c.coordinator.ensures) at c.put-then-works-2.ensures in
    let alarm = rw c.alarm_octets.ensures at c.word.ensures in
    let home = rw c.numbered-then-works.ensures at c.put-then-works-4.ensures in
    let a = rw (c.to_be_bytes.ensures, c.booking.ensures) at c.word-then-works.ensures in
    let b = rw (c.to_be_bytes-then-works.ensures, c.booking-then-works.ensures) at c.word-then-works-2.ensures in
    let w = rw (c.to_be_bytes-then-works-2.ensures, c.booking-then-works-2.ensures) at c.word-then-works-3.ensures in
    rw (← c.works.ensures, c.if-works.true, ← c.from.ensures)
    (and_then c.put.ensures (and_then c.put-2.ensures (and_then version (and_then coordinator (and_then alarm
    (and_then c.put-then-works-3.ensures (and_then home (and_then a (and_then b w)))))))))

pub returns-else-works : goal.returns-else-works
unfolding cabinet_octets
returns-else-works c = rw (← c.works.ensures, c.if-works.false, ← c.from.ensures) (and_then c.put.ensures c.put-2.ensures)
