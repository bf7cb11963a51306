-- The letter and a tab, the line number, the count and the line feed.
use native.Mathlib.Omega.{arith}
use mir.Facts.{to_z-of_z}
use Rattle.text.proofs.Runs.{puts_join}
use Rattle.text.proofs.Reports.{title_length, title_put}
use Rattle.text.proofs.stretches.put_title.Goals as goal

pub put_byte-letter-requires : goal.put_byte-letter-requires
put_byte-letter-requires c = omega (arith, title_length c.args.z c.args.pixels)

pub put_byte-number-requires : goal.put_byte-number-requires
put_byte-number-requires c = omega (arith, title_length c.args.z c.args.pixels)

pub put_signed-count-requires : goal.put_signed-count-requires
put_signed-count-requires c = rw (to_z-of_z c.ranges.z) (omega (arith, title_length c.args.z c.args.pixels))

pub put_field-end-requires : goal.put_field-end-requires
put_field-end-requires c =
    let signed = rw (to_z-of_z c.ranges.z) at c.put_signed-count.ensures in
    omega (arith, signed.next, title_length c.args.z c.args.pixels)

pub put_byte-requires : goal.put_byte-requires
put_byte-requires c =
    let signed = rw (to_z-of_z c.ranges.z) at c.put_signed-count.ensures in
    omega (arith, signed.next, title_length c.args.z c.args.pixels)

pub returns : goal.returns
returns c =
    let signed = rw (to_z-of_z c.ranges.z) at c.put_signed-count.ensures in
    title_put c.args.z c.args.pixels (puts_join c.put_byte-letter.ensures c.put_byte-number.ensures) signed c.put_field-end.ensures c.put_byte.ensures
