-- The text is as long as it was measured, and goes to the front.
use Rattle.std.proofs.Common.{rules, ◌≡◌, ◌+◌, ◌≤◌, ap, sym, ◌∙◌, length, arith}
use borrow.Author.Tests.{ltb-false}
use Rattle.answer.specs.Limits.{longest}
use Rattle.answer.specs.Rules.{done, Kept}
use Rattle.answer.proofs.Rules.{done-kept}
use Rattle.text.specs.Sums.{sums_text, text_rules}
use Rattle.text.proofs.Texts.{sums_most, put_front}
use Rattle.text.proofs.sums.sums_text.Goals as goal

pub put_sums-bytes-requires : goal.put_sums-bytes-requires
put_sums-bytes-requires c = let few : length c.args.sums.now ≤ longest + 1 = search rules in (search rules, omega (arith, few, sums_most c.args.direction c.args.sums.now))

pub put_sums-requires : goal.put_sums-requires
put_sums-requires c =
    let d = c.args.direction in
    let sums = c.args.sums.now in
    let dst = c.args.dst.now in
    let measured : c.put_sums-bytes.result ≡ length (sums_text d sums) = omega (arith, c.put_sums-bytes.ensures.next) in
    let room = rw measured at c.in_ok-unless_there.ensures in
    let few : length sums ≤ longest + 1 = search rules in
    (search rules, omega (arith, few, sums_most d sums, ltb-false (length dst) (length (sums_text d sums)) room))

pub returns : goal.returns
returns c =
    let d = c.args.direction in
    let sums = c.args.sums.now in
    let dst = c.args.dst.now in
    let measured : c.put_sums-bytes.result ≡ length (sums_text d sums) = omega (arith, c.put_sums-bytes.ensures.next) in
    let bytes : c.put_sums.result ≡ length (sums_text d sums) = omega (arith, c.put_sums.ensures.next) in
    let room = rw measured at c.in_ok-unless_there.ensures in
    let kept : Kept (text_rules d sums (length dst)) = (c.in_ok-when.ensures, (sym c.is_outside.ensures ∙ c.in_ok-when-2.ensures, (room, tt))) in
    record {
      answers = ap done bytes ∙ sym (done-kept (text_rules d sums (length dst)) (length (sums_text d sums)) kept);
      written = put_front c.put_sums.ensures (ltb-false (length dst) (length (sums_text d sums)) room);
    }
