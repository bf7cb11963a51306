-- Why what Invariants.antt says lasts, and gives what the function promises.
use mathlib.Core.Path.{sym, ap, ◌∙◌}
use native.Mathlib.Omega.{arith}
use lib.ListN.{length}
use lib.Seq.{sets}
use Rattle.text.specs.Decimal.{decimal}
use Rattle.text.proofs.Decimals.{decimal-one, decimal-more, decimal-length}
use Rattle.text.proofs.Runs.{sets_one}
use Prim.Native.Nat.{◌/◌}
use Rattle.text.proofs.decimal.+put_digits.Goals as goal

pub bounds-dst-at : goal.bounds-dst-at
bounds-dst-at t c = omega (arith, ap length (decimal-one c.args.v c.if-v-lt10.true))

pub returns-then-v-lt10 : goal.returns-then-v-lt10
returns-then-v-lt10 t c =
    let e = decimal-one c.args.v c.if-v-lt10.true in
    record { next = omega (arith, ap length e); wrote = sym (ap (sets c.args.dst.now c.args.at) e) }

pub put_digits-p-requires : goal.put_digits-p-requires
put_digits-p-requires t c = (omega arith, omega (arith, decimal-length c.args.v c.if-v-lt10.false c.ranges.v.fits))

pub bounds-dst-p : goal.bounds-dst-p
bounds-dst-p t c = omega (arith, c.put_digits-p.ensures.next, c.put_digits-p.auto.dst, decimal-length c.args.v c.if-v-lt10.false c.ranges.v.fits)

pub overflow_add-result-2 : goal.overflow_add-result-2
overflow_add-result-2 t c = omega (arith, c.put_digits-p.ensures.next, decimal-length c.args.v c.if-v-lt10.false c.ranges.v.fits, c.well_formed.0.0)

pub returns : goal.returns
returns t c =
    let dst = c.args.dst.now in
    let at = c.args.at in
    let v = c.args.v in
    let o = c.put_digits-p.ensures in
    record {
      next = omega (arith, o.next, decimal-length v c.if-v-lt10.false c.ranges.v.fits);
      wrote = rw (o.wrote, o.next) (sym (ap (sets dst at) (decimal-more v c.if-v-lt10.false c.ranges.v.fits) ∙ sets_one dst at (decimal (v / 10)) _));
    }
