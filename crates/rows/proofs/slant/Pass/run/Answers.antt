-- Why what Invariants.antt says lasts, and gives what the function promises.
use Rattle.rows.specs.Slants.{forth_of, marks_of}
use Rattle.rows.proofs.Rowwise.{parted_order}
use Rattle.rows.proofs.Slants.{dark-past, ready-still, slants_more}
use Rattle.rows.proofs.slant.Pass.run.Goals as goal

pub slant-requires : goal.slant-requires
slant-requires c =
    let p = c.args.self.now in
    let s = p.sweep in
    let slanted = c.requires.0.slanted in
    let parted = parted_order (forth_of p) s.sidestep s.majors s.minors slanted.apart in
    let done = c.loop-t.invariant in (
      ready-still c.requires.0 done.same,
      c.loop-t-test.true,
      dark-past s slanted.next (forth_of p) p.light parted c.requires.1 done c.loop-t-test.true,
    )

pub loop-t-preserved : goal.loop-t-preserved
loop-t-preserved c =
    let p = c.args.self.now in
    let s = p.sweep in
    let at = c.loop-t in
    slants_more s (forth_of p) (marks_of p) p.here p.there p.step
    (parted_order (forth_of p) s.sidestep s.majors s.minors c.requires.0.slanted.apart)
    p.darker at.t at.invariant c.slant.ensures c.loop-t-test.true
