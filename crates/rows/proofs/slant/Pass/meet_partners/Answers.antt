-- None, one or both of the rows that the row asks for are in the frame.
use mathlib.Core.Logic.{inl, inr, ⊎_elim}
use mathlib.Core.List.{[]}
use Prim.Native.Nat.{◌+◌, ◌-◌}
use native.Mathlib.Omega.{arith}
use Rattle.rows.specs.Slants.{forth_of, marks_of}
use Rattle.rows.proofs.Rowwise.{parted_order}
use Rattle.rows.proofs.Slants.{slant_room, far_untouched, met-gone, met-straight, met-near, met-far}
use Rattle.rows.proofs.slant.Pass.meet_partners.Goals as goal

pub overflow_add-at : goal.overflow_add-at
overflow_add-at c =
    let pre = c.requires in
    omega (arith, slant_room pre.0.slanted (forth_of c.args.self.now) c.args.t pre.1, c.start.ensures, pre.0.inside)

pub returns-then-left-self : goal.returns-then-left-self
returns-then-left-self c =
    let p = c.args.self.now in
    let pre = c.requires in
    let place = c.start.ensures in
    met-gone p.darker p.sweep (forth_of p) (marks_of p) c.args.t p.here p.there (p.light - p.there) p.step (omega (arith, place)) c.fade.ensures
    (omega (arith, slant_room pre.0.slanted (forth_of p) c.args.t pre.1, place, pre.0.inside)) (omega (arith, c.if-left-self.true))

pub overflow_add-near : goal.overflow_add-near
overflow_add-near c =
    let p = c.args.self.now in
    let pre = c.requires in
    omega (arith, slant_room pre.0.slanted (forth_of p) (c.args.t + p.step) (omega arith), c.start-2.ensures, pre.0.some, pre.0.inside)

pub returns-in-None : goal.returns-in-None
returns-in-None c =
    let p = c.args.self.now in
    let t = c.args.t in
    let pre = c.requires in
    let room = slant_room pre.0.slanted (forth_of p) in
    let place = c.start.ensures in
    let first = c.start-2.ensures in
    rw c.in-None.is
    (met-straight p.darker p.sweep (forth_of p) [] t p.here p.there (p.light - p.there) p.step (omega (arith, place)) (omega (arith, first))
    (c.meet.ensures.done (omega (arith, room t pre.1, place, pre.0.inside)) (omega (arith, room (t + p.step) (omega arith), first, pre.0.some, pre.0.inside)))
    (omega arith) (omega arith))

pub meet_last-requires : goal.meet_last-requires
meet_last-requires c =
    let p = c.args.self.now in
    let pre = c.requires in
    let room = slant_room pre.0.slanted (forth_of p) in
    let marked = rw c.in-Some.is at pre.0.marked in (
      omega (arith, room c.args.t pre.1, c.start.ensures, pre.0.inside),
      omega (arith, room (c.args.t + p.step) (omega arith), c.start-2.ensures, pre.0.some, pre.0.inside),
      omega (arith, marked, pre.0.some),
      marked,
    )

pub returns-in-Some : goal.returns-in-Some
returns-in-Some c =
    let p = c.args.self.now in
    rw c.in-Some.is
    (met-near p.darker p.sweep (forth_of p) c.in-Some.bends.now c.args.t p.here p.there (p.light - p.there) p.step (omega (arith, c.start.ensures))
    (omega (arith, c.start-2.ensures)) c.meet_last.ensures (omega arith) (omega arith))

pub overflow_add-far : goal.overflow_add-far
overflow_add-far c =
    let p = c.args.self.now in
    let pre = c.requires in
    omega (arith, slant_room pre.0.slanted (forth_of p) (c.args.t + (p.step + 1)) (omega arith), c.start-in-Some-2.ensures, pre.0.some, pre.0.inside)

pub returns-in-Some-2 : goal.returns-in-Some-2
returns-in-Some-2 c =
    let p = c.args.self.now in
    let s = p.sweep in
    let t = c.args.t in
    let pre = c.requires in
    let room = slant_room pre.0.slanted (forth_of p) in
    let n = p.light - p.there in
    let place = c.start.ensures in
    let first = c.start-2.ensures in
    let second = c.start-in-Some-2.ensures in
    let marked = rw c.in-Some-2.is at pre.0.marked in
    let apart = parted_order (forth_of p) s.sidestep s.majors s.minors pre.0.slanted.apart t (t + (p.step + 1)) pre.1 (omega arith) (λ q. omega arith) in
    let untouched = far_untouched (c.start.result + p.here) (c.start-2.result + p.there) (c.start-in-Some-2.result + p.there) n
    (⊎_elim (λ q. inl (omega (arith, q, place, second, pre.0.some, pre.0.inside))) (λ q. inr (omega (arith, q, place, second, pre.0.some, pre.0.inside))) apart) in
    rw c.in-Some-2.is
    (met-far p.darker s (forth_of p) c.in-Some-2.bends.now t p.here p.there n p.step (omega (arith, place)) (omega (arith, first)) (omega (arith, second))
    (c.meet_bent.ensures.done (omega (arith, marked, pre.0.some)) (
      omega (arith, room t pre.1, place, pre.0.inside),
      omega (arith, room (t + p.step) (omega arith), first, pre.0.some, pre.0.inside),
      omega (arith, room (t + (p.step + 1)) (omega arith), second, pre.0.some, pre.0.inside),
      marked,
    )
    untouched)
    (omega arith))
