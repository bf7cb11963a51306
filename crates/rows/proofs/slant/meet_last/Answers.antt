-- Marked pixels met themselves, and an erosion makes them 0.
use Rattle.rows.proofs.Slants.{own_untouched, met-last-darker, met-last_brighter}
use Rattle.rows.proofs.slant.meet_last.Goals as goal

pub returns-then-darker : goal.returns-then-darker
returns-then-darker c =
    let args = c.args in
    let pre = c.requires in
    let taken = c.if-darker.true in
    let met = (rw taken at c.meet_bent.ensures).done pre.2 (pre.0, pre.1, pre.0, pre.3) (own_untouched _ _ _) in
    rw taken (met-last-darker args.bends.now args.at args.near args.n args.buf.now met c.blacken_bent.ensures pre.3 pre.0)

pub returns-else-darker : goal.returns-else-darker
returns-else-darker c =
    let args = c.args in
    let pre = c.requires in
    let left = c.if-darker.false in
    let met = (rw left at c.meet_bent.ensures).done pre.2 (pre.0, pre.1, pre.0, pre.3) (own_untouched _ _ _) in
    rw left (met-last_brighter args.bends.now args.at args.near args.n args.buf.now met)
