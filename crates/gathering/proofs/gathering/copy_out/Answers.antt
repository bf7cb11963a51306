-- Why what Invariants.antt says gives what the function promises.
use mathlib.Core.Path.{◌≡◌, sym}
use mathlib.Core.List.{List}
use Prim.Native.Nat.{ℕ, ◌+◌, ◌≤◌}
use native.Mathlib.Omega.{arith}
use lib.ListN.{length, get_or}
use Rattle.lists.specs.Tables.{table}
use Rattle.lists.specs.Stores.{Filled, front}
use Rattle.lists.proofs.Tables.{length-table, get_d_table}
use Rattle.lists.proofs.Stores.{filled_end, filled_as, filled-front}
use Rattle.frame.specs.declared.sweep.Sweep.{Sweep}
use Rattle.frame.specs.Sweep.{cell}
use Rattle.gathering.proofs.gathering.copy_out.Goals as goal

-- the line's pixel k
abbrev pixel : List ℕ → Sweep → ℕ → ℕ → ℕ → ℕ
pixel src s u from k = get_or src (cell s u (from + k)) 0

at_front : (src : List ℕ) (s : Sweep) (u from count : ℕ) {d e : List ℕ} → Filled d e 0 count (pixel src s u from) → count ≤ length d
    → e ≡ front (table (pixel src s u from) count) d
at_front src s u from count f room =
    filled-front (table (pixel src s u from) count)
    (filled_as f (λ (k : ℕ). get_or (table (pixel src s u from) count) k 0) (λ k l h. sym (get_d_table 0 (pixel src s u from) count k h)))
    (length-table (pixel src s u from) count) room

pub bounds-src-at : goal.bounds-src-at
bounds-src-at c = c.byte-at.ensures.within _ c.requires.0

pub returns : goal.returns
returns c =
    let a = c.args in
    let t = a.walk.track in
    let end : c.loop-i.i ≡ t.count = omega (arith, c.loop-i.auto.i-end, c.loop-i-test.false) in
    at_front a.src.now a.walk.sweep t.index t.from t.count (filled_end c.loop-i.invariant end) c.requires.1
