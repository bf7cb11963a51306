-- Rows by blocks, in the order of a pass.
--   down-row, down-shift, side_by_side    a row is in the buffer, its lines stand where `shift_at` says, and its pixels side by side
--   lines_few                             there is a level for each line
--   back_none, back_more                  the last row of a block, and one row more before
--   levels-met, levels_started            levels that have met a row, and those of the first
--   on-more, level-first, level-next      one row more that meets the levels, and the levels for the next
--   block_alone, block_joined             a block with no rows behind it to meet, and with such
--   windows_more                          block after block
-- Assumes nothing.
use mathlib.Core.Path.{◌≡◌, sym, ap, ap₂, ◌∙◌}
use mathlib.Core.Bool.{Bool, true, false, cond}
use mathlib.Core.List.{List}
use mathlib.Core.Logic.{◌⊎◌, inl, inr, ⊎_elim}
use Prim.Native.Nat.{ℕ, ◌+◌, ◌-◌, ◌*◌, ◌≤◌, ◌<◌, min, zero-le}
use native.Mathlib.Nat.{mul-one, le_refl}
use native.Mathlib.Omega.{arith}
use lib.ListN.{length, get_or}
use Rattle.lists.specs.Stores.{Filled}
use Rattle.lists.proofs.Cases.{less_or_not}
use Rattle.passes.specs.Passes.{op, straight, MeetsBy, Clears, Fades}
use Rattle.rows.proofs.Sides.{beside_in, beside-left, beside-right}
use Rattle.frame.specs.declared.sweep.Sweep.{Sweep}
use Rattle.frame.specs.Sweep as sweep
use Rattle.frame.specs.Sweep.{shift, shift_at, lines, Sane}
use Rattle.frame.specs.Lines.{r}
use Rattle.frame.proofs.Rounding.{r-up}
use Rattle.answer.specs.Limits.{longest}
use Rattle.frame.proofs.Shapes.{shift_is, top_less}
use Rattle.frame.proofs.Spans.{shift_le}
use Rattle.rows.specs.declared.order.Descent.{Descent}
use Rattle.rows.specs.Rows as rows
use Rattle.rows.specs.Rows.{byte_of, row_at, RowsAre}
use Rattle.rows.proofs.Rowwise.{RowsApart, parted_order, row_less, row_kept, rows_more, rows_before, rows-still, rows_as, rows_end, rows_join, row_room}
use Rattle.rows.proofs.Lines.{lane_in, lane-left, lane-right, lane-pixel}
use Rattle.rows.specs.Down.{Down, LevelsAre, pixel_of, beside, start_at, shifts, extreme, extreme_of, beyond, Takes, WindowsMet}
use Rattle.rows.proofs.Extremes.{extreme-one, extreme-back, extreme-on, extreme_join, extreme-same, extreme-dark, zero-op}

pub down-row : {s : Sweep} {g : List ℕ} → Down s g → (i : ℕ) → i < s.majors → i * s.pace + s.minors ≤ length g
down-row {s} {g} to i in' = row_room s.pace s.minors s.majors (length g) i in' to.room

pub down-shift : {s : Sweep} {g : List ℕ} → Down s g → (i : ℕ) → i < s.majors → shift_at s i ≡ shift s i
down-shift {s} to i in' = shift_is s to.sane i (omega (arith, to.sane.majors))

pub lines_few : {s : Sweep} {g : List ℕ} → Down s g → lines s ≤ 2 * longest
lines_few {s} to = omega (arith, top_less s to.sane, to.sane.minors)

pub side_by_side : (s : Sweep) → s.sidestep ≡ 1 → (i k : ℕ) → byte_of s i k ≡ i * s.pace + k
side_by_side s e i k = ap (λ (m : ℕ). i * s.pace + k * m) e ∙ ap (λ (m : ℕ). i * s.pace + m) (mul-one k)

level-at : (s : Sweep) → Sane s → {φ : ℕ → ℕ} {m : List ℕ} → LevelsAre s φ m → (i k : ℕ) → i < s.majors → k < s.minors
    → get_or m (shift s i + (i * s.pace + k - i * s.pace)) 0 ≡ φ (k + shift s i)
level-at s sane {φ} {m} level i k l n =
    let q : shift s i + (i * s.pace + k - i * s.pace) ≡ k + shift s i = omega arith in
    ap (λ (x : ℕ). get_or m x 0) q ∙ level.level (k + shift s i) (omega (arith, shift_le s sane i l))

-- a number that never turns: it ascends, or it descends
abbrev Steady : (ℕ → ℕ) → Type 0
Steady h = ((i j : ℕ) → i ≤ j → h i ≤ h j) ⊎ ((i j : ℕ) → i ≤ j → h j ≤ h i)

shift-steady : (s : Sweep) → 1 ≤ s.run → Steady (shift s)
unfolding sweep.shift
shift-steady s some = go s.falling
  where
    go : (f : Bool) → Steady (λ (i : ℕ). cond f (r s.run s.rise i) (s.top - r s.run s.rise i))
    go true = inl (λ i j l. r-up s.run s.rise i j some l)
    go false = inr (λ i j l. omega (arith, r-up s.run s.rise i j some l))

order_steady : (p : Descent) → 1 ≤ p.sweep.run → Steady (shifts p)
unfolding rows.row_at
order_steady p = go p.darker
  where
    go : (d : Bool) → 1 ≤ p.sweep.run → Steady (λ (t : ℕ). shift p.sweep (row_at d p.sweep.majors t))
    go true some = shift-steady p.sweep some
    go false some =
        ⊎_elim (λ up. inr (λ i j l. up (p.sweep.majors - 1 - j) (p.sweep.majors - 1 - i) (omega arith)))
        (λ down. inl (λ i j l. down (p.sweep.majors - 1 - j) (p.sweep.majors - 1 - i) (omega arith))) (shift-steady p.sweep some)

whole_sum : (m t f g : ℕ) → f ≡ g → t < f → g < m → f - 1 - t + (m - 1 - g) + 1 ≡ m - 1 - t
whole_sum m t f g e before more = omega arith

tail_fits : (M f e : ℕ) → f < M → f < e → f + (min e M - 1 - f) < M
tail_fits M f e in' past = omega arith

module _ (p : Descent) {g₀ : List ℕ} (to : Down p.sweep g₀) where
  abbrev s : Sweep
  s = p.sweep

  abbrev d : Bool
  d = p.darker

  place : (i k : ℕ) → byte_of s i k ≡ i * s.pace + k
  place = side_by_side s to.next

  parted : RowsApart (start_at p) s.minors s.majors
  parted = parted_order d s.pace s.minors s.majors to.apart

  steady : Steady (shifts p)
  steady = order_steady p to.sane.moves

  pixel-at : (f : List ℕ) (t k : ℕ) → k < s.minors → pixel_of s f (row_at d s.majors t) (k + shifts p t) ≡ get_or f (start_at p t + k) 0
  pixel-at f t k n =
      lane-pixel (shift s) (byte_of s) s.minors f (row_at d s.majors t) k n ∙ ap (λ (x : ℕ). get_or f x 0) (place (row_at d s.majors t) k)

  pixel-kept : (f g : List ℕ) (i u : ℕ) → ((k : ℕ) → k < s.minors → get_or f (i * s.pace + k) 0 ≡ get_or g (i * s.pace + k) 0) → pixel_of s f i u ≡ pixel_of s g i u
  pixel-kept f g i u kept =
      ⊎_elim
      (λ left. lane-left (shift s) (byte_of s) s.minors f u i left ∙ sym (lane-left (shift s) (byte_of s) s.minors g u i left))
      (λ from.
      ⊎_elim
      (λ in'.
      lane_in (shift s) (byte_of s) s.minors f u i from in'
      ∙ ap (λ (x : ℕ). get_or f x 0) (place i (u - shift s i))
      ∙ kept (u - shift s i) (omega arith)
      ∙ ap (λ (x : ℕ). get_or g x 0) (sym (place i (u - shift s i)))
      ∙ sym (lane_in (shift s) (byte_of s) s.minors g u i from in'))
      (λ right. lane-right (shift s) (byte_of s) s.minors f u i from right ∙ sym (lane-right (shift s) (byte_of s) s.minors g u i from right))
      (less_or_not u (shift s i + s.minors)))
      (less_or_not u (shift s i))

  -- ---- levels

  module _ {f m m₁ m₂ m₃ : List ℕ} (i : ℕ) where
    pub levels-met : Fades d 0 (shift s i) m m₁ → MeetsBy d f (i * s.pace) s.minors (shift s i) m₁ m₂
        → Fades d (shift s i + s.minors) (s.top - shift s i) m₂ m₃
        → lines s ≤ length m → shift s i ≤ s.top → i * s.pace + s.minors ≤ length f → LevelsAre s (λ (u : ℕ). op d (get_or m u 0) (pixel_of s f i u)) m₃
    levels-met before row behind' room top there =
        let v : Filled m m₁ 0 (0 + shift s i) (λ (x : ℕ). op d (get_or m x 0) 0) = before.done (omega arith) in
        let q : Filled m₁ m₂ (shift s i) (shift s i + s.minors) (λ (x : ℕ). op d (get_or m₁ x 0) (straight (i * s.pace) f (x - shift s i))) =
        row.done there (omega (arith, v.same)) in
        let z : Filled m₂ m₃ (shift s i + s.minors) (shift s i + s.minors + (s.top - shift s i)) (λ (x : ℕ). op d (get_or m₂ x 0) 0) =
        behind'.done (omega (arith, v.same, q.same)) in
        record {
          level = λ u in'.
              ⊎_elim
              (λ left.
              z.below u (omega arith) ∙ q.below u left ∙ v.within u zero-le (omega arith)
              ∙ ap (op d (get_or m u 0)) (sym (lane-left (shift s) (byte_of s) s.minors f u i left)))
              (λ from.
              ⊎_elim
              (λ hit.
              z.below u hit ∙ q.within u from hit
              ∙ ap₂ (op d) (v.above u (omega arith))
              (ap (λ (x : ℕ). get_or f x 0) (sym (place i (u - shift s i))) ∙ sym (lane_in (shift s) (byte_of s) s.minors f u i from hit)))
              (λ right.
              z.within u right (omega arith)
              ∙ ap₂ (op d) (q.above u right ∙ v.above u (omega arith)) (sym (lane-right (shift s) (byte_of s) s.minors f u i from right)))
              (less_or_not u (shift s i + s.minors)))
              (less_or_not u (shift s i));
        }

  pub levels_started : (f : List ℕ) {m m₁ m₂ : List ℕ} (i : ℕ) → Clears 0 (lines s) m m₁ → LevelsAre s (λ (u : ℕ). op false (get_or m₁ u 0) (pixel_of s f i u)) m₂
      → lines s ≤ length m → LevelsAre s (pixel_of s f i) m₂
  levels_started f i clear held room =
      record {
        level = λ u in'.
            held.level u in' ∙ ap (λ (v : ℕ). op false v (pixel_of s f i u)) ((clear.done (omega arith)).within u zero-le (omega arith)) ∙ zero-op (pixel_of s f i u);
      }

  -- ---- within a block

  -- a line that leaves the frame from one row to the next is out of it for good
  gone : (f : List ℕ) (t k : ℕ) → k < s.minors → (k + shifts p t < shifts p (t + 1)) ⊎ (shifts p (t + 1) + s.minors ≤ k + shifts p t)
      → (j : ℕ) → t + 1 ≤ j → pixel_of s f (row_at d s.majors j) (k + shifts p t) ≡ 0
  gone f t k n out j l =
      ⊎_elim
      (λ left.
      ⊎_elim (λ up. lane-left (shift s) (byte_of s) s.minors f (k + shifts p t) (row_at d s.majors j) (omega (arith, up (t + 1) j l, left)))
      (λ down. absurd (omega (arith, down t (t + 1) (omega arith), left))) steady)
      (λ right.
      ⊎_elim (λ up. absurd (omega (arith, up t (t + 1) (omega arith), right, n)))
      (λ down.
      lane-right (shift s) (byte_of s) s.minors f (k + shifts p t) (row_at d s.majors j) (omega (arith, down (t + 1) j l, right)) (omega (arith, down (t + 1) j l, right)))
      steady)
      out

  pub back_none : (b : List ℕ) (end : ℕ) → RowsAre (start_at p) s.minors (end - 1) end (λ (t k : ℕ). extreme_of p b (k + shifts p t) t (end - 1 - t)) b b
  back_none b end =
      rows-still (start_at p) s.minors (end - 1) end (λ (t k : ℕ). extreme_of p b (k + shifts p t) t (end - 1 - t)) b
      (λ t k l h n.
      let w : end - 1 - t ≡ 0 = omega arith in
      let X : ℕ → ℕ = λ (j : ℕ). pixel_of s b (row_at d s.majors j) (k + shifts p t) in
      sym (ap (extreme d X t) w ∙ extreme-one d X t ∙ pixel-at b t k n))

  pub back_more : {b a a' : List ℕ} (t end : ℕ)
      → RowsAre (start_at p) s.minors (t + 1) end (λ (t k : ℕ). extreme_of p b (k + shifts p t) t (end - 1 - t)) b a
      → Filled a a' (start_at p t) (start_at p t + s.minors)
      (λ (x : ℕ). op d (get_or a x 0) (beside a (start_at p (t + 1)) s.minors (shifts p t) (shifts p (t + 1)) (x - start_at p t)))
      → t + 1 < end → end ≤ s.majors
      → RowsAre (start_at p) s.minors t end (λ (t k : ℕ). extreme_of p b (k + shifts p t) t (end - 1 - t)) b a'
  back_more {b} {a} {a'} t end rows f more top = rows_before parted rows f row (omega arith) top
    where
      line : ℕ → ℕ → ℕ
      line k j = pixel_of s b (row_at d s.majors j) (k + shifts p t)

      next : (k : ℕ) → k < s.minors
          → beside a (start_at p (t + 1)) s.minors (shifts p t) (shifts p (t + 1)) k ≡ extreme d (line k) (t + 1) (end - 1 - (t + 1))
      next k n =
          ⊎_elim
          (λ left.
          beside-left a (start_at p (t + 1)) s.minors (shifts p t) (shifts p (t + 1)) k left
          ∙ sym (extreme-dark d (line k) (t + 1) (end - 1 - (t + 1)) (gone b t k n (inl left))))
          (λ from.
          ⊎_elim
          (λ hit.
          let same : k + shifts p t - shifts p (t + 1) + shifts p (t + 1) ≡ k + shifts p t = omega arith in
          beside_in a (start_at p (t + 1)) s.minors (shifts p t) (shifts p (t + 1)) k from hit
          ∙ rows.within (t + 1) (k + shifts p t - shifts p (t + 1)) (le_refl (t + 1)) more (omega arith)
          ∙ ap (λ (u : ℕ). extreme_of p b u (t + 1) (end - 1 - (t + 1))) same)
          (λ right.
          beside-right a (start_at p (t + 1)) s.minors (shifts p t) (shifts p (t + 1)) k from right
          ∙ sym (extreme-dark d (line k) (t + 1) (end - 1 - (t + 1)) (gone b t k n (inr right))))
          (less_or_not (k + shifts p t) (shifts p (t + 1) + s.minors)))
          (less_or_not (k + shifts p t) (shifts p (t + 1)))

      row : (k : ℕ) → k < s.minors
          → op d (get_or a (start_at p t + k) 0) (beside a (start_at p (t + 1)) s.minors (shifts p t) (shifts p (t + 1)) (start_at p t + k - start_at p t))
          ≡ extreme_of p b (k + shifts p t) t (end - 1 - t)
      row k n =
          let q : start_at p t + k - start_at p t ≡ k = omega arith in
          let w : end - 1 - t ≡ end - 1 - (t + 1) + 1 = omega arith in
          ap (λ (x : ℕ). op d (get_or a (start_at p t + k) 0) (beside a (start_at p (t + 1)) s.minors (shifts p t) (shifts p (t + 1)) x)) q
          ∙ ap₂ (op d) (row_kept parted rows top t k (omega arith) n (inl (omega arith)) ∙ sym (pixel-at b t k n)) (next k n)
          ∙ sym (ap (extreme d (line k) t) w ∙ extreme-back d (line k) t (end - 1 - (t + 1)))

  -- ---- behind a block

  pub on-more : (Φ : ℕ → ℕ → ℕ) {lo t : ℕ} {b a a' m : List ℕ}
      → RowsAre (start_at p) s.minors lo t (λ (t k : ℕ). op d (get_or b (start_at p t + k) 0) (Φ t (k + shifts p t))) b a → LevelsAre s (Φ t) m
      → Filled a a' (start_at p t) (start_at p t + s.minors) (λ (x : ℕ). op d (get_or a x 0) (get_or m (shifts p t + (x - start_at p t)) 0)) → lo ≤ t → t < s.majors
      → RowsAre (start_at p) s.minors lo (t + 1) (λ (t k : ℕ). op d (get_or b (start_at p t + k) 0) (Φ t (k + shifts p t))) b a'
  on-more Φ {lo} {t} rows held f low' in' =
      rows_more parted rows f
      (λ k n.
      ap₂ (op d) (row_kept parted rows (omega arith) t k in' n (inr (le_refl t))) (level-at s to.sane held (row_at d s.majors t) k (row_less d s.majors t in') n))
      low' in'

  pub level-first : (b : List ℕ) {m : List ℕ} (L end t : ℕ) → LevelsAre s (pixel_of s b (row_at d s.majors end)) m → t + L ≡ end + 1 → end < s.majors
      → LevelsAre s (beyond p b L end t) m
  level-first b L end t held first in' =
      let w : min (t + L) s.majors - 1 - end ≡ 0 = omega arith in
      record {
        level = λ u h.
            let X : ℕ → ℕ = λ (j : ℕ). pixel_of s b (row_at d s.majors j) u in
            held.level u h ∙ sym (ap (extreme d X end) w ∙ extreme-one d X end);
      }

  pub level-next : {b a m m' : List ℕ} {F : ℕ → ℕ → ℕ} (L end lo t q : ℕ) → RowsAre (start_at p) s.minors lo (t + 1) F b a
      → LevelsAre s (beyond p b L end t) m → Takes p q a m m' → q ≡ t + L → 1 ≤ L → end < q → t < s.majors → end < s.majors
      → LevelsAre s (beyond p b L end (t + 1)) m'
  level-next {b} {a} {m} {m'} L end lo t q rows held takes e some past in' top =
      ⊎_elim
      (λ more.
      let w : min (t + 1 + L) s.majors - 1 - end ≡ min (t + L) s.majors - 1 - end + 1 = omega arith in
      let there : end + (min (t + L) s.majors - 1 - end) + 1 ≡ q = omega arith in
      record {
        level = λ u h.
            let X : ℕ → ℕ = λ (j : ℕ). pixel_of s b (row_at d s.majors j) u in
            (takes.met more).level u h
            ∙ ap₂ (op d) (held.level u h)
            (pixel-kept a b (row_at d s.majors q) u (λ k n. row_kept parted rows (omega arith) q k more n (inr (omega arith))) ∙ ap X (sym there))
            ∙ sym (ap (extreme d X end) w ∙ extreme-on d X end (min (t + L) s.majors - 1 - end));
      })
      (λ none'.
      let w : min (t + L) s.majors - 1 - end ≡ min (t + 1 + L) s.majors - 1 - end = omega arith in
      record {
        level = λ u h.
            ap (λ (l : List ℕ). get_or l u 0) (takes.none none') ∙ held.level u h ∙ ap (extreme_of p b u end) w;
      })
      (less_or_not q s.majors)

  -- ---- a block

  -- lines are the same in rows that are
  extreme-kept : {b a : List ℕ} {F : ℕ → ℕ → ℕ} (lo hi : ℕ) → RowsAre (start_at p) s.minors lo hi F b a → hi ≤ s.majors → (u t w : ℕ) → hi ≤ t → t + w < s.majors
      → extreme_of p a u t w ≡ extreme_of p b u t w
  extreme-kept {b} {a} lo hi rows top u t w past in' =
      extreme-same d (λ (j : ℕ). pixel_of s a (row_at d s.majors j) u) (λ (j : ℕ). pixel_of s b (row_at d s.majors j) u) t w
      (λ j l h. pixel-kept a b (row_at d s.majors j) u (λ k n. row_kept parted rows top j k (omega arith) n (inr (omega arith))))

  pub block_alone : {b a : List ℕ} (L from end : ℕ)
      → RowsAre (start_at p) s.minors from end (λ (t k : ℕ). extreme_of p b (k + shifts p t) t (end - 1 - t)) b a
      → end ≡ min (from + L) s.majors → (L ≡ 1) ⊎ (s.majors ≤ end) → WindowsMet p L from (min (from + L) s.majors) b a
  block_alone {b} {a} L from end rows e only =
      rows_end
      (rows_as rows (λ (t k : ℕ). extreme_of p b (k + shifts p t) t (min (t + L) s.majors - 1 - t))
      (λ t k l h n.
      let w : end - 1 - t ≡ min (t + L) s.majors - 1 - t = ⊎_elim (λ one. omega arith) (λ last. omega arith) only in
      ap (extreme_of p b (k + shifts p t) t) w))
      e

  pub block_joined : {b a a' : List ℕ} (L from end : ℕ)
      → RowsAre (start_at p) s.minors from end (λ (t k : ℕ). extreme_of p b (k + shifts p t) t (end - 1 - t)) b a
      → RowsAre (start_at p) s.minors (from + 1) (from + L) (λ (t k : ℕ). op d (get_or a (start_at p t + k) 0) (beyond p a L (from + L) t (k + shifts p t))) a a'
      → end ≡ from + L → from + L < s.majors → 2 ≤ L → WindowsMet p L from (min (from + L) s.majors) b a'
  block_joined {b} {a} {a'} L from end back on e short two =
      record {
        same = on.same ∙ back.same;
        within = λ t k l h n.
            let X : ℕ → ℕ = λ (j : ℕ). pixel_of s b (row_at d s.majors j) (k + shifts p t) in
            ⊎_elim
            (λ first.
            let w : end - 1 - t ≡ min (t + L) s.majors - 1 - t = omega arith in
            row_kept parted on (omega arith) t k (omega arith) n (inl first)
            ∙ back.within t k l (omega arith) n
            ∙ ap (extreme d X t) w)
            (λ later.
            let v = end - 1 - t in
            let w = min (t + L) s.majors - 1 - (from + L) in
            let there : from + L ≡ t + v + 1 = omega arith in
            let whole : v + w + 1 ≡ min (t + L) s.majors - 1 - t = whole_sum (min (t + L) s.majors) t end (from + L) e (omega arith) (omega arith) in
            on.within t k later (omega arith) n
            ∙ ap₂ (op d) (back.within t k l (omega arith) n)
            (extreme-kept from end back (omega arith) (k + shifts p t) (from + L) w (omega arith) (tail_fits s.majors (from + L) (t + L) short (omega arith))
            ∙ ap (λ (j : ℕ). extreme d X j w) there)
            ∙ sym (extreme_join d X v t w)
            ∙ ap (extreme d X t) whole)
            (less_or_not t (from + 1));
        other = λ x none. on.other x (λ t k l h n. none t k (omega arith) (omega arith) n) ∙ back.other x (λ t k l h n. none t k l (omega arith) n);
      }

  pub windows_more : {b a a' : List ℕ} (L mid hi : ℕ) → WindowsMet p L 0 mid b a → WindowsMet p L mid hi a a' → mid ≤ hi → hi ≤ s.majors → 1 ≤ L → WindowsMet p L 0 hi b a'
  windows_more {b} {a} {a'} L mid hi rows more order top some =
      rows_join parted rows
      (rows_as more (λ (t k : ℕ). extreme_of p b (k + shifts p t) t (min (t + L) s.majors - 1 - t))
      (λ t k l h n.
      extreme-kept 0 mid rows (omega arith) (k + shifts p t) t (min (t + L) s.majors - 1 - t) l (omega arith)))
      zero-le order top
