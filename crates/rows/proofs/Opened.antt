-- From what blocks leave to the opening of lines that go down the rows.
--   windows_opened   the opening, from an erosion, with 0 in the rows in which no window begins, and a dilation
--   windows_short    the opening where no window fits
-- Assumes nothing.
use mathlib.Core.Path.{◌≡◌, sym, ap, ◌∙◌, subst}
use mathlib.Core.Bool.{true, false}
use mathlib.Core.List.{List}
use mathlib.Core.Logic.{inl, ⊎_elim}
use Prim.Native.Nat.{ℕ, ◌+◌, ◌-◌, ◌*◌, ◌≤◌, ◌<◌, min, zero-le}
use native.Mathlib.Nat.{le_refl}
use native.Mathlib.Omega.{arith}
use lib.ListN.{length, get_or}
use Rattle.lists.specs.Tables.{table}
use Rattle.lists.proofs.Cases.{less_or_not}
use Rattle.lists.proofs.Tables.{table_same}
use Rattle.line.specs.Windows.{dilated_at}
use Rattle.line.specs.Passes as passes
use Rattle.line.specs.Passes.{eroded_to}
use Rattle.line.proofs.Passes.{dilated-at-all}
use Rattle.line.proofs.Rims.{eroded-to-dark, eroded-to-past}
use Rattle.frame.specs.declared.sweep.Sweep.{Sweep}
use Rattle.frame.specs.Sweep.{shift}
use Rattle.rows.specs.Rows as rows
use Rattle.rows.specs.Rows.{byte_of, lane_at, lane, rows_by, RowsAre, OpensLines}
use Rattle.rows.proofs.Rowwise.{RowsApart, parted-rows, row_kept}
use Rattle.rows.proofs.Lines.{line-length, line_at, rows-pixels, held, opening_is, opened-none}
use Rattle.rows.specs.Down.{Down, pixel_of, descent, extreme_of, WindowsMet}
use Rattle.rows.proofs.Blocks.{side_by_side}
use Rattle.rows.proofs.Extremes.{extreme-darkest, extreme_brightest}

abbrev line_in : Sweep → List ℕ → ℕ → List ℕ
line_in s f u = lane (shift s) (byte_of s) s.minors s.majors f u

module _ (s : Sweep) (f : List ℕ) (u : ℕ) where
  long : length (line_in s f u) ≡ s.majors
  long = line-length (shift s) (byte_of s) s.minors s.majors f u

  pixel : (i : ℕ) → i < s.majors → pixel_of s f i u ≡ get_or (line_in s f u) i 0
  pixel i l = sym (line_at (shift s) (byte_of s) s.minors s.majors f u i l)

  extreme-eroded : (w t : ℕ) → t + w < s.majors → extreme_of (descent s true) f u t w ≡ eroded_to (line_in s f u) (w + 1) t
  unfolding rows.row_at
  extreme-eroded = extreme-darkest (line_in s f u) (λ (j : ℕ). pixel_of s f j u) s.majors long pixel

  extreme-dilated : (w t : ℕ) → t + w < s.majors → extreme_of (descent s false) f u t w ≡ dilated_at (line_in s f u) (w + 1) (s.majors - 1 - t)
  unfolding rows.row_at
  extreme-dilated =
      extreme_brightest (line_in s f u) (λ (j : ℕ). pixel_of s f (s.majors - 1 - j) u) s.majors long (λ j l. pixel (s.majors - 1 - j) (omega arith))

clipped : (t L M : ℕ) → t + L ≤ M → 1 ≤ L → min (t + L) M - 1 - t + 1 ≡ L
clipped t L M fits some = omega arith

clipped_end : (t L M : ℕ) → M < t + L → t < M → min (t + L) M - 1 - t + 1 ≡ M - t
clipped_end t L M past in' = omega arith

clipped_in : (t L M : ℕ) → t < M → 1 ≤ L → t + (min (t + L) M - 1 - t) < M
clipped_in t L M in' some = omega arith

module _ (s : Sweep) (L : ℕ) (some : 1 ≤ L) where
  eroded-rows : {b g g₁ : List ℕ} → RowsApart (rows_by s.pace) s.minors s.majors → WindowsMet (descent s true) L 0 s.majors b g
      → RowsAre (rows_by s.pace) s.minors (s.majors + 1 - L) s.majors (λ (i k : ℕ). 0) g g₁ → L ≤ s.majors
      → RowsAre (rows_by s.pace) s.minors 0 s.majors (λ (i k : ℕ). eroded_to (line_in s b (k + shift s i)) L i) b g₁
  unfolding rows.row_at
  eroded-rows {b} parted e c short =
      record {
        same = c.same ∙ e.same;
        within = λ i k lo in' n.
            ⊎_elim
            (λ upper.
            row_kept parted c (le_refl s.majors) i k in' n (inl upper)
            ∙ e.within i k lo in' n
            ∙ extreme-eroded s b (k + shift s i) (min (i + L) s.majors - 1 - i) i (clipped_in i L s.majors in' some)
            ∙ ap (λ (v : ℕ). eroded_to (line_in s b (k + shift s i)) v i) (clipped i L s.majors (omega arith) some))
            (λ lower.
            c.within i k lower in' n
            ∙ sym (eroded-to-past (line_in s b (k + shift s i)) L i (omega (arith, long s b (k + shift s i)))))
            (less_or_not i (s.majors + 1 - L));
        other = λ x none. c.other x (λ i k l h n. none i k zero-le h n) ∙ e.other x (λ i k l h n. none i k l h n);
      }

  dilated-rows : {b g : List ℕ} → WindowsMet (descent s false) L 0 s.majors b g
      → RowsAre (rows_by s.pace) s.minors 0 s.majors (λ (i k : ℕ). dilated_at (line_in s b (k + shift s i)) L i) b g
  unfolding rows.row_at
  dilated-rows {b} {g} e =
      record {
        same = e.same;
        within = λ i k lo in' n.
            let back : s.majors - 1 - (s.majors - 1 - i) ≡ i = omega arith in
            subst (λ (j : ℕ). get_or g (j * s.pace + k) 0 ≡ dilated_at (line_in s b (k + shift s j)) L j) back
            (e.within (s.majors - 1 - i) k zero-le (omega arith) n
            ∙ whole (s.majors - 1 - i) (k + shift s (s.majors - 1 - (s.majors - 1 - i))) (omega arith));
        other = λ x none. e.other x (λ t k l h n. none (s.majors - 1 - t) k zero-le (omega arith) n);
      }
    where
      whole : (t u : ℕ) → t < s.majors → extreme_of (descent s false) b u t (min (t + L) s.majors - 1 - t) ≡ dilated_at (line_in s b u) L (s.majors - 1 - t)
      whole t u in' =
          extreme-dilated s b u (min (t + L) s.majors - 1 - t) t (clipped_in t L s.majors in' some)
          ∙ ⊎_elim
          (λ past.
          ap (λ (v : ℕ). dilated_at (line_in s b u) v (s.majors - 1 - t)) (clipped_end t L s.majors past in')
          ∙ dilated-at-all (line_in s b u) (s.majors - t) L (s.majors - 1 - t) (omega arith) (omega arith))
          (λ fits. ap (λ (v : ℕ). dilated_at (line_in s b u) v (s.majors - 1 - t)) (clipped t L s.majors fits some))
          (less_or_not s.majors (t + L))

  opened_rows : (place : (i k : ℕ) → byte_of s i k ≡ i * s.pace + k) {f g h : List ℕ}
      → RowsAre (rows_by s.pace) s.minors 0 s.majors (λ (i k : ℕ). eroded_to (line_in s f (k + shift s i)) L i) f g
      → RowsAre (rows_by s.pace) s.minors 0 s.majors (λ (i k : ℕ). dilated_at (line_in s g (k + shift s i)) L i) g h → OpensLines s L f h
  unfolding passes.reopened
  opened_rows place {f} {g} {h} e d =
      let eroded = rows-pixels e (byte_of s) place in
      let dilated = rows-pixels d (byte_of s) place in
      record {
        same = dilated.same ∙ eroded.same;
        within = λ i k l n.
            dilated.within i k l n
            ∙ ap (λ (t : List ℕ). dilated_at t L i) (values (k + shift s i))
            ∙ opening_is (shift s) (byte_of s) s.minors s.majors f L i k some l;
        other = λ x none. dilated.other x none ∙ eroded.other x none;
      }
    where
      values : (u : ℕ) → line_in s g u ≡ table (eroded_to (line_in s f u) L) (length (line_in s f u))
      values u =
          table_same (lane_at (shift s) (byte_of s) s.minors g u) (eroded_to (line_in s f u) L) s.majors
          (λ i l.
          held (shift s) (byte_of s) s.minors s.majors f {B = λ (v j : ℕ). eroded_to (line_in s f v) L j} (rows-pixels e (byte_of s) place)
          (λ v j q dark. eroded-to-dark (line_in s f v) L j some dark) u i l)
          ∙ ap (table (eroded_to (line_in s f u) L)) (sym (long s f u))

  pub windows_opened : {f g g₁ h : List ℕ} → Down s f → WindowsMet (descent s true) L 0 s.majors f g
      → RowsAre (rows_by s.pace) s.minors (s.majors + 1 - L) s.majors (λ (i k : ℕ). 0) g g₁ → WindowsMet (descent s false) L 0 s.majors g₁ h → L ≤ s.majors
      → OpensLines s L f h
  windows_opened to erosion clear dilation short =
      opened_rows (side_by_side s to.next) (eroded-rows (parted-rows s.pace s.minors s.majors to.apart) erosion clear short) (dilated-rows dilation)

  pub windows_short : {f h : List ℕ} → Down s f → RowsAre (rows_by s.pace) s.minors 0 s.majors (λ (i k : ℕ). 0) f h → s.majors < L → OpensLines s L f h
  windows_short {f} to clear short =
      opened-none (shift s) (byte_of s) s.minors s.majors f L short (rows-pixels clear (byte_of s) (side_by_side s to.next))
