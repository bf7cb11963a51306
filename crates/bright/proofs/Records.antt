-- The list as records of five numbers, and the fifth numbers alone, place by place.
--   records-length, records-at        how many records there are, and which stands at each place
--   records-stretches                 without their fifth numbers they are the list
--   enclosers_length, enclosers_at    the same of the fifth numbers
-- Assumes nothing.
use mathlib.Core.Path.{◌≡◌, refl, sym, ◌∙◌}
use mathlib.Core.List.{List, map}
use Prim.Native.Nat.{ℕ, ◌<◌}
use lib.ListN.{length, get_or}
use Rattle.lists.proofs.Tables.{length-table, get_d_table, table-by}
use Rattle.lists.proofs.Picks.{map-table}
use Rattle.bright.specs.declared.Stretch.{Stretch}
use Rattle.bright.specs.declared.Nested.{Nested}
use Rattle.bright.specs.Stretches.{no_stretch}
use Rattle.bright.specs.Nesting.{stretch_at, encloser_of, nested, records, enclosers_of}

module _ (ss : List Stretch) where
  pub records-length : length (records ss) ≡ length ss
  unfolding records
  records-length = length-table (λ (i : ℕ). nested (stretch_at ss i) (encloser_of ss i)) (length ss)

  pub records-at : (i : ℕ) → i < length ss → get_or (records ss) i (nested no_stretch 0) ≡ nested (stretch_at ss i) (encloser_of ss i)
  unfolding records
  records-at i h = get_d_table (nested no_stretch 0) (λ (j : ℕ). nested (stretch_at ss j) (encloser_of ss j)) (length ss) i h

  pub records-stretches : map (λ (r : Nested). r.stretch) (records ss) ≡ ss
  unfolding records
  records-stretches =
      map-table (λ (r : Nested). r.stretch) (λ (i : ℕ). nested (stretch_at ss i) (encloser_of ss i)) (length ss)
      ∙ sym (table-by no_stretch ss (stretch_at ss) (length ss) refl (λ i h. refl))

  pub enclosers_length : length (enclosers_of ss) ≡ length ss
  unfolding enclosers_of
  enclosers_length = length-table (encloser_of ss) (length ss)

  pub enclosers_at : (i : ℕ) → i < length ss → get_or (enclosers_of ss) i 0 ≡ encloser_of ss i
  unfolding enclosers_of
  enclosers_at i h = get_d_table 0 (encloser_of ss) (length ss) i h
