-- The stretches of a line, found one after the other, and the `Z` line of each, with the place of its encloser.
--   lines_from f i            the `Z` lines of the line f, from the record at i on
--   Printing f es m p i       where such a reading of f stands, with the enclosers' places in es; printing_start
--   printing_none             the next step finds no stretch: no `Z` line is left
--   printing_past             .. nor where i is behind the last of es
--   printing_first            it finds one: the next `Z` line is that of the stretch found, with the number at i of es
--   printing_more             .. and the reading stands behind it
--   places-there              the enclosers' places stand where the call `enclosers` has put them
-- Assumes nothing.
use mathlib.Core.Path.{◌≡◌, sym, ap, ◌∙◌}
use Rattle.std.specs.Prelude.{None, Some}
use mathlib.Core.List.{List, [], ◌++◌}
use Prim.Native.Nat.{ℕ, suc, ◌+◌, ◌*◌, ◌≤◌, ◌<◌}
use native.Mathlib.Numerals.{add-one}
use native.Mathlib.Omega.{arith}
use lib.ListN.{length, get_or, take, drop, length-take, drop_of_length-le}
use lib.Seq.{drop-cons, get_or-take, take-append_seam}
use borrow.Author.Tests.{le-leb}
use Rattle.answer.specs.Limits.{longest}
use Rattle.bright.specs.declared.Bookmark.{Bookmark}
use Rattle.bright.specs.declared.Step.{Step}
use Rattle.bright.specs.declared.Stretch.{Stretch}
use Rattle.bright.specs.Stretches.{stretches, no_stretch}
use Rattle.bright.specs.Generator.{run8, beginning, coming, Follows}
use Rattle.bright.specs.Nesting.{encloser_of, nested, records, enclosers_of, NestsLine}
use Rattle.bright.proofs.Records.{records-length, records-at, enclosers_length, enclosers_at}
use Rattle.bright.proofs.Steps.{coming-beginning, place_inside, place_found, place-others, place_none}
use Rattle.text.specs.Lines.{line_text}
use Rattle.text.specs.Stretches.{stretch_fields, stretches_text}
use Rattle.text.proofs.Reports.{stretches-cons, stretches-none}

abbrev pub lines_from : List ℕ → ℕ → List ℕ
lines_from f i = stretches_text (drop i (records (stretches f)))

-- i stretches are found, and the others come from the bookmark p with the scratch m; the enclosers' places stand at the front of es
pub record Printing (f es m : List ℕ) (p : Bookmark) (i : ℕ) : Type 0 where
  pub pixels : length f ≤ longest
  pub others : coming run8 f m p ≡ drop i (stretches f)
  pub places : take (length (stretches f)) es ≡ enclosers_of (stretches f)

pub printing_start : (f es m : List ℕ) → length f ≤ longest → 4 * length f ≤ length m → take (length (stretches f)) es ≡ enclosers_of (stretches f) → Printing f es m beginning 0
printing_start f es m pixels room places = record { pixels = pixels; others = coming-beginning run8 f m pixels room; places = places }

lines_past : (f : List ℕ) (i : ℕ) → length (stretches f) ≤ i → lines_from f i ≡ []
lines_past f i h = ap stretches_text (drop_of_length-le (records (stretches f)) (omega (arith, records-length (stretches f)))) ∙ stretches-none

pub printing_none : {f es m : List ℕ} {p : Bookmark} {i : ℕ} → Printing f es m p i → {m' : List ℕ} → Follows run8 f m p m' None → lines_from f i ≡ []
printing_none {f} {es} {m} {p} {i} g h = lines_past f i (place_none h (stretches f) i g.others)

pub printing_past : {f es m : List ℕ} {p : Bookmark} {i : ℕ} → Printing f es m p i → length es ≤ i → lines_from f i ≡ []
printing_past {f} {es} {m} {p} {i} g h =
    let ss = stretches f in
    lines_past f i (omega (arith, ap length g.places, length-take (length ss) es, enclosers_length ss))

module _ {f es m : List ℕ} {p : Bookmark} {i : ℕ} (g : Printing f es m p i) {m' : List ℕ} {s : Step} (h : Follows run8 f m p m' (Some s)) where
  abbrev ss : List Stretch
  ss = stretches f

  inside : i < length ss
  inside = place_inside h ss i g.others

  there : get_or es i 0 ≡ encloser_of ss i
  there = sym (get_or-take (length ss) es i 0 inside) ∙ ap (λ (l : List ℕ). get_or l i 0) g.places ∙ enclosers_at ss i inside

  record_there : get_or (records ss) i (nested no_stretch 0) ≡ nested s.stretch (get_or es i 0)
  record_there =
      rw (place_found h ss i g.others, there) (records-at ss i inside)

  pub printing_first : lines_from f i ≡ line_text 90 (stretch_fields (nested s.stretch (get_or es i 0))) ++ lines_from f (i + 1)
  printing_first =
      ap stretches_text (drop-cons (records ss) i (nested no_stretch 0) (omega (arith, inside, records-length ss)))
      ∙ rw (record_there, add-one) (stretches-cons (nested s.stretch (get_or es i 0)) (drop (suc i) (records ss)))

  pub printing_more : Printing f es m' s.bookmark (i + 1)
  printing_more = record { pixels = g.pixels; others = place-others h ss i g.others; places = g.places }

pub places-there : {f es es' m m' : List ℕ} {r : ℕ} → NestsLine f es es' m m' r → length f ≤ longest → length f ≤ length es → 4 * length f ≤ length m
    → take (length (stretches f)) es' ≡ enclosers_of (stretches f)
places-there {f} {es} {es'} {m} g short room spare =
    let ss = stretches f in
    rw (g.written, le-leb (length f) longest short, le-leb (length f) (length es) room, le-leb (4 * length f) (length m) spare, ← enclosers_length ss)
    (take-append_seam (enclosers_of ss) (drop (length (enclosers_of ss)) es))
