-- Demand 3: what a done listing has put into the table, from its contract alone.
--   listing_done          a line of 1 to 4,096 pixels and a table and scratch with room: the call is done; room-enough: entries for every pixel are room
--   in_table              the stretches of the first entries of the table, as many as the figure says; listed-is: they are the bright stretches
--   holds-every           the list holds every run whose darkest pixel outshines its neighbours; level-is: what 'its darkest pixel' is
--   whole-line            the whole line is always one of them
--   nothing_else          and nothing else
--   in_order, each-once   earlier end first and the shorter first among equal ends; no two entries are the same
--   entries_stay          entries past the list do not change
--   openings_from-list    for every length, a pixel's opening from the list
--   bins-from-list, rest-from-list    the size sums from the list
--   fifth i               the fifth number of the record at the place i
--   fifth-right           it is the place of the shortest other stretch that encloses this one, and of the whole line its own
--   fifth-once            no two values are right for a record
--   fifth-next            of each but the last: it is the place of the next record that does not start after this one
--   fifth-base            of each but the last: the base is the level of the record at that place
--   fifth-whole           the last record is the whole line: its fifth number is its own place, and its base 0
-- Assumes nothing.
use mathlib.Core.Path.{◌≡◌, sym, ap, ◌∙◌}
use mathlib.Core.List.{List, Memᴰ, map}
use Prim.Native.Nat.{ℕ, suc, ◌-◌, ◌*◌, ◌≤◌, ◌<◌}
use native.Mathlib.Omega.{arith}
use lib.Dec.{eqb, ltb}
use lib.ListN.{length, get_or, take}
use lib.Seq.{take-append_seam}
use borrow.Author.Tests.{le-ltb}
use Rattle.lists.specs.Extremes.{greatest}
use Rattle.lists.specs.Stores.{front}
use Rattle.lists.proofs.Members.{mem_at}
use Rattle.lists.proofs.Stores.{front_at, front-past}
use Rattle.answer.specs.declared.Answer.{Answer}
use Rattle.answer.specs.Limits.{longest}
use Rattle.answer.specs.Rules.{done}
use Rattle.answer.proofs.Rules.{after-done, outside_not}
use Rattle.line.specs.Windows.{opened}
use Rattle.bright.specs.declared.Stretch.{Stretch}
use Rattle.bright.specs.declared.Nested.{Nested}
use Rattle.bright.specs.Stretches.{level_of, stretch_of, stretches, Bright, ListedBefore, no_stretch}
use Rattle.bright.specs.Nesting.{stretch_at, encloser_of, nested, records, RightPlace, NextLow}
use Rattle.bright.specs.Listing.{ListsLine}
use Rattle.bright.proofs.Listed.{stretch-listed, listed-stretch}
use Rattle.bright.proofs.Order.{stretches-ordered, ordered-before, before_differs}
use Rattle.bright.proofs.Nest.{base-whole}
use Rattle.bright.proofs.Enclosers.{whole-last, encloser_next, encloser_own, encloser_right, right-once, encloser_base}
use Rattle.bright.proofs.Records.{records-length, records-at, records-stretches}
use Rattle.bright.proofs.Counting.{stretches-few}
use Rattle.bridge.specs.Reach.{reaching}
use Rattle.bridge.specs.Sums.{bin_for, rest_for, light_of}
use Rattle.bridge.proofs.Openings.{opened-stretches}
use Rattle.bridge.proofs.Sizes.{bin-stretches, rest-stretches}
use Rattle.theorems.specs.Equation.{Darkest}
use Rattle.theorems.proofs.Facts.{darkest-is}
use Rattle.theorems.proofs.Refusals.{list-settled}

pub room-enough : (f : List ℕ) (table : List Nested) → length f ≤ length table → length (stretches f) ≤ length table
room-enough f table h = omega (arith, stretches-few f)

-- the level of a run is its darkest pixel
pub level-is : (f : List ℕ) (i b : ℕ) → Bright f i b → Darkest f i (b - i) (level_of f i b)
unfolding level_of
level-is f i b s = darkest-is f i (b - i) (omega (arith, s.some)) (omega (arith, s.some, s.inside))

-- 'The whole line is always a stretch, at level 0 too.'
pub whole-line : (f : List ℕ) → 1 ≤ length f → Bright f 0 (length f)
whole-line f some = record { some = some; inside = omega arith; left = λ j e. absurd (omega arith); right = λ h. absurd (omega arith) }

module _ {f : List ℕ} {table table' : List Nested} {scratch scratch' : List ℕ} {a : Answer} (p : ListsLine f table table' scratch scratch' a) where
  -- 'For every line of 1 to 4,096 pixels and a table and scratch with room'
  pub listing_done : 1 ≤ length f → length f ≤ longest → 8 * length f ≤ length scratch → length (stretches f) ≤ length table
      → a ≡ done (length (stretches f))
  listing_done some most spare room =
      p.answers ∙ rw (le-ltb (length f) 1 some, le-ltb longest (length f) most, le-ltb (length scratch) (8 * length f) spare, le-ltb (length table) (length (stretches f)) room)

  -- the entries that the call has listed, without their fifth numbers
  abbrev in_table : List Stretch
  in_table = map (λ (r : Nested). r.stretch) (take a.figure table')

  abbrev fifth : ℕ → ℕ
  fifth i = (get_or table' i (nested no_stretch 0)).encloser

  module _ (z : a.number ≡ 0) where
    counted : a.figure ≡ length (stretches f)
    counted = let s = list-settled p in ap (λ (a : Answer). a.figure) (s.done_if (s.only_if z))

    filled : table' ≡ front (records (stretches f)) table
    filled = p.written ∙ after-done a (front (records (stretches f)) table) table z

    -- the entries that the call has listed are the bright stretches, 'A done listing hands back the count of stretches'
    pub listed-is : in_table ≡ stretches f
    listed-is =
        let e : take a.figure table' ≡ records (stretches f) = rw (counted ∙ sym (records-length (stretches f)), filled) (take-append_seam (records (stretches f)) _) in
        rw e (records-stretches (stretches f))

    -- 'the list of bright stretches holds every run whose darkest pixel outshines the neighbour at each end, where there is one'
    pub holds-every : (i b : ℕ) → Bright f i b → Memᴰ (stretch_of f i b) in_table
    holds-every i b s = rw listed-is (stretch-listed f i b s)

    -- 'It holds .. nothing else'
    pub nothing_else : (s : Stretch) → Memᴰ s in_table → (i : ℕ) × (b : ℕ) × Bright f i b × (s ≡ stretch_of f i b)
    nothing_else s m = listed-stretch f s (rw listed-is at m)

    -- 'earlier end first and the shorter first among equal ends'
    pub in_order : (e : Stretch) (i j : ℕ) → i < j → j < a.figure → ListedBefore (get_or in_table i e) (get_or in_table j e)
    in_order e i j h k = rw listed-is (ordered-before e (stretches f) i j (stretches-ordered f) h (omega (arith, counted)))

    -- 'It holds each once'
    pub each-once : (e : Stretch) (i j : ℕ) → i < j → j < a.figure → get_or in_table i e ≡ get_or in_table j e → ⊥
    each-once e i j h k = before_differs (get_or in_table i e) (get_or in_table j e) (in_order e i j h k)

    -- 'Entries past the list do not change.'
    pub entries_stay : (e : Nested) (k : ℕ) → a.figure ≤ k → get_or table' k e ≡ get_or table k e
    entries_stay e k h =
        ap (λ (l : List Nested). get_or l k e) filled ∙ front-past (records (stretches f)) table k e (omega (arith, counted, records-length (stretches f)))

    -- 'For every length, a pixel's opening is the highest such darkest pixel among the listed runs at least that long that hold it, and 0 if none does.'
    pub openings_from-list : (L x : ℕ) → 1 ≤ L → x < length f → get_or (opened f L) x 0 ≡ greatest (reaching L x in_table)
    openings_from-list L x some h = rw listed-is (opened-stretches f L x some h)

    -- 'The size sums follow from the list as in 01.' 'the bin for a length is the total of length × (level − base) over the stretches of just that length'
    pub bins-from-list : (L : ℕ) → 1 ≤ L → bin_for f L ≡ light_of (λ (k : ℕ). eqb k L) in_table
    bins-from-list L some = rw listed-is (bin-stretches f L some)

    -- 'and the rest the same total over those longer than K'
    pub rest-from-list : (K : ℕ) → rest_for f K ≡ light_of (λ (k : ℕ). ltb K k) in_table
    rest-from-list K = rw listed-is (rest-stretches f K)

    -- ---- the fifth number

    fifth-is : (i : ℕ) → i < a.figure → fifth i ≡ encloser_of (stretches f) i
    fifth-is i h =
        ap (λ (r : Nested). r.encloser)
        (ap (λ (l : List Nested). get_or l i (nested no_stretch 0)) filled
        ∙ front_at (records (stretches f)) table i (nested no_stretch 0) (omega (arith, counted, records-length (stretches f)))
        ∙ records-at (stretches f) i (omega (arith, counted)))

    -- 'the place, from 0, in the list of the shortest other stretch that encloses it; the whole line carries its own place'
    pub fifth-right : (i : ℕ) → i < a.figure → RightPlace (length f) in_table i (fifth i)
    fifth-right i h = rw (listed-is, fifth-is i h) (encloser_right f i (omega (arith, counted)))

    -- 'exactly one value is right for each record'
    pub fifth-once : (i j k : ℕ) → i < a.figure → RightPlace (length f) in_table i j → RightPlace (length f) in_table i k → j ≡ k
    fifth-once i j k h u v = right-once f i j k (omega (arith, counted)) (rw listed-is at u) (rw listed-is at v)

    -- how a screen may find it from the other four numbers
    pub fifth-next : (i : ℕ) → suc i < a.figure → NextLow in_table i (fifth i)
    fifth-next i h = rw (listed-is, fifth-is i (omega arith)) (encloser_next f i (omega (arith, counted)))

    pub fifth-base : (i : ℕ) → suc i < a.figure → (stretch_at in_table i).base ≡ (stretch_at in_table (fifth i)).level
    fifth-base i h = rw (listed-is, fifth-is i (omega arith)) (encloser_base f i (omega (arith, counted)))

    pub fifth-whole : (stretch_at in_table (a.figure - 1) ≡ stretch_of f 0 (length f)) × (fifth (a.figure - 1) ≡ a.figure - 1) × ((stretch_at in_table (a.figure - 1)).base ≡ 0)
    unfolding stretch_of
    fifth-whole =
        let some = (outside_not 1 longest (length f) ((list-settled p).only_if z).0).0 in
        let m = mem_at no_stretch (stretch_of f 0 (length f)) (stretches f) (stretch-listed f 0 (length f) (whole-line f some)) in
        let last = whole-last f m.0 m.1 (ap (λ (s : Stretch). s.start) m.2, ap (λ (s : Stretch). s.end) m.2) in
        let own : fifth m.0 ≡ m.0 = fifth-is m.0 (omega (arith, m.1, counted)) ∙ encloser_own f m.0 m.1 last in
        let here : m.0 ≡ a.figure - 1 = omega (arith, last, counted) in
        let whole : stretch_at in_table (a.figure - 1) ≡ stretch_of f 0 (length f) = rw (← here, listed-is) m.2 in
        (whole, rw here at own, ap (λ (s : Stretch). s.base) whole ∙ base-whole f)
