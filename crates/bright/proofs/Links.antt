-- What the two passes of a nesting keep to. The first finds the stretches and notes where the encloser of each starts; the second goes from the last record down and
-- finds the encloser's place as the latest seen that starts there.
--   Finding                           where the first stands, with i stretches found
--   finding_start, -more, -step       it begins so; another stretch found is one of the list; so it goes on
--   finding_noted, finding_end        the stretch found is noted as the list has it; where none is found, all are
--   SeenFrom ss m k                   of the records from k on, the scratch m has at each start the first that starts there
--   seen_none, seen_step              nothing is seen; one more record is
--   link_needs, link_encloser         what `link` asks for; it finds the encloser's place
--   Linking                           where the second stands in the call `enclosers`, with the records from k on linked
--   linking_start, -needs, -step, -end    it begins so where the first ends; it can link one more record; so it goes on; at 0 all have their enclosers' places
--   can_nest_room                     what a line that can be nested counts on
-- Assumes nothing.
use mathlib.Core.Path.{◌≡◌, refl, sym, ap, ◌∙◌}
use mathlib.Core.Bool.{true, ◌&&◌}
use mathlib.Core.List.{List, []}
use mathlib.Core.Logic.{◌⊎◌, inl, inr, ⊎_elim}
use Prim.Native.Nat.{ℕ, suc, ◌+◌, ◌-◌, ◌*◌, ◌≤◌, ◌<◌, zero-le}
use native.Mathlib.Nat.{le_refl}
use native.Mathlib.Numerals.{add-one}
use native.Mathlib.Omega.{arith}
use lib.Dec.{leb}
use lib.ListN.{length, get_or, set, drop, length-set, length-drop}
use lib.Seq.{get_or-set_other}
use borrow.Author.Tests.{leb-true, eq-eqb, ne_eqb}
use Rattle.std.specs.Prelude.{None, Some}
use Rattle.lists.specs.Stores.{Filled, front}
use Rattle.lists.proofs.Cases.{both_left, both_right, less_or_not}
use Rattle.lists.proofs.Stores.{filled_none, filled-before, filled_again, filled_end, filled-start, filled_as, filled-front}
use Rattle.answer.specs.Limits.{longest}
use Rattle.bright.specs.declared.Stretch.{Stretch}
use Rattle.bright.specs.declared.Bookmark.{Bookmark}
use Rattle.bright.specs.declared.Noted.{Noted}
use Rattle.bright.specs.Stretches.{stretches}
use Rattle.bright.specs.Reading.{top_start}
use Rattle.bright.specs.Generator.{Layout, pair_at, stack_of, coming, beginning}
use Rattle.bright.specs.Nesting.{stretch_at, encloser_of, enclosers_of, can_nest}
use Rattle.bright.specs.Steps.{outer_of, noted, Notes, Links, NotesAll}
use Rattle.bright.proofs.Steps.{coming-beginning, place_inside, place_found, place-others, place_none}
use Rattle.bright.proofs.Counting.{stretches-few}
use Rattle.bright.proofs.Outers.{Rising, FirstLow, next-rising, next-outer, low-next}
use Rattle.bright.proofs.Enclosers.{next_encloser, encloser_next, encloser_own, encloser_inside, last-whole, start-inside}
use Rattle.bright.proofs.Records.{enclosers_length, enclosers_at}

-- ---- the first pass

pub record Finding (run : Layout) (f m : List ℕ) (p : Bookmark) (i : ℕ) : Type 0 where
  pub comes : coming run f m p ≡ drop i (stretches f)
  pub inside : i ≤ length (stretches f)
  pub rises : Rising p.read (stack_of run m p.depth)

pub finding_start : (run : Layout) (f m : List ℕ) → length f ≤ longest → 4 * length f ≤ length m → Finding run f m beginning 0
unfolding stack_of Rising
finding_start run f m pixels room = record { comes = coming-beginning run f m pixels room; inside = omega arith; rises = tt }

module _ {run : Layout} {f m : List ℕ} {p : Bookmark} {i : ℕ} {m' : List ℕ} {n : Noted} (g : Finding run f m p i) (h : Notes run f m p m' (Some n)) where
  abbrev ss : List Stretch
  ss = stretches f

  pub finding_more : i < length ss
  finding_more = place_inside h.follows ss i g.comes

  found : n.nested.stretch ≡ stretch_at ss i
  found = place_found h.follows ss i g.comes

  rest : coming run f m' n.bookmark ≡ drop (i + 1) ss
  rest = place-others h.follows ss i g.comes

  pub finding_step : Finding run f m' n.bookmark (i + 1)
  finding_step = record { comes = rest; inside = omega (arith, finding_more); rises = next-rising h.follows g.rises }

  abbrev start-at : ℕ → ℕ
  start-at j = (stretch_at ss j).start

  abbrev top : ℕ
  top = top_start (stack_of run m' n.bookmark.depth)

  -- the last stretch is the whole line, which starts at 0 and has its own place; another has the next that does not start after it
  outer : ((coming run f m' n.bookmark ≡ []) × (top ≡ 0)) ⊎ FirstLow n.nested.stretch.start top (coming run f m' n.bookmark) → outer_of ss i ≡ top
  outer (inl q) =
      let last : i ≡ length ss - 1 = omega (arith, finding_more, ap length (sym rest ∙ q.0), length-drop (i + 1) ss) in
      let whole = last-whole f (omega (arith, start-inside f i finding_more)) in
      ap start-at (encloser_own f i finding_more last ∙ last) ∙ whole.0 ∙ sym q.1
  outer (inr q) =
      let next = low-next ss i top finding_more (rw (found, rest, add-one i) at q) in
      ap start-at (next_encloser f i next.0 next.1) ∙ next.2

  pub finding_noted : n.nested ≡ noted ss i
  finding_noted =
      let e : n.nested.encloser ≡ outer_of ss i = h.outer ∙ sym (outer (next-outer h.follows g.rises)) in
      rw (← found, ← e) refl

pub finding_end : {run : Layout} {f m : List ℕ} {p : Bookmark} {i : ℕ} {m' : List ℕ} → Finding run f m p i → Notes run f m p m' None → i ≡ length (stretches f)
finding_end {f = f} {i = i} g h = omega (arith, g.inside, place_none h.follows (stretches f) i g.comes)

-- ---- the second pass

pub record SeenFrom (ss : List Stretch) (m : List ℕ) (k : ℕ) : Type 0 where
  pub latest : (j : ℕ) → k ≤ j → j < length ss → ((i : ℕ) → k ≤ i → i < j → (stretch_at ss i).start ≡ (stretch_at ss j).start → ⊥) → pair_at m (2 * (stretch_at ss j).start) ≡ j

pub seen_none : (ss : List Stretch) (m : List ℕ) → SeenFrom ss m (length ss)
seen_none ss m = record { latest = λ j p q r. absurd (omega arith) }

module _ (f m : List ℕ) (k : ℕ) (h : k < length (stretches f)) where
  abbrev list : List Stretch
  list = stretches f

  pub link_needs : length f ≤ longest → 4 * length f ≤ length m
      → (2 * (stretch_at list k).start + 2 ≤ length m) × (2 * outer_of list k + 2 ≤ length m) × (k < length list) × (length list ≤ longest)
  link_needs pixels room = (
    omega (arith, start-inside f k h),
    omega (arith, start-inside f (encloser_of list k) (encloser_inside f k h)),
    h,
    omega (arith, stretches-few f),
  )

  module _ (s : SeenFrom list m (suc k)) (m' : List ℕ) (r : ℕ) (l : Links m (stretch_at list k).start (outer_of list k) k (length list) m' r) where
    -- those between a record and its encloser start after both
    pub link_encloser : r ≡ encloser_of list k
    link_encloser =
        ⊎_elim
        (λ (more : suc k < length list).
        let u = encloser_next f k more in
        let e = encloser_of list k in
        l.found ∙ rw (ne_eqb (k + 1) (length list) (λ q. omega arith))
        (s.latest e u.after u.inside (λ i p q same. omega (arith, u.low, u.between i p q))))
        (λ (last : length list ≤ suc k).
        let here : k ≡ length list - 1 = omega arith in
        l.found ∙ rw (eq-eqb (k + 1) (length list) (omega arith)) (sym (encloser_own f k h here)))
        (less_or_not (suc k) (length list))

    pub seen_step : SeenFrom list m' k
    seen_step = record { latest = λ j p q new. ⊎_elim (later j q new) (same j p) (less_or_not k j) }
      where
        later : (j : ℕ) → j < length list → ((i : ℕ) → k ≤ i → i < j → (stretch_at list i).start ≡ (stretch_at list j).start → ⊥) → k < j → pair_at m' (2 * (stretch_at list j).start) ≡ j
        later j q new p = l.others (stretch_at list j).start (λ e. new k (le_refl k) p (sym e)) ∙ s.latest j p q (λ i a b. new i (omega arith) b)

        same : (j : ℕ) → k ≤ j → j ≤ k → pair_at m' (2 * (stretch_at list j).start) ≡ j
        same j p q = let e : j ≡ k = omega arith in rw e l.here

-- of count records those from k on have the places of their enclosers, the others the starts; outers and m are the places and the scratch where the pass begins
pub record Linking (f starts outers m : List ℕ) (count : ℕ) (places m' : List ℕ) (k : ℕ) : Type 0 where
  pub pixels : length f ≤ longest
  pub room : length f ≤ length places
  pub spare : 4 * length f ≤ length m'
  pub all : count ≡ length (stretches f)
  pub few : count ≤ length f
  pub down : k ≤ count
  pub starting : (i : ℕ) → i < count → get_or starts i 0 ≡ (stretch_at (stretches f) i).start
  pub outer : (i : ℕ) → i < k → get_or places i 0 ≡ outer_of (stretches f) i
  pub linked : Filled outers places k count (encloser_of (stretches f))
  pub seen : SeenFrom (stretches f) m' k
  pub kept : length m' ≡ length m

pub linking_start : {f starts outers m starts' outers' m' : List ℕ} {count : ℕ} → NotesAll f starts outers m starts' outers' m' count
    → length f ≤ longest → length f ≤ length outers → 4 * length f ≤ length m → Linking f starts' outers' m' count outers' m' count
linking_start {f} {outers' = outers'} {m' = m'} {count = count} h pixels room spare =
    record {
      pixels = pixels;
      room = omega (arith, h.outer.same);
      spare = omega (arith, h.kept);
      all = h.counts;
      few = omega (arith, h.counts, stretches-few f);
      down = le_refl count;
      starting = λ i p. h.starting.within i zero-le (omega (arith, h.counts));
      outer = λ i p. h.outer.within i zero-le (omega (arith, h.counts));
      linked = filled_none outers' count (encloser_of (stretches f));
      seen = rw h.counts (seen_none (stretches f) m');
      kept = refl;
    }

module _ {f starts outers m : List ℕ} {count : ℕ} {places m' : List ℕ} {k : ℕ} (g : Linking f starts outers m count places m' k) (some : 0 < k) where
  abbrev lower : ℕ
  lower = k - 1

  more : lower < length (stretches f)
  more = omega (arith, some, g.down, g.all)

  start_is : get_or starts lower 0 ≡ (stretch_at (stretches f) lower).start
  start_is = g.starting lower (omega (arith, some, g.down))

  outer-is : get_or places lower 0 ≡ outer_of (stretches f) lower
  outer-is = g.outer lower (omega (arith, some))

  pub linking_needs : (2 * get_or starts lower 0 + 2 ≤ length m') × (2 * get_or places lower 0 + 2 ≤ length m') × (lower < count) × (count ≤ longest)
  linking_needs = rw (start_is, outer-is, g.all) (link_needs f m' lower more g.pixels g.spare)

  pub linking_step : {m'' : List ℕ} {r : ℕ} → Links m' (get_or starts lower 0) (get_or places lower 0) lower count m'' r
      → Linking f starts outers m count (set places lower r) m'' lower
  linking_step {m''} {r} h =
      record {
        pixels = g.pixels;
        room = omega (arith, g.room, length-set places lower r);
        spare = omega (arith, g.spare, h.kept);
        all = g.all;
        few = g.few;
        down = omega (arith, g.down);
        starting = g.starting;
        outer = λ i p. get_or-set_other places lower i r 0 (omega arith) ∙ g.outer i (omega arith);
        linked = filled-before g.linked (omega (arith, some)) g.down (omega (arith, some, g.room, g.few, g.down)) (link_encloser f m' lower more seen m'' r links);
        seen = seen_step f m' lower more seen m'' r links;
        kept = h.kept ∙ g.kept;
      }
    where
      links : Links m' (stretch_at (stretches f) lower).start (outer_of (stretches f) lower) lower (length (stretches f)) m'' r
      links = rw (start_is, outer-is, g.all) at h

      seen : SeenFrom (stretches f) m' (suc lower)
      seen = let e : suc lower ≡ k = omega (arith, some) in rw e g.seen

pub linking_end : {f starts outers m starts' outers' m' : List ℕ} {count : ℕ} {places m'' : List ℕ} {k : ℕ} → NotesAll f starts outers m starts' outers' m' count
    → Linking f starts' outers' m' count places m'' k → k ≡ 0 → places ≡ front (enclosers_of (stretches f)) outers
linking_end {f} h g none =
    filled-front (enclosers_of (stretches f))
    (filled_as (filled_again h.outer (filled_end (filled-start g.linked none) g.all)) (λ (i : ℕ). get_or (enclosers_of (stretches f)) i 0)
    (λ i p q. sym (enclosers_at (stretches f) i q)))
    (enclosers_length (stretches f))
    (omega (arith, stretches-few f, g.room, g.linked.same, h.outer.same))

pub can_nest_room : (n room spare : ℕ) → can_nest n room spare ≡ true → (n ≤ longest) × (n ≤ room) × (4 * n ≤ spare)
can_nest_room n room spare e =
    let rest = both_right (leb n longest) (leb n room && leb (4 * n) spare) e in (
      leb-true n longest (both_left (leb n longest) (leb n room && leb (4 * n) spare) e),
      leb-true n room (both_left (leb n room) (leb (4 * n) spare) rest),
      leb-true (4 * n) spare (both_right (leb n room) (leb (4 * n) spare) rest),
    )
