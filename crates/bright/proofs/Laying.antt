-- What the two loops of the listing keep to. The first lays the stretches found into the table, each with the start of its encloser noted; the second goes from the last
-- record down and gives each the place of its encloser.
--   listed f t o             the rules of a listing of f into the table t with the scratch o
--   Listable f t o           what a call that is not refused can count on; listable
--   laid f t i               the table t once i stretches are laid
--   Laying                   where the first loop stands; laying_start, -begins, -room, -less, -length, -table, -step
--   placed f t c k           the table t once the records from k on, of c, have their enclosers
--   Placing                  where the second loop stands; placing_start, -begins, -needs, -here, -table, -step, -end
-- Assumes nothing.
use mathlib.Core.Path.{◌≡◌, refl, sym, ap, ◌∙◌}
use mathlib.Core.Bool.{cond}
use mathlib.Core.List.{List, ◌++◌}
use mathlib.Core.Logic.{⊎_elim}
use Prim.Native.Nat.{ℕ, suc, ◌+◌, ◌-◌, ◌*◌, ◌≤◌, ◌<◌}
use native.Mathlib.Nat.{le_refl}
use native.Mathlib.Numerals.{add-one}
use native.Mathlib.Omega.{arith}
use lib.Dec.{ltb}
use lib.ListN.{length, get_or, set, drop, length-set}
use lib.Seq.{get_or-set_same, get_or-set_other, set-append_left}
use borrow.Author.Tests.{ltb-false, lt-ltb, le-ltb}
use Rattle.std.specs.Prelude.{None, Some}
use Rattle.lists.specs.Stores.{front}
use Rattle.lists.specs.Tables.{each, table}
use Rattle.lists.proofs.Cases.{less_or_not}
use Rattle.lists.proofs.Stores.{front_at, front_length, front-more}
use Rattle.lists.proofs.Tables.{length-table, get_d_table, table_same, table-by}
use Rattle.answer.specs.Limits.{longest}
use Rattle.answer.specs.Rules.{Rule, answer, done}
use Rattle.answer.proofs.Rules.{kept, done-kept, outside_not}
use Rattle.bright.specs.declared.Stretch.{Stretch}
use Rattle.bright.specs.declared.Nested.{Nested}
use Rattle.bright.specs.declared.Bookmark.{Bookmark}
use Rattle.bright.specs.declared.Noted.{Noted}
use Rattle.bright.specs.Stretches.{stretches, no_stretch}
use Rattle.bright.specs.Generator.{Layout, beginning}
use Rattle.bright.specs.Nesting.{stretch_at, encloser_of, nested, records}
use Rattle.bright.specs.Listing.{list_rules, ListsLine}
use Rattle.bright.specs.Steps.{outer_of, noted, Notes, Links}
use Rattle.bright.proofs.Links.{Finding, finding_start, finding_more, finding_step, finding_noted, finding_end, SeenFrom, seen_none, seen_step, link_needs, link_encloser}

abbrev pub listed : List ℕ → List Nested → List ℕ → List Rule
listed f t o = list_rules (length f) (length o) (length t) (length (stretches f))

pub record Listable (f : List ℕ) (t : List Nested) (o : List ℕ) : Type 0 where
  pub pixels : length f ≤ longest
  pub spare : 8 * length f ≤ length o
  pub room : length (stretches f) ≤ length t

pub listable : (f : List ℕ) (t : List Nested) (o : List ℕ) → (answer (listed f t o) 0).number ≡ 0 → Listable f t o
listable f t o z =
    let held = kept (listed f t o) 0 refl z in
    record {
      pixels = (outside_not 1 longest (length f) held.0).1;
      spare = ltb-false (length o) (8 * length f) held.1.0;
      room = ltb-false (length t) (length (stretches f)) held.1.1.0;
    }

-- ---- the first loop

-- i stretches are laid; t and o are the table and the scratch as they were lent
pub record Laying (run : Layout) (f : List ℕ) (t : List Nested) (o : List ℕ) (i : ℕ) (m : List ℕ) (p : Bookmark) : Type 0 where
  pub can : Listable f t o
  pub finding : Finding run f m p i
  pub kept : length m ≡ length o

abbrev pub laid : List ℕ → List Nested → ℕ → List Nested
laid f t i = front (table (noted (stretches f)) i) t

pub laying_start : (run : Layout) (f : List ℕ) (t : List Nested) (o : List ℕ) → Listable f t o → Laying run f t o 0 o beginning
laying_start run f t o can = record { can = can; finding = finding_start run f o can.pixels (omega (arith, can.spare)); kept = refl }

pub laying_begins : (f : List ℕ) (t : List Nested) → t ≡ laid f t 0
unfolding each
laying_begins f t = refl

module _ {run : Layout} {f : List ℕ} {t : List Nested} {o : List ℕ} {i : ℕ} {m : List ℕ} {p : Bookmark} (g : Laying run f t o i m p)
    {m' : List ℕ} {n : Noted} (h : Notes run f m p m' (Some n)) where
  abbrev ss : List Stretch
  ss = stretches f

  pub laying_room : i < length t
  laying_room = omega (arith, finding_more g.finding h, g.can.room)

  pub laying_less : length ss - (i + 1) < length ss - i
  laying_less = omega (arith, finding_more g.finding h)

  pub laying_length : length (laid f t i) ≡ length t
  laying_length = front_length t (table (noted ss) i) (omega (arith, length-table (noted ss) i, laying_room))

  -- the record stored behind those laid
  pub laying_table : set (laid f t i) i n.nested ≡ laid f t (i + 1)
  unfolding each
  laying_table =
      let l = length-table (noted ss) i in
      ap (set (laid f t i) i) (finding_noted g.finding h) ∙ ap (λ (k : ℕ). set (laid f t i) k (noted ss i)) (sym l)
      ∙ front-more t (table (noted ss) i) (noted ss i) (omega (arith, laying_room)) ∙ ap (laid f t) (sym (add-one i))

  pub laying_step : Laying run f t o (i + 1) m' n.bookmark
  laying_step = record { can = g.can; finding = finding_step g.finding h; kept = h.follows.kept ∙ g.kept }

-- ---- the second loop

-- of c records, which are all, those from k on have their enclosers
pub record Placing (f : List ℕ) (t : List Nested) (o : List ℕ) (c : ℕ) (m : List ℕ) (k : ℕ) : Type 0 where
  pub can : Listable f t o
  pub all : c ≡ length (stretches f)
  pub down : k ≤ c
  pub seen : SeenFrom (stretches f) m k
  pub kept : length m ≡ length o

-- the fifth number of the record at i, once those from k on have theirs
abbrev fifth_from : List Stretch → ℕ → ℕ → ℕ
fifth_from ss k i = cond (ltb i k) (outer_of ss i) (encloser_of ss i)

abbrev placed_at : List Stretch → ℕ → ℕ → Nested
placed_at ss k i = nested (stretch_at ss i) (fifth_from ss k i)

abbrev pub placed : List ℕ → List Nested → ℕ → ℕ → List Nested
placed f t c k = front (table (placed_at (stretches f) k) c) t

-- what the first loop leaves
pub placing_start : {run : Layout} {f : List ℕ} {t : List Nested} {o : List ℕ} {i : ℕ} {m : List ℕ} {p : Bookmark} {m' : List ℕ} → Laying run f t o i m p
    → Notes run f m p m' None → Placing f t o i m' i
placing_start {f = f} {i = i} {m' = m'} g h =
    let all = finding_end g.finding h in
    record { can = g.can; all = all; down = le_refl i; seen = rw all (seen_none (stretches f) m'); kept = h.follows.kept ∙ g.kept }

pub placing_begins : (f : List ℕ) (t : List Nested) (i : ℕ) → laid f t i ≡ placed f t i i
placing_begins f t i =
    ap (λ (l : List Nested). front l t) (table_same (noted (stretches f)) (placed_at (stretches f) i) i (λ j h. ap (nested (stretch_at (stretches f) j)) (rw (lt-ltb j i h))))

module _ {f : List ℕ} {t : List Nested} {o : List ℕ} {c : ℕ} {m : List ℕ} {k : ℕ} (g : Placing f t o c m (suc k)) where
  abbrev list : List Stretch
  list = stretches f

  inside : k < length list
  inside = omega (arith, g.down, g.all)

  size : length (table (placed_at list (suc k)) c) ≡ c
  size = length-table (placed_at list (suc k)) c

  pub placing_needs : (2 * (stretch_at list k).start + 2 ≤ length m) × (2 * outer_of list k + 2 ≤ length m) × (k < c) × (c ≤ longest)
  placing_needs = rw g.all (link_needs f m k inside g.can.pixels (omega (arith, g.kept, g.can.spare)))

  -- the record at k still has the start of its encloser
  pub placing_here : (d : Nested) → get_or (placed f t c (suc k)) k d ≡ noted list k
  placing_here d =
      front_at (table (placed_at list (suc k)) c) t k d (omega (arith, size, g.down)) ∙ get_d_table d (placed_at list (suc k)) c k (omega (arith, g.down))
      ∙ ap (nested (stretch_at list k)) (rw (lt-ltb k (suc k) (le_refl (suc k))))

  module _ {m' : List ℕ} {r : ℕ} (l : Links m (stretch_at list k).start (outer_of list k) k c m' r) where
    links : Links m (stretch_at list k).start (outer_of list k) k (length list) m' r
    links = rw g.all at l

    pub placing_step : Placing f t o c m' k
    placing_step = record { can = g.can; all = g.all; down = omega (arith, g.down); seen = seen_step f m k inside g.seen m' r links; kept = l.kept ∙ g.kept }

    -- the record at k gets its encloser
    pub placing_table : set (placed f t c (suc k)) k (nested (stretch_at list k) r) ≡ placed f t c k
    placing_table =
        set-append_left (table (placed_at list (suc k)) c) _ k (nested (stretch_at list k) r) (omega (arith, size, g.down))
        ∙ rw (size, length-table (placed_at list k) c) (ap (λ (x : List Nested). x ++ drop c t) here)
      where
        d : Nested
        d = nested no_stretch 0

        here : set (table (placed_at list (suc k)) c) k (nested (stretch_at list k) r) ≡ table (placed_at list k) c
        here =
            table-by d (set (table (placed_at list (suc k)) c) k (nested (stretch_at list k) r)) (placed_at list k) c (simp length-set size)
            (λ i p. ⊎_elim (λ (q : i < k). below i p q) (λ (q : k ≤ i). ⊎_elim (λ (s : k < i). above i p s) (λ (s : i ≤ k). same i (omega arith)) (less_or_not k i)) (less_or_not i k))
          where
            other : (i : ℕ) → i < c → (i ≡ k → ⊥) → get_or (set (table (placed_at list (suc k)) c) k (nested (stretch_at list k) r)) i d ≡ placed_at list (suc k) i
            other i p ne = get_or-set_other (table (placed_at list (suc k)) c) k i (nested (stretch_at list k) r) d ne ∙ get_d_table d (placed_at list (suc k)) c i p

            below : (i : ℕ) → i < c → i < k → get_or (set (table (placed_at list (suc k)) c) k (nested (stretch_at list k) r)) i d ≡ placed_at list k i
            below i p q = other i p (λ e. omega arith) ∙ ap (nested (stretch_at list i)) (rw (lt-ltb i k q, lt-ltb i (suc k) (omega arith)))

            above : (i : ℕ) → i < c → k < i → get_or (set (table (placed_at list (suc k)) c) k (nested (stretch_at list k) r)) i d ≡ placed_at list k i
            above i p s = other i p (λ e. omega arith) ∙ ap (nested (stretch_at list i)) (rw (le-ltb i k (omega arith), le-ltb i (suc k) s))

            same : (i : ℕ) → i ≡ k → get_or (set (table (placed_at list (suc k)) c) k (nested (stretch_at list k) r)) i d ≡ placed_at list k i
            same i e =
                rw e (get_or-set_same (table (placed_at list (suc k)) c) k (nested (stretch_at list k) r) d (omega (arith, size, g.down))
                ∙ ap (nested (stretch_at list k)) (link_encloser f m k inside g.seen m' r links ∙ rw (le-ltb k k (le_refl k))))

pub placing_end : {f : List ℕ} {t : List Nested} {o : List ℕ} {c : ℕ} {m : List ℕ} {k : ℕ} → Placing f t o c m k → k ≡ 0
    → (answer (listed f t o) 0).number ≡ 0 → ListsLine f t (placed f t c k) o m (done c)
unfolding each records
placing_end {f} {t} {o} {c} {m} {k} g bottom e =
    record {
      answers = ap done g.all ∙ sym (done-kept (listed f t o) (length (stretches f)) (kept (listed f t o) 0 refl e));
      written = rw (bottom, g.all) all_placed;
      scratch_kept = λ refused. absurd (refused refl);
      scratch_length = g.kept;
    }
  where
    all_placed : placed f t (length (stretches f)) 0 ≡ front (records (stretches f)) t
    all_placed =
        ap (λ (l : List Nested). front l t)
        (table_same (placed_at (stretches f) 0) (λ (i : ℕ). nested (stretch_at (stretches f) i) (encloser_of (stretches f) i)) (length (stretches f))
        (λ j h. ap (nested (stretch_at (stretches f) j)) (rw (le-ltb j 0 (omega arith)))))
