-- A pass goes over n neighbouring pixels of a buffer, its row: each becomes the darker, or the brighter, of itself and its partner, another pixel.
--   op darker a b              the darker of two pixels, or the brighter
--   straight from g j          pixel j of the row that starts at `from`
--   bent m near far g j        pixel j of one of two rows: of the one at `near` where the mark j of m is 0, or there is none, else of the one at `far`
--   met op partner at g x      what pixel x becomes, in a row that starts at `at`: op of it and of its partner
--   Ahead at from n            a pass that goes upward over the n pixels from `at` on finds the n from `from` on as they were
--   Awaits partner at n        a pass upward over the n pixels from `at` on finds partner j as it was until it has come to pixel j
--   Outlasts partner at n      the same of a pass downward
--   Keeps up partner at n      the same of a pass that goes upward where `up`, else downward
--   Fits marks at near far n size  the rows are in a buffer of size pixels, and each pixel has its mark
--   Parted at near far n       a pass that goes upward where `near` is `at` or behind it, else downward, finds those from `far` on as they were
--   block_at n k up            where block k of a row of n pixels begins, in the order of the pass
--   treated_from, treated_to   which pixels of the row the first k blocks are: from the one up to, not including, the other
--   Meets, MeetsBent           `meet` and `meet_bent`: where the rows fit, each pixel meets its partner; else nothing changes
--   Clears, ClearsBent         `blacken` and `blacken_bent`: pixels become 0, all of them or the marked ones
--   Fades                      `fade`: pixels meet 0
--   Copies                     `copy`: the first pixels of one slice come to the front of another
--   MeetsBy                    `meet_by`: each pixel meets its partner in another slice
--   Claims                     `claim`: the brighter ones become the best, and their holder is named
-- Laws: passes/proofs/Blocks.
use Rattle.std.specs.Prelude.{◌≡◌, Bool, true, false, cond, List, ◌⊎◌, ℕ, ◌+◌, ◌-◌, ◌*◌, ◌≤◌, ◌<◌, min, max, eqb, ltb, length, get_or}
use Rattle.lists.specs.Stores.{Filled}

abbrev pub op : Bool → ℕ → ℕ → ℕ
op darker a b = cond darker (min a b) (max a b)

abbrev pub straight : ℕ → List ℕ → ℕ → ℕ
straight from g j = get_or g (from + j) 0

unfoldable pub bent : List ℕ → ℕ → ℕ → List ℕ → ℕ → ℕ
bent m near far g j = cond (eqb (get_or m j 0) 0) (get_or g (near + j) 0) (get_or g (far + j) 0)

abbrev pub met : (ℕ → ℕ → ℕ) → (List ℕ → ℕ → ℕ) → ℕ → List ℕ → ℕ → ℕ
met op partner at g x = op (get_or g x 0) (partner g (x - at))

abbrev pub Ahead : ℕ → ℕ → ℕ → Type 0
Ahead at from n = (at ≤ from) ⊎ (from + n ≤ at)

abbrev pub Awaits : (List ℕ → ℕ → ℕ) → ℕ → ℕ → Type 0
Awaits partner at n =
    (g a : List ℕ) (s t : ℕ) (F : ℕ → ℕ) (j : ℕ) → Filled g a s t F → at ≤ s → t ≤ at + j → j < n → partner a j ≡ partner g j

abbrev pub Outlasts : (List ℕ → ℕ → ℕ) → ℕ → ℕ → Type 0
Outlasts partner at n =
    (g a : List ℕ) (s t : ℕ) (F : ℕ → ℕ) (j : ℕ) → Filled g a s t F → t ≤ at + n → at + j < s → partner a j ≡ partner g j

pub record Keeps (up : Bool) (partner : List ℕ → ℕ → ℕ) (at n : ℕ) : Type 0 where
  pub upward : up ≡ true → Awaits partner at n
  pub downward : up ≡ false → Outlasts partner at n

abbrev pub Fits : ℕ → ℕ → ℕ → ℕ → ℕ → ℕ → Type 0
Fits marks at near far n size = (at + n ≤ size) × (near + n ≤ size) × (far + n ≤ size) × (n ≤ marks)

abbrev pub Parted : ℕ → ℕ → ℕ → ℕ → Type 0
Parted at near far n = ((at ≤ near) × Ahead at far n) ⊎ ((near < at) × Ahead far at n)

abbrev pub block_at : ℕ → ℕ → Bool → ℕ
block_at n k up = cond up (64 * k) (n - 64 * k - 64)

abbrev pub treated_from : ℕ → ℕ → Bool → ℕ
treated_from n k up = cond up 0 (n - 64 * k)

abbrev pub treated_to : ℕ → ℕ → Bool → ℕ
treated_to n k up = cond up (64 * k) n

pub record Meets (darker : Bool) (at from n : ℕ) (before after : List ℕ) : Type 0 where
  pub done : at + n ≤ length before → from + n ≤ length before → Filled before after at (at + n) (met (op darker) (straight from) at before)
  pub none : (at + n ≤ length before → from + n ≤ length before → ⊥) → after ≡ before

-- m are the marks; where there are none, this is a straight pass
pub record MeetsBent (darker : Bool) (m : List ℕ) (at near far n : ℕ) (before after : List ℕ) : Type 0 where
  pub unmarked : length m ≡ 0 → Meets darker at near n before after
  pub done : 1 ≤ length m → Fits (length m) at near far n (length before) → Parted at near far n → Filled before after at (at + n) (met (op darker) (bent m near far) at before)
  pub none : 1 ≤ length m → (Fits (length m) at near far n (length before) → Parted at near far n → ⊥) → after ≡ before

pub record Clears (at n : ℕ) (before after : List ℕ) : Type 0 where
  pub done : at + n ≤ length before → Filled before after at (at + n) (λ (k : ℕ). 0)
  pub none : (at + n ≤ length before → ⊥) → after ≡ before

pub record Fades (darker : Bool) (at n : ℕ) (before after : List ℕ) : Type 0 where
  pub done : at + n ≤ length before → Filled before after at (at + n) (λ (x : ℕ). op darker (get_or before x 0) 0)
  pub none : (at + n ≤ length before → ⊥) → after ≡ before

pub record ClearsBent (m : List ℕ) (at n : ℕ) (before after : List ℕ) : Type 0 where
  pub done : at + n ≤ length before → n ≤ length m → Filled before after at (at + n) (λ (x : ℕ). cond (eqb (get_or m (x - at) 0) 0) (get_or before x 0) 0)
  pub none : (at + n ≤ length before → n ≤ length m → ⊥) → after ≡ before

pub record Copies (src : List ℕ) (n : ℕ) (before after : List ℕ) : Type 0 where
  pub done : n ≤ length src → n ≤ length before → Filled before after 0 n (λ (k : ℕ). get_or src k 0)
  pub none : (n ≤ length src → n ≤ length before → ⊥) → after ≡ before

pub record MeetsBy (darker : Bool) (src : List ℕ) (from n at : ℕ) (before after : List ℕ) : Type 0 where
  pub done : from + n ≤ length src → at + n ≤ length before → Filled before after at (at + n) (λ (x : ℕ). op darker (get_or before x 0) (straight from src (x - at)))
  pub none : (from + n ≤ length src → at + n ≤ length before → ⊥) → after ≡ before

-- the n pixels of new from `from` on claim for a number, from the best so far; these and their holders stand from `at` on
pub record Claims (new : List ℕ) (from n number at : ℕ) (best best' holders holders' : List ℕ) : Type 0 where
  pub raised : from + n ≤ length new → at + n ≤ length best → at + n ≤ length holders
      → Filled best best' at (at + n) (λ (x : ℕ). max (get_or best x 0) (straight from new (x - at)))
  pub held : from + n ≤ length new → at + n ≤ length best → at + n ≤ length holders
      → Filled holders holders' at (at + n) (λ (x : ℕ). cond (ltb (get_or best x 0) (straight from new (x - at))) number (get_or holders x 0))
  pub none : (from + n ≤ length new → at + n ≤ length best → at + n ≤ length holders → ⊥) → (best' ≡ best) × (holders' ≡ holders)
