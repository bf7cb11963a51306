-- What storing leaves of a list.
--   Filled before after lo hi F    after is before with F k at each k from lo up to, not including, hi
--   front vs dst                   dst with the values vs at its front, what follows them unchanged
-- Laws: lists/proofs/Stores.
use Rattle.std.specs.Prelude.{◌≡◌, List, ◌++◌, ℕ, ◌≤◌, ◌<◌, length, get_or, drop}

pub record Filled (before after : List ℕ) (lo hi : ℕ) (F : ℕ → ℕ) : Type 0 where
  pub same : length after ≡ length before
  pub within : (k : ℕ) → lo ≤ k → k < hi → get_or after k 0 ≡ F k
  pub below : (k : ℕ) → k < lo → get_or after k 0 ≡ get_or before k 0
  pub above : (k : ℕ) → hi ≤ k → get_or after k 0 ≡ get_or before k 0

abbrev pub front : {A : Type 0} → List A → List A → List A
front vs dst = vs ++ drop (length vs) dst
