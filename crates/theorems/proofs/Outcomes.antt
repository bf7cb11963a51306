-- 'It is shown that one input allows one outcome only; scratch after a done call is the exception.' For each call: two outcomes that its contract allows
-- of one input are the same. What scratch holds after a refusal is in Refusals: it is unchanged.
--   erode_once, dilate_once, open_line-once
--   gather_once, scatter_once, row-once
--   open_frame-once, host_once; highest_once: both destinations
--   list-once, next-once, enclosers_once
--   sums_of_line-once, sums_of_frame-once, rose_once
--   sums-text-once, line-text-once, refusal-text-once; read_input_once, and read_input_result-once of the result itself
-- The contract of every other call is an equation `answer ≡ definition`, which one value alone meets: `lines_of`, `line_number`, `sweep_of`, `track_of`,
-- `shift_at`, `pixels_for`, `count_lengths`, `numbered`, `turned`, `is_shallow`, `goes_down`, `is_straight`, `is_direction`, `is_frame`, `bytes`, `scratch`,
-- `begin`, `count`, `rose_refusal`, `summarize`, `is_outside`, `growth`, `open_in_place`, `Refusal::number`, `needed`, `Answer::done`, `refused`, `unless`,
-- `needing`, `from`, `Input::shape`. Engines has the calls that only other crates of the library make.
-- Where a contract speaks of `counted r`, `finished r` or `outcome r`, the result r is one too: counted_once, finished_once (answer/proofs/Refusals),
-- outcome_once (text/proofs/Inputs).
-- Assumes nothing.
use mathlib.Core.Path.{◌≡◌, sym, ap, ◌∙◌}
use mathlib.Core.Bool.{Bool}
use mathlib.Core.List.{List, map}
use Prim.Native.Nat.{ℕ, ◌-◌}
use lib.ListN.{length}
use lib.IntN.{ℤ}
use denote.Ref.{Bor}
use Rattle.lists.specs.Stores.{front}
use Rattle.answer.specs.declared.Answer.{Answer}
use Rattle.answer.specs.declared.Refusal.{Refusal}
use Rattle.answer.specs.Rules.{after}
use Rattle.line.specs.Erosion.{ErodesLine}
use Rattle.line.specs.Dilation.{DilatesLine}
use Rattle.line.specs.Opening.{OpensLine}
use Rattle.line.proofs.Laws as line
use Rattle.frame.specs.declared.direction.Direction.{Direction}
use Rattle.frame.specs.declared.shape.Shape.{Shape}
use Rattle.frame.specs.Lines.{pixels, place, line_read}
use Rattle.std.specs.Prelude.{Option, MatchOption, Result}
use Rattle.gathering.specs.Gathering.{Gathers}
use Rattle.gathering.specs.Scattering.{stored, Scatters}
use Rattle.gathering.specs.Rows.{LendsRow}
use Rattle.opening.specs.Frames.{OpensFrame}
use Rattle.opening.specs.Sixteen.{FindsHighest}
use Rattle.opening.specs.Host.{HostOpens}
use Rattle.opening.proofs.Laws as opening
use Rattle.bright.specs.declared.Nested.{Nested}
use Rattle.bright.specs.declared.Bookmark.{Bookmark}
use Rattle.bright.specs.declared.Step.{Step}
use Rattle.bright.specs.Generator.{Layout, coming, Follows}
use Rattle.bright.specs.Nesting.{NestsLine}
use Rattle.bright.specs.Listing.{ListsLine}
use Rattle.bright.proofs.Once.{lists_once, follows-once, nests_once}
use Rattle.sizes.specs.Sums.{line_sums, frame_sums}
use Rattle.sizes.specs.Line.{SumsLine}
use Rattle.sizes.specs.Frame.{SumsFrame}
use Rattle.sizes.specs.Rose.{Roses}
use Rattle.text.specs.declared.input.Input.{Input}
use Rattle.text.specs.Inputs.{Outcome, outcome, rows_in, ReadsInput}
use Rattle.text.specs.Stretches.{Prints, PrintsLine, PrintsRefusal}
use Rattle.text.specs.Sums.{sums_text, WritesSums}
use Rattle.text.proofs.Inputs.{outcome_once}

-- what an answer settles of a buffer is one thing where the answers are one
alike : {A : Type 0} (new old : A) {b₁ b₂ : A} {a₁ a₂ : Answer} → a₁ ≡ a₂ → b₁ ≡ after a₁ new old → b₂ ≡ after a₂ new old → b₁ ≡ b₂
alike new old e p q = p ∙ ap (λ (a : Answer). after a new old) e ∙ sym q

-- ---- lines

module _ {src : List ℕ} {L : ℕ} {dst dst₁ dst₂ : List ℕ} {a₁ a₂ : Answer} where
  pub erode_once : ErodesLine src L dst dst₁ a₁ → ErodesLine src L dst dst₂ a₂ → (a₁ ≡ a₂) × (dst₁ ≡ dst₂)
  erode_once = line.erodes_once

  pub dilate_once : DilatesLine src L dst dst₁ a₁ → DilatesLine src L dst dst₂ a₂ → (a₁ ≡ a₂) × (dst₁ ≡ dst₂)
  dilate_once = line.dilates_once

pub open_line-once : {src : List ℕ} {L : ℕ} {dst dst₁ dst₂ t t₁ t₂ : List ℕ} {a₁ a₂ : Answer} → OpensLine src L dst dst₁ t t₁ a₁ → OpensLine src L dst dst₂ t t₂ a₂
    → (a₁ ≡ a₂) × (dst₁ ≡ dst₂)
open_line-once = line.opens-once

-- ---- frames

module _ {src : List ℕ} {sh : Shape} {d : Direction} {k : ℤ} {dst dst₁ dst₂ : List ℕ} {a₁ a₂ : Answer} where
  pub gather_once : Gathers src sh d k dst dst₁ a₁ → Gathers src sh d k dst dst₂ a₂ → (a₁ ≡ a₂) × (dst₁ ≡ dst₂)
  gather_once p q =
      let e : a₁ ≡ a₂ = p.answers ∙ sym q.answers in
      (e, alike (front (line_read src sh d k) dst) dst e p.written q.written)

  pub scatter_once : Scatters src sh d k dst dst₁ a₁ → Scatters src sh d k dst dst₂ a₂ → (a₁ ≡ a₂) × (dst₁ ≡ dst₂)
  scatter_once p q =
      let e : a₁ ≡ a₂ = p.answers ∙ sym q.answers in
      (e, alike (stored (map (place sh) (pixels sh d k)) src dst) dst e p.written q.written)

-- the lent part: the memory it stands in, where it begins there, and its bytes
pub row-once : {src p₁ p₂ : Bor (List ℕ)} {sh : Shape} {y : ℕ} → LendsRow src sh y p₁ → LendsRow src sh y p₂
    → (p₁.ref_ptr.0 ≡ p₂.ref_ptr.0) × (p₁.ref_ptr.1 ≡ p₂.ref_ptr.1) × (p₁.now ≡ p₂.now)
row-once p q = (p.memory ∙ sym q.memory, p.begins ∙ sym q.begins, p.contents ∙ sym q.contents)

module _ {f : List ℕ} {sh : Shape} {L : ℕ} {g g₁ g₂ t t₁ t₂ : List ℕ} where
  pub open_frame-once : {d : Direction} {a₁ a₂ : Answer} → OpensFrame f sh d L g g₁ t t₁ a₁ → OpensFrame f sh d L g g₂ t t₂ a₂ → (a₁ ≡ a₂) × (g₁ ≡ g₂)
  open_frame-once = opening.opens-once

  pub host_once : {d : Direction} {n₁ n₂ : ℕ} → HostOpens f sh d L g g₁ t t₁ n₁ → HostOpens f sh d L g g₂ t t₂ n₂ → (n₁ ≡ n₂) × (g₁ ≡ g₂)
  host_once = opening.host_once

pub highest_once : {f : List ℕ} {sh : Shape} {L : ℕ} {g g₁ g₂ h h₁ h₂ t t₁ t₂ : List ℕ} {a₁ a₂ : Answer} → FindsHighest f sh L g g₁ h h₁ t t₁ a₁
    → FindsHighest f sh L g g₂ h h₂ t t₂ a₂ → (a₁ ≡ a₂) × (g₁ ≡ g₂) × (h₁ ≡ h₂)
highest_once = opening.highest_once

-- ---- stretches

pub list-once : {f : List ℕ} {table table₁ table₂ : List Nested} {t t₁ t₂ : List ℕ} {a₁ a₂ : Answer} → ListsLine f table table₁ t t₁ a₁
    → ListsLine f table table₂ t t₂ a₂ → (a₁ ≡ a₂) × (table₁ ≡ table₂)
list-once = lists_once

-- what a step hands back is settled, and so is what comes from there; the bytes of scratch only where no stretch is found
pub next-once : {run : Layout} {f t : List ℕ} {p : Bookmark} {t₁ t₂ : List ℕ} {r₁ r₂ : Option Step} → Follows run f t p t₁ r₁ → Follows run f t p t₂ r₂
    → (r₁ ≡ r₂) × MatchOption r₁ (t₁ ≡ t₂) (λ (s : Step). coming run f t₁ s.bookmark ≡ coming run f t₂ s.bookmark)
next-once = follows-once

pub enclosers_once : {f p p₁ p₂ t t₁ t₂ : List ℕ} {r₁ r₂ : ℕ} → NestsLine f p p₁ t t₁ r₁ → NestsLine f p p₂ t t₂ r₂ → (r₁ ≡ r₂) × (p₁ ≡ p₂)
enclosers_once = nests_once

-- ---- size sums

pub sums_of_line-once : {f sums sums₁ sums₂ t t₁ t₂ : List ℕ} {a₁ a₂ : Answer} → SumsLine f sums sums₁ t t₁ a₁ → SumsLine f sums sums₂ t t₂ a₂
    → (a₁ ≡ a₂) × (sums₁ ≡ sums₂)
sums_of_line-once {f} {sums} {a₁ = a₁} {a₂ = a₂} p q =
    let e : a₁ ≡ a₂ = p.answers ∙ sym q.answers in
    (e, alike (line_sums f (length sums - 1)) sums e p.written q.written)

pub sums_of_frame-once : {f : List ℕ} {sh : Shape} {d : Direction} {sums sums₁ sums₂ t t₁ t₂ : List ℕ} {a₁ a₂ : Answer} → SumsFrame f sh d sums sums₁ t t₁ a₁
    → SumsFrame f sh d sums sums₂ t t₂ a₂ → (a₁ ≡ a₂) × (sums₁ ≡ sums₂)
sums_of_frame-once {f} {sh} {d} {sums} {a₁ = a₁} {a₂ = a₂} p q =
    let e : a₁ ≡ a₂ = p.answers ∙ sym q.answers in
    (e, alike (frame_sums f sh d (length sums - 1)) sums e p.written q.written)

pub rose_once : {f : List ℕ} {sh : Shape} {t t₁ t₂ : List ℕ} {r₁ r₂ : List (List ℕ)} → Roses f sh t t₁ r₁ → Roses f sh t t₂ r₂ → r₁ ≡ r₂
rose_once p q = p.rows ∙ sym q.rows

-- ---- texts

pub sums-text-once : {d : ℕ} {s dst dst₁ dst₂ : List ℕ} {a₁ a₂ : Answer} → WritesSums d s dst dst₁ a₁ → WritesSums d s dst dst₂ a₂ → (a₁ ≡ a₂) × (dst₁ ≡ dst₂)
sums-text-once {d} {s} {dst} {a₁ = a₁} {a₂ = a₂} p q =
    let e : a₁ ≡ a₂ = p.answers ∙ sym q.answers in
    (e, alike (front (sums_text d s) dst) dst e p.written q.written)

pub read_input_once : {s dst dst₁ dst₂ : List ℕ} {r₁ r₂ : Outcome} → ReadsInput s dst dst₁ r₁ → ReadsInput s dst dst₂ r₂ → (r₁ ≡ r₂) × (dst₁ ≡ dst₂)
read_input_once {s} {dst} {r₁ = r₁} {r₂ = r₂} p q =
    let e : r₁ ≡ r₂ = p.reads ∙ sym q.reads in
    (e, alike (front (rows_in s).values dst) dst (ap (λ (r : Outcome). r.answer) e) p.written q.written)

pub read_input_result-once : {s dst dst₁ dst₂ : List ℕ} (r₁ r₂ : Result Input Refusal) → ReadsInput s dst dst₁ (outcome r₁) → ReadsInput s dst dst₂ (outcome r₂)
    → (r₁ ≡ r₂) × (dst₁ ≡ dst₂)
read_input_result-once r₁ r₂ p q =
    let same = read_input_once p q in
    (outcome_once r₁ r₂ same.0, same.1)

prints_once : {ok : Bool} {t dst dst₁ dst₂ : List ℕ} {n₁ n₂ : ℕ} → Prints ok t dst dst₁ n₁ → Prints ok t dst dst₂ n₂ → (n₁ ≡ n₂) × (dst₁ ≡ dst₂)
prints_once p q = (p.bytes ∙ sym q.bytes, p.written ∙ sym q.written)

pub line-text-once : {z : ℤ} {f dst dst₁ dst₂ : List ℕ} {n₁ n₂ : ℕ} → PrintsLine z f dst dst₁ n₁ → PrintsLine z f dst dst₂ n₂ → (n₁ ≡ n₂) × (dst₁ ≡ dst₂)
line-text-once p q = prints_once p.text q.text

pub refusal-text-once : {k : ℕ} {dst dst₁ dst₂ : List ℕ} {n₁ n₂ : ℕ} → PrintsRefusal k dst dst₁ n₁ → PrintsRefusal k dst dst₂ n₂ → (n₁ ≡ n₂) × (dst₁ ≡ dst₂)
refusal-text-once p q = prints_once p.text q.text
