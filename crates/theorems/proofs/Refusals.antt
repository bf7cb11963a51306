-- Demand 1, call by call, from the contract alone: done if and only if no rule is broken; else the first broken rule's answer, and every lent buffer as it was.
--   erode_settled, dilate_settled, open_line-settled
--   gather_settled, scatter_settled
--   open_frame-settled, host_settled; host_splits: the host can split its number
--   highest_settled; highest_short: the answer where either of its destinations is short; highest_exchanged: it does not tell which
--   list-settled
--   sums_of_line-settled, sums_of_frame-settled, rose_settled, summary_settled
--   sums-text-settled, read_input_settled
-- That a call ends, and touches only what was lent, the prover shows of every function; no statement here has to say it.
-- Assumes nothing.
use mathlib.Core.Path.{◌≡◌, refl, sym, ap, ap₂, ◌∙◌}
use mathlib.Core.Bool.{Bool, true, false, cond}
use mathlib.Core.Logic.{◌⊎◌, ⊎_elim}
use mathlib.Core.List.{List, [], ◌∷◌}
use Prim.Native.Nat.{ℕ, zero, suc, ◌+◌, ◌*◌, ◌/◌, ◌%◌, ◌≤◌, ◌<◌, ◌^◌, min}
use native.Mathlib.Omega.{arith}
use borrow.Author.Tests.{lt-ltb, le-ltb}
use lib.ListN.{length}
use lib.IntN.{ℤ}
use Rattle.answer.specs.declared.Answer.{Answer}
use Rattle.answer.specs.Limits.{longest}
use Rattle.answer.specs.Rules.{Rule, refusal, answer, by_number}
use Rattle.answer.proofs.Rules.{numbered, kept, done-kept, after-refused, not_outside}
use Rattle.line.specs.Windows.{eroded_count, dilated_count}
use Rattle.line.specs.Erosion.{erode_rules, ErodesLine}
use Rattle.line.specs.Dilation.{dilate_rules, DilatesLine}
use Rattle.line.specs.Opening.{open_rules, OpensLine}
use Rattle.frame.specs.declared.direction.Direction.{Direction}
use Rattle.frame.specs.declared.shape.Shape.{Shape}
use Rattle.frame.specs.Direction.{along}
use Rattle.frame.specs.Shape.{is_frame, needed}
use Rattle.frame.specs.Lines.{pixels}
use Rattle.gathering.specs.Gathering.{gather_rules, Gathers}
use Rattle.gathering.specs.Scattering.{scatter_rules, Scatters}
use Rattle.opening.specs.Frames.{open_frame_rules, OpensFrame}
use Rattle.opening.specs.Sixteen.{highest_rules, FindsHighest}
use Rattle.opening.specs.Host.{HostOpens}
use Rattle.opening.proofs.Calls.{highest_rules_lem, open_figure}
use Rattle.bright.specs.declared.Nested.{Nested}
use Rattle.bright.specs.Stretches.{stretches}
use Rattle.bright.specs.Listing.{list_rules, ListsLine}
use Rattle.sizes.specs.Line.{line_rules, SumsLine}
use Rattle.sizes.specs.Frame.{frame_rules, SumsFrame}
use Rattle.sizes.specs.Rose.{rose_rules, refused_rose, Roses}
use Rattle.sizes.specs.declared.summary.Summary.{Summary}
use Rattle.sizes.specs.Summary.{summary_rules, refused_by, summary_of}
use Rattle.text.specs.Inputs.{Outcome}
use Rattle.text.specs.Inputs.{direction_in, width_in, height_in, input_rules, input_of, ReadsInput}
use Rattle.text.specs.Sums.{sums_text, text_rules, WritesSums}
use Rattle.theorems.specs.Settled.{FirstBroken, Settled}

-- ---- the rules of any call

first-broken : (rs : List Rule) (f : ℕ) → ((answer rs f).number ≡ 0 → ⊥) → FirstBroken rs (answer rs f)
first-broken [] f refused = absurd (refused refl)
first-broken (r ∷ rs) f refused = go (first-broken rs f) r.broken refl refused
  where
    go : (((answer rs f).number ≡ 0 → ⊥) → FirstBroken rs (answer rs f)) → (b : Bool) → r.broken ≡ b
        → ((cond b (refusal r.number r.figure) (answer rs f)).number ≡ 0 → ⊥) → FirstBroken (r ∷ rs) (cond b (refusal r.number r.figure) (answer rs f))
    go ih true e no-work = record { before = []; first = r; behind = rs; is = refl; kept = tt; broken = e; answers = refl }
    go ih false e no-work =
        let later = ih no-work in
        record {
          before = r ∷ later.before;
          first = later.first;
          behind = later.behind;
          is = ap (λ (l : List Rule). r ∷ l) later.is;
          kept = (e, later.kept);
          broken = later.broken;
          answers = later.answers;
        }

settled : (rs : List Rule) (f : ℕ) {a : Answer} {Unchanged : Type 0} → numbered rs ≡ true → a ≡ answer rs f → ((a.number ≡ 0 → ⊥) → Unchanged) → Settled rs f a Unchanged
settled rs f {a} n e same =
    record {
      done_if = λ k. e ∙ done-kept rs f k;
      only_if = λ z. kept rs f n (rw e at z);
      refused = λ r. (rw e (first-broken rs f (rw e at r)), same r);
    }

-- rules that hand back 0, all of them
abbrev Figureless : List Rule → Type 0
Figureless [] = Unit
Figureless (r ∷ rs) = (r.figure ≡ 0) × Figureless rs

no_figure : (rs : List Rule) → Figureless rs → (answer rs 0).figure ≡ 0
no_figure [] z = refl
no_figure (r ∷ rs) z = go r.broken (no_figure rs z.1)
  where
    go : (b : Bool) → (answer rs 0).figure ≡ 0 → (cond b (refusal r.number r.figure) (answer rs 0)).figure ≡ 0
    go true later = z.0
    go false later = later

-- ---- the calls

module _ {src dst dst' : List ℕ} {L : ℕ} {a : Answer} where
  pub erode_settled : ErodesLine src L dst dst' a → Settled (erode_rules (length src) L (length dst)) (eroded_count (length src) L) a (dst' ≡ dst)
  erode_settled p = settled _ _ refl p.answers (λ r. p.written ∙ after-refused a _ dst r)

  pub dilate_settled : DilatesLine src L dst dst' a → Settled (dilate_rules (length src) L (length dst)) (dilated_count (length src) L) a (dst' ≡ dst)
  dilate_settled p = settled _ _ refl p.answers (λ r. p.written ∙ after-refused a _ dst r)

pub open_line-settled : {src dst dst' scratch scratch' : List ℕ} {L : ℕ} {a : Answer} → OpensLine src L dst dst' scratch scratch' a
    → Settled (open_rules (length src) L (length dst) (length scratch)) 0 a ((dst' ≡ dst) × (scratch' ≡ scratch))
open_line-settled {dst = dst} {a = a} p = settled _ _ refl p.answers (λ r. (p.written ∙ after-refused a _ dst r, p.scratch_kept r))

module _ {src : List ℕ} {sh : Shape} {d : Direction} {k : ℤ} {dst dst' : List ℕ} {a : Answer} where
  pub gather_settled : Gathers src sh d k dst dst' a → Settled (gather_rules sh d k (length src) (length dst)) (length (pixels sh d k)) a (dst' ≡ dst)
  gather_settled p = settled _ _ refl p.answers (λ r. p.written ∙ after-refused a _ dst r)

  pub scatter_settled : Scatters src sh d k dst dst' a → Settled (scatter_rules sh d k (length src) (length dst)) (length (pixels sh d k)) a (dst' ≡ dst)
  scatter_settled p = settled _ _ refl p.answers (λ r. p.written ∙ after-refused a _ dst r)

module _ {f : List ℕ} {sh : Shape} {L : ℕ} {g g' t t' : List ℕ} where
  pub open_frame-settled : {d : Direction} {a : Answer} → OpensFrame f sh d L g g' t t' a
      → Settled (open_frame_rules sh d L (length f) (length g) (length t)) 0 a ((g' ≡ g) × (t' ≡ t))
  open_frame-settled p = settled _ _ refl p.answers p.refused

  -- 'one 64-bit number back: the refusal number times 2^32, plus the figure'
  pub host_settled : {d : Direction} {n : ℕ} (p : HostOpens f sh d L g g' t t' n)
      → Settled (open_frame_rules sh d L (length f) (length g) (length t)) 0 p.a ((g' ≡ g) × (t' ≡ t)) × (n ≡ p.a.number * 2 ^ 32 + p.a.figure)
  host_settled p = (open_frame-settled p.opens, p.gives)

  -- the figure stays below 2^32, so that the number has both: the upper half is the refusal's number, the lower half its figure
  pub host_splits : {d : Direction} {n : ℕ} (p : HostOpens f sh d L g g' t t' n) → (n / 2 ^ 32 ≡ p.a.number) × (n % 2 ^ 32 ≡ p.a.figure)
  host_splits {d} p =
      let small = ap (λ (a : Answer). a.figure) p.opens.answers in
      let below = open_figure sh L (length f) (length g) (length t) d in
      (omega (arith, p.gives, small, below), omega (arith, p.gives, small, below))

-- g is the destination of the brightness, h that of the directions' numbers
module _ {f : List ℕ} {sh : Shape} {L : ℕ} {g g' h h' t t' : List ℕ} {a : Answer} (p : FindsHighest f sh L g g' h h' t t' a) where
  pub highest_settled : Settled (highest_rules sh L (length f) (length g) (length h) (length t)) 0 a ((g' ≡ g) × (h' ≡ h) × (t' ≡ t))
  highest_settled = settled _ _ refl p.answers p.refused

  -- '6 is given when either destination is short ..; the bytes needed are the same'
  pub highest_short : is_frame sh ≡ true → 1 ≤ L → L ≤ longest → needed sh ≤ length f → (length g < needed sh) ⊎ (length h < needed sh) → a ≡ refusal 6 (needed sh)
  highest_short ok some most source short =
      let shorter : min (length g) (length h) < needed sh = ⊎_elim (λ bright. omega arith) (λ numbers. omega arith) short in
      p.answers
      ∙ highest_rules_lem sh L (length f) (length g) (length h) (length t)
      ∙ rw (ok, not_outside 1 longest L some most, le-ltb (length f) (needed sh) source, lt-ltb (min (length g) (length h)) (needed sh) shorter)

  -- 'the brightness one first': with the two destinations exchanged the answer is the same
  pub highest_exchanged : {g₁ h₁ t₁ : List ℕ} {b : Answer} → FindsHighest f sh L h h₁ g g₁ t t₁ b → a ≡ b
  highest_exchanged q =
      let shorter : min (length g) (length h) ≡ min (length h) (length g) = omega arith in
      p.answers
      ∙ highest_rules_lem sh L (length f) (length g) (length h) (length t)
      ∙ ap (λ (room : ℕ). answer (open_frame_rules sh along L (length f) room (length t)) 0) shorter
      ∙ sym (q.answers ∙ highest_rules_lem sh L (length f) (length h) (length g) (length t))

pub list-settled : {f : List ℕ} {table table' : List Nested} {t t' : List ℕ} {a : Answer} → ListsLine f table table' t t' a
    → Settled (list_rules (length f) (length t) (length table) (length (stretches f))) (length (stretches f)) a ((table' ≡ table) × (t' ≡ t))
list-settled {table = table} {a = a} p = settled _ _ refl p.answers (λ r. (p.written ∙ after-refused a _ table r, p.scratch_kept r))

pub sums_of_line-settled : {f sums sums' t t' : List ℕ} {a : Answer} → SumsLine f sums sums' t t' a
    → Settled (line_rules (length f) (length sums) (length t)) 0 a ((sums' ≡ sums) × (t' ≡ t))
sums_of_line-settled {sums = sums} {t = t} {a = a} p =
    settled _ _ refl p.answers (λ r. (p.written ∙ after-refused a _ sums r, p.scratch_kept r))

pub sums_of_frame-settled : {f : List ℕ} {sh : Shape} {d : Direction} {sums sums' t t' : List ℕ} {a : Answer} → SumsFrame f sh d sums sums' t t' a
    → Settled (frame_rules sh d (length sums) (length f) (length t)) 0 a ((sums' ≡ sums) × (t' ≡ t))
sums_of_frame-settled {sums = sums} {t = t} {a = a} p =
    settled _ _ refl p.answers (λ r. (p.written ∙ after-refused a _ sums r, p.scratch_kept r))

-- 'A refused rose is a table of 64-bit largest numbers ..; a second call gives the refusal's number.' That call's answer is a
pub rose_settled : {f : List ℕ} {sh : Shape} {t t' : List ℕ} {r : List (List ℕ)} {a : Answer} → Roses f sh t t' r → a ≡ answer (rose_rules sh (length f) (length t)) 0
    → Settled (rose_rules sh (length f) (length t)) 0 a ((r ≡ refused_rose) × (t' ≡ t))
rose_settled {f} {sh} {t} {a = a} p e =
    let says = answer (rose_rules sh (length f) (length t)) 0 in
    settled _ _ refl e (λ r. (p.rows ∙ after-refused says _ refused_rose (rw e at r), p.scratch_kept (rw e at r)))

summary_number : (n : ℕ) (x : Summary) → x.number ≡ 0 → (by_number n x (refused_by n)).number ≡ n
summary_number zero x z = z
summary_number (suc n) x z = refl

-- the number handed back is 0 where no rule is broken, else that of the first broken one, whose figure is 0; 'a refused summary has both floats 0'
pub summary_settled : (s : List ℕ) {r : Summary} → r ≡ summary_of s
    → Settled (summary_rules s) 0 (record { number = r.number; figure = 0 }) (r ≡ refused_by r.number)
unfolding summary_of
summary_settled s {r} e =
    settled _ _ refl (ap₂ (λ (n f : ℕ). record { number = n; figure = f }) same (sym (no_figure (summary_rules s) (refl, (refl, (refl, tt))))))
    (λ no-work. e ∙ after-refused says _ (refused_by says.number) (rw same at no-work) ∙ ap refused_by (sym same))
  where
    says : Answer
    says = answer (summary_rules s) 0

    same : r.number ≡ says.number
    same = ap (λ (r : Summary). r.number) e ∙ summary_number says.number _ refl

-- rules 2, 4 and 6
pub sums-text-settled : {d : ℕ} {s dst dst' : List ℕ} {a : Answer} → WritesSums d s dst dst' a
    → Settled (text_rules d s (length dst)) (length (sums_text d s)) a (dst' ≡ dst)
sums-text-settled {dst = dst} {a = a} p = settled _ _ refl p.answers (λ r. p.written ∙ after-refused a _ dst r)

-- rules 9, 1, 2, 9 and 6; a refused input has no direction, width or height
pub read_input_settled : {s dst dst' : List ℕ} {r : Outcome} → ReadsInput s dst dst' r
    → Settled (input_rules s (length dst)) 0 r.answer ((dst' ≡ dst) × (r ≡ record { answer = r.answer; direction = 0; width = 0; height = 0 }))
read_input_settled {s} {dst} {dst'} {r} p =
    let a = answer (input_rules s (length dst)) 0 in
    let e : r.answer ≡ a = ap (λ (r : Outcome). r.answer) p.reads in
    let blank : Answer → Outcome = λ (a : Answer). record { answer = a; direction = 0; width = 0; height = 0 } in
    let none : (a.number ≡ 0 → ⊥) → input_of s (length dst) ≡ blank a =
    λ no-work. rw (after-refused a (direction_in s) 0 no-work, after-refused a (width_in s) 0 no-work, after-refused a (height_in s) 0 no-work) in
    settled _ _ refl e (λ no-work. (p.written ∙ after-refused r.answer _ dst no-work, p.reads ∙ none (rw e at no-work) ∙ ap blank (sym e)))
