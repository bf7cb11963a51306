-- Numbers of refusal (document 01): 'Checked in this order, where the rule applies; 0 is done.'
--   rule b n f         the rule number n: broken where b holds, handing back f
--   answer rs f        the answer of a call with the rules rs, in their order: the first broken one's; done with the figure f where none is broken
--   checked a r        the answer a once the rule r is checked too: a refusal stays
--   Kept rs            no rule of rs is broken
--   after a new old    what a lent buffer holds after a call with the answer a: new where it is done, old where it is refused
--   outside lo hi n    n is below lo or above hi
-- Laws: answer/proofs/Rules.
use Rattle.std.specs.Prelude.{◌≡◌, Bool, false, cond, ◌&&◌, ◌||◌, List, [], ◌∷◌, ℕ, zero, suc, eqb, ltb}
use Rattle.answer.specs.declared.Answer.{Answer}

pub record Rule : Type 0 where
  pub broken : Bool
  pub number : ℕ
  pub figure : ℕ

abbrev pub rule : Bool → ℕ → ℕ → Rule
rule b n f = record { broken = b; number = n; figure = f }

abbrev pub done : ℕ → Answer
done f = record { number = 0; figure = f }

abbrev pub refusal : ℕ → ℕ → Answer
refusal n f = record { number = n; figure = f }

abbrev pub answer : List Rule → ℕ → Answer
answer [] f = done f
answer (r ∷ rs) f = cond r.broken (refusal r.number r.figure) (answer rs f)

abbrev pub Kept : List Rule → Type 0
Kept [] = Unit
Kept (r ∷ rs) = (r.broken ≡ false) × Kept rs

abbrev pub by_number : {A : Type 0} → ℕ → A → A → A
by_number zero new old = new
by_number (suc n) new old = old

-- 'On any refusal no lent buffer changes'
abbrev pub after : {A : Type 0} → Answer → A → A → A
after a new old = by_number a.number new old

abbrev pub checked : Answer → Rule → Answer
checked a r = cond (eqb a.number 0 && r.broken) (refusal r.number r.figure) a

abbrev pub outside : ℕ → ℕ → ℕ → Bool
outside lo hi n = ltb n lo || ltb hi n
