-- What the answer of a call says of what the call handed back.
--   decoded n f                    what a call with the number n and the figure f handed back
--   counted_once, finished_once     no two outcomes of a call have one answer
--   checks_once                    the test of a rule hands back one outcome alone
--   refused_number                 no refusal has the number of a done call
-- Assumes nothing.
use mathlib.Core.Path.{◌≡◌, refl, sym, ap, ◌∙◌}
use mathlib.Core.Bool.{Bool, false≢true}
use Prim.Native.Nat.{ℕ, zero, suc}
use native.Mathlib.Omega.{arith}
use Rattle.std.specs.Prelude.{Result, Ok, Err}
use Rattle.answer.specs.declared.Answer.{Answer}
use Rattle.answer.specs.declared.Refusal.{Refusal}
use Rattle.answer.specs.declared.Refusal.TheVariants.{Size, Direction, Length, Sums, Source, Destination, Scratch, Table, Input, Dark, Bright}
use Rattle.answer.specs.Refusals.{rule_of, counted, finished, Checks}

decoded : ℕ → ℕ → Result ℕ Refusal
decoded zero f = Ok f
decoded (suc zero) f = Err Size
decoded (suc (suc zero)) f = Err Direction
decoded (suc (suc (suc zero))) f = Err Length
decoded (suc (suc (suc (suc zero)))) f = Err Sums
decoded (suc (suc (suc (suc (suc zero))))) f = Err (Source f)
decoded (suc (suc (suc (suc (suc (suc zero)))))) f = Err (Destination f)
decoded (suc (suc (suc (suc (suc (suc (suc zero))))))) f = Err (Scratch f)
decoded (suc (suc (suc (suc (suc (suc (suc (suc zero)))))))) f = Err (Table f)
decoded (suc (suc (suc (suc (suc (suc (suc (suc (suc zero))))))))) f = Err Input
decoded (suc (suc (suc (suc (suc (suc (suc (suc (suc (suc zero)))))))))) f = Err Dark
decoded (suc (suc (suc (suc (suc (suc (suc (suc (suc (suc (suc n))))))))))) f = Err Bright

decoded_counted : (r : Result ℕ Refusal) → decoded (counted r).number (counted r).figure ≡ r
unfolding decoded
decoded_counted (Ok n) = refl
decoded_counted (Err Size) = refl
decoded_counted (Err Direction) = refl
decoded_counted (Err Length) = refl
decoded_counted (Err Sums) = refl
decoded_counted (Err (Source n)) = refl
decoded_counted (Err (Destination n)) = refl
decoded_counted (Err (Scratch n)) = refl
decoded_counted (Err (Table n)) = refl
decoded_counted (Err Input) = refl
decoded_counted (Err Dark) = refl
decoded_counted (Err Bright) = refl

pub counted_once : (r r' : Result ℕ Refusal) → counted r ≡ counted r' → r ≡ r'
counted_once r r' same = sym (decoded_counted r) ∙ ap (λ (a : Answer). decoded a.number a.figure) same ∙ decoded_counted r'

abbrev uncounted : Result ℕ Refusal → Result (Unit {0}) Refusal
uncounted (Ok n) = Ok tt
uncounted (Err e) = Err e

decoded_finished : (r : Result (Unit {0}) Refusal) → uncounted (decoded (finished r).number (finished r).figure) ≡ r
unfolding decoded
decoded_finished (Ok u) = refl
decoded_finished (Err e) = ap uncounted (decoded_counted (Err e))

pub finished_once : (r r' : Result (Unit {0}) Refusal) → finished r ≡ finished r' → r ≡ r'
finished_once r r' same = sym (decoded_finished r) ∙ ap (λ (a : Answer). uncounted (decoded a.number a.figure)) same ∙ decoded_finished r'

pub checks_once : (broken : Bool) (e : Refusal) (r r' : Result (Unit {0}) Refusal) → Checks broken e r → Checks broken e r' → r ≡ r'
checks_once broken e (Ok u) (Ok v) kept kept' = refl
checks_once broken e (Ok u) (Err d) kept refused = absurd (false≢true (sym kept ∙ refused.0))
checks_once broken e (Err d) (Ok u) refused kept = absurd (false≢true (sym kept ∙ refused.0))
checks_once broken e (Err d) (Err d') refused refused' = ap Err (refused.1 ∙ sym refused'.1)

pub refused_number : (e : Refusal) → rule_of e ≡ 0 → ⊥
refused_number Size z = absurd (omega arith)
refused_number Direction z = absurd (omega arith)
refused_number Length z = absurd (omega arith)
refused_number Sums z = absurd (omega arith)
refused_number (Source n) z = absurd (omega arith)
refused_number (Destination n) z = absurd (omega arith)
refused_number (Scratch n) z = absurd (omega arith)
refused_number (Table n) z = absurd (omega arith)
refused_number Input z = absurd (omega arith)
refused_number Dark z = absurd (omega arith)
refused_number Bright z = absurd (omega arith)
