-- Refusals as the calls hand them back, and the two numbers that stand for each.
--   rule_of e        the number of the rule that refuses
--   needed_of e        how much is needed, where something is too short; else 0
--   counted r          the answer of a call that hands back a count, or refuses
--   finished r          the answer of a call that is done, with the figure 0, or refuses
--   Checks b e r        what the test of a rule hands back that refuses with e and is broken where b holds
-- Laws: answer/proofs/Refusals.
use Rattle.std.specs.Prelude.{◌≡◌, Bool, true, false, ℕ, Result, Ok, Err}
use Rattle.answer.specs.declared.Answer.{Answer}
use Rattle.answer.specs.declared.Refusal.{Refusal}
use Rattle.answer.specs.declared.Refusal.TheVariants.{Size, Direction, Length, Sums, Source, Destination, Scratch, Table, Input, Dark, Bright}
use Rattle.answer.specs.Rules.{done, refusal}

-- the column 'No.' of the table of refusals
abbrev pub rule_of : Refusal → ℕ
rule_of Size = 1
rule_of Direction = 2
rule_of Length = 3
rule_of Sums = 4
rule_of (Source n) = 5
rule_of (Destination n) = 6
rule_of (Scratch n) = 7
rule_of (Table n) = 8
rule_of Input = 9
rule_of Dark = 10
rule_of Bright = 11

-- the column 'Hands back': 'bytes needed', 'entries needed', else 0
abbrev pub needed_of : Refusal → ℕ
needed_of Size = 0
needed_of Direction = 0
needed_of Length = 0
needed_of Sums = 0
needed_of (Source n) = n
needed_of (Destination n) = n
needed_of (Scratch n) = n
needed_of (Table n) = n
needed_of Input = 0
needed_of Dark = 0
needed_of Bright = 0

-- '0 is done'
abbrev pub counted : Result ℕ Refusal → Answer
counted (Ok n) = done n
counted (Err e) = refusal (rule_of e) (needed_of e)

-- 'the other numbered calls hand back 0'
abbrev pub finished : Result (Unit {0}) Refusal → Answer
finished (Ok u) = done 0
finished (Err e) = refusal (rule_of e) (needed_of e)

abbrev pub Checks : Bool → Refusal → Result (Unit {0}) Refusal → Type 0
Checks b e (Ok u) = b ≡ false
Checks b e (Err e') = (b ≡ true) × (e' ≡ e)
