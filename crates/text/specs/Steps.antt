-- What the private parts of reading keep to.
--   IsNumber m r           r is the number m, and what follows it
--   Reads m r              the same where m is there; nothing where it is not
--   StepsOver b s r          r is what follows the byte b at the front of s; nothing where it does not stand there
--   Heads s r              r is what the first two lines of s hold, and what follows them; nothing where they are not there
--   Stores m vs vs' r      the values m stand at the front of vs', and r is what follows them in the text; nothing where they are not there
--   Rows m vs vs' r        the same for what ends the text
--   Tests s room vs vs' r  r is direction number, width and height, and the pixels stand at the front of vs'; where a rule is broken, it is the refusal
use Rattle.std.specs.Prelude.{◌≡◌, true, false, List, [], ◌∷◌, ℕ, Option, MatchOption, Result, IfOk}
use Rattle.std.specs.Borrow.{Bor}
use Rattle.lists.specs.Stores.{front}
use Rattle.answer.specs.declared.Refusal.{Refusal}
use Rattle.answer.specs.Rules.{answer}
use Rattle.text.specs.declared.reading.Number.{Number}
use Rattle.text.specs.declared.input.Input.{Input}
use Rattle.text.specs.Reading.{Numeral, Values, numeral, valued, starts}
use Rattle.text.specs.Inputs.{head_of, direction_in, width_in, height_in, rows_in, input_rules, outcome}

abbrev pub IsNumber : Numeral → Number → Type 0
IsNumber m n = m ≡ numeral n.value n.rest.now

abbrev pub Reads : Numeral → Option Number → Type 0
Reads m r = MatchOption r (m.found ≡ false) (λ (n : Number). IsNumber m n)

abbrev pub StepsOver : ℕ → List ℕ → Option (Bor (List ℕ)) → Type 0
StepsOver b s r = MatchOption r (starts b s ≡ false) (λ (t : Bor (List ℕ)). s ≡ b ∷ t.now)

abbrev pub Heads : List ℕ → Option (Input × Bor (List ℕ)) → Type 0
Heads s r = MatchOption r ((head_of s).found ≡ false) (λ (h : Input × Bor (List ℕ)). head_of s ≡ valued (h.0.direction ∷ h.0.width ∷ h.0.height ∷ []) h.1.now)

abbrev pub Stores : Values → List ℕ → List ℕ → Option (Bor (List ℕ)) → Type 0
Stores m vs vs' r = MatchOption r (m.found ≡ false) (λ (t : Bor (List ℕ)). (m ≡ valued m.values t.now) × (vs' ≡ front m.values vs))

abbrev pub Rows : Values → List ℕ → List ℕ → Option Unit → Type 0
Rows m vs vs' r = MatchOption r (m.found ≡ false) (λ (t : Unit). (m.found ≡ true) × (vs' ≡ front m.values vs))

pub record Tests (s : List ℕ) (room : ℕ) (vs vs' : List ℕ) (r : Result Input Refusal) : Type 0 where
  pub answers : (outcome r).answer ≡ answer (input_rules s room) 0
  pub reads : IfOk r (λ (i : Input). (i.direction ≡ direction_in s) × (i.width ≡ width_in s) × (i.height ≡ height_in s) × (vs' ≡ front (rows_in s).values vs))
