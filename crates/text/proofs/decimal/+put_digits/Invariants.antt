-- The digits of the number without its last one, and then that one.
use Rattle.text.proofs.decimal.+put_digits.Given as goal

abbrev pub decreases-put_digits : goal.decreases-put_digits
decreases-put_digits l = l.v
