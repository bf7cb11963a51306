-- One digit a call: the number without its last digit has one fewer.
use Rattle.text.proofs.decimal.+digit_count.Given as goal

abbrev pub decreases-digit_count : goal.decreases-digit_count
decreases-digit_count l = l.v
