-- What can be said of a reading and a writing. What a stream has left to give, or holds, is known of streams over memory; of the system's streams it is not,
-- and no contract says what a call of the system reads or writes.
--   count_of r                         how many bytes a reading has put to the front of its buffer, whether or not a read then failed
--   Receives known known' buf buf' r   a reading into buf of a stream that gives the bytes `known`, where they are known: the buffer keeps its length, what is counted
--                                      stands in it and is what the stream gave, and where no read failed and there is room left, the stream gives no more
--   WritesFront known known' t done    a writing of t to a stream that holds the bytes `known`, where they are known: a front of t is added, and where it is done, t
--   Shows known known' t n r           a writing of the first n bytes of t: where it is done, there is one at least, and t has them; no other byte is written
--   Refuses known known' number        a printing of a refusal: its text has room, and no byte but of its front is written
use Rattle.std.specs.Prelude.{◌≡◌, Bool, true, List, ℕ, ◌<◌, ◌≤◌, length, take, Ok, Err, IfOk}
use Rattle.std.specs.Io.KnownBytes.{Appends, Consumes, IsAtEnd}
use Rattle.io.specs.Counts.{IsPrefixLen}
use Rattle.std.specs.declared.option.Option.{Option}
use Rattle.std.specs.declared.result.Result.{Result}
use Rattle.text.specs.Stretches.{refusal_text}
use Rattle.console.specs.declared.Cut.{Cut}

abbrev pub count_of : Result ℕ Cut → ℕ
count_of (Ok n) = n
count_of (Err cut) = cut.count

pub record Receives (known known' : Option (List ℕ)) (buf buf' : List ℕ) (r : Result ℕ Cut) : Type 0 where
  pub counted : IsPrefixLen (count_of r) buf'
  pub length-kept : length buf' ≡ length buf
  pub taken : Consumes known known' (take (count_of r) buf')
  pub ended : IfOk r (λ n. n < length buf' → IsAtEnd known')

pub record WritesFront (known known' : Option (List ℕ)) (t : List ℕ) (done : Bool) : Type 0 where
  pub written : (k : ℕ) × (k ≤ length t) × Appends known known' (take k t) × (done ≡ true → k ≡ length t)

pub record Shows (known known' : Option (List ℕ)) (t : List ℕ) (n : ℕ) (r : Bool) : Type 0 where
  pub counted : r ≡ true → (1 ≤ n) × (n ≤ length t)
  pub front : WritesFront known known' (take n t) r

pub record Refuses (known known' : Option (List ℕ)) (number : ℕ) : Type 0 where
  pub room : length (refusal_text number) ≤ 32
  pub front : (k : ℕ) × Appends known known' (take k (refusal_text number))
