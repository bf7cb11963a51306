-- The reader's page. Each file opens with what it promises, and each promise is one statement, from the contracts and definitions of the crates below.
--   Marked        P1 to P12 hold of the definitions
--   Versions      wrong versions of a call, each refused by the contract on an input that is written out
--   Refusals      demand 1: a call is done if and only if no rule is broken; a refused one changes nothing
--   Lengths       demand 2: how many pixels a length stands for in a frame call
--   Openings      demand 2: openings, erosion, dilation, the highest over sixteen directions and its direction, value by value; the lent row
--   Sums          demand 2: size sums, the rose, the summary
--   Stretches     demand 3: the list of bright stretches; openings and size sums from it; its fifth numbers
--   Texts         the sums text and the programs: what is written and read, the example byte for byte
--   Outcomes      one input allows one outcome; Engines: the same of the calls that only other crates of the library make
--   Facts         why the computing definitions say what specs/Equation says in facts
pub mod Marked
pub mod Versions
pub mod Facts
pub mod Refusals
pub mod Lengths
pub mod Openings
pub mod Sums
pub mod Stretches
pub mod Texts
pub mod Outcomes
pub mod Engines
