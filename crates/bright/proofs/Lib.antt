-- The laws of bright/specs.
--   Levels      the level of a run, as it grows at either end
--   Model       one reading with a stack gives the list of bright stretches
--   Turn        what one pixel does to the open runs and the stretches to come
--   Stops       where a step of the reading stops, and what comes from there
--   Stack       the open runs in the scratch
--   Steps       the parts of a step of the generator, and what is to come after it
--   Outers      where a run ends, the run then on top goes on to be the next stretch of the list that does not start after it
--   Counting    how many stretches a line has, from the levels alone; no more than pixels
--   Listed      the list holds every stretch, and nothing else
--   Order       it is in order, and holds each once
--   Nest        a base is the level of the shortest other stretch that encloses
--   Enclosers   which of the list that is: exactly one place is right, and the fast rule finds it
--   Records     the list with these places as fifth numbers
--   Links       what the two passes of a nesting keep to
--   Laying      what the two loops of the listing keep to
--   Once        one input allows one outcome of each call
--   Examples    P7 to P10 and the program's example, computed from the definition, and the steps over the latter
pub mod Levels
pub mod Model
pub mod Turn
pub mod Stops
pub mod Stack
pub mod Steps
pub mod Outers
pub mod Counting
pub mod Listed
pub mod Order
pub mod Nest
pub mod Enclosers
pub mod Records
pub mod Links
pub mod Laying
pub mod Once
pub mod Examples
