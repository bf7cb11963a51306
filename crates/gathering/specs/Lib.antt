-- What the contracts of the crate `gathering` cite.
--   Gathering, Scattering, Rows    the calls: their rules, and what they leave
--   Claiming                       the call `claim`: its test, and what it leaves
--   Steps                          what private contracts need
pub mod Gathering
pub mod Scattering
pub mod Claiming
pub mod Rows
pub mod Steps
