-- The laws of answer/specs.
pub mod Rules
pub mod Refusals
