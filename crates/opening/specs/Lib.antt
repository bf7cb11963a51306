-- What the contracts of the crate `opening` cite.
--   Pixels                    an opened frame, the highest of sixteen openings, and its direction, pixel by pixel
--   Frames, Sixteen           the calls: their rules, and what they leave
--   Host                      the entry for the camera's host, written in C
--   Steps                     what private contracts need
pub mod Pixels
pub mod Frames
pub mod Sixteen
pub mod Host
pub mod Steps
