-- A record of which only the arrays that these rules read are known, and masks of segments.
pub mod Parts
pub mod Masks
