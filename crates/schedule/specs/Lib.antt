-- Where ticks lead.
pub mod Places
