-- Facts on the segments that a tick reaches, and the step from a lawful policy record to what a tick rests on.
pub mod Laws
