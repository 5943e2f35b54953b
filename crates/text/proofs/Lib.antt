-- Laws of the definitions, one subject a file; none speaks of code.
pub mod Laws
-- What the second form of a number left as it was.
pub mod Forms
-- The lines of a text, read by decimal numbers alone and by both forms.
pub mod Lines
-- The claim over the examples.
pub mod Examples
