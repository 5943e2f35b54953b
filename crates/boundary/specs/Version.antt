-- The version of include/separation_kernel.h that this archive is built with, as one number.
use Rattle.std.specs.Prelude.{ℕ, ◌+◌, ◌*◌}

abbrev pub major : ℕ
major = 3

abbrev pub minor : ℕ
minor = 1

-- The header's SK_VERSION.
abbrev pub version : ℕ
version = major * 65536 + minor
