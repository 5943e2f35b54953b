-- What a tick may touch, once for every instruction, and from it the separation of one tick; the machine with fewer opcodes; the count.
pub mod Laws
pub mod Touch
pub mod OneTick
pub mod Older
pub mod Count
