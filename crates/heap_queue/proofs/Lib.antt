pub mod Bests
pub mod HeapOrder
pub mod Outs
pub mod Perms
pub mod Ranks
