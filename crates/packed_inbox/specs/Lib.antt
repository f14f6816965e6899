pub mod Rows
pub mod PackedInbox
pub mod LentMemory
