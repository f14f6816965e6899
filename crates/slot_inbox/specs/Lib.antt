pub mod Slots
pub mod SlotInbox
