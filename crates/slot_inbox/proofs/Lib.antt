mod Gathers
mod SlotFacts
mod Taken
