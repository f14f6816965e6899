mod Gaps
mod Cuts
mod LaidIn
mod PackedFacts
