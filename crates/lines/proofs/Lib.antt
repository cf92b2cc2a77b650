-- What the proofs of several functions use.
mod Ways
mod Loops
mod Entering
