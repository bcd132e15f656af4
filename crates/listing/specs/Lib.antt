-- What a writer of the listing promises, and lines by hand.
pub mod Written
pub mod ByHand
