-- The calls on 01's stored form: their answers, and that nothing is lost on the way.
pub mod Kinds
pub mod Settled
pub mod Admitted
pub mod Answers
pub mod RoundTrip
pub mod ByHand
