pub mod Digits
pub mod RoundTrip
pub mod FiveDigits
pub mod Bits
pub mod Wrote
