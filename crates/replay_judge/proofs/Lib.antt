pub mod Following
pub mod WhatLine
pub mod InputEnd
pub mod LineEnd
pub mod GoingOn
pub mod Fed
pub mod Finished
pub mod Replayed
