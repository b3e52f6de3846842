pub mod ReadOnce
