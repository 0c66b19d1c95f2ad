pub mod AsBox
